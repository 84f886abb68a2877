pub mod Commands
pub mod Cuts
pub mod Statements
pub mod Parsed
pub mod Script
