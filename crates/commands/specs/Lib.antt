pub mod Commands
pub mod Legality
