pub mod Transcript
pub mod Events
