pub mod Reading
pub mod Levels
