pub mod Lines
pub mod Waves
