pub mod Exported
pub mod Replaying
