pub mod SwitchOn
pub mod Saved
pub mod Start
