-- Settings saved and loaded again, the ways out of switch-on, and the factory start.
pub mod Saved
pub mod NoSettings
pub mod SwitchOutcomes
pub mod Start
