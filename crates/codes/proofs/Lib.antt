pub mod Both
pub mod Lookup
