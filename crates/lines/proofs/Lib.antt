-- Laws that the proofs of this crate and of the crates above cite.
pub mod Rows
pub mod Levels
pub mod Samples
