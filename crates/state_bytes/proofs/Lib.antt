-- Laws that the proofs of this crate and of the crates above cite.
pub mod Parts
pub mod Sizes
pub mod Waits
pub mod Back
