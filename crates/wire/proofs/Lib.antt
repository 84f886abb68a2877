-- Laws that the proofs of this crate and of the crates above cite.
pub mod Choices
pub mod Actions
pub mod Buffers
pub mod Samples
