-- Laws that the proofs of this crate and of the crates above cite.
pub mod Sent
pub mod KeptParts
pub mod Changes
pub mod Keeps
pub mod Answers
pub mod Sorted
pub mod Rejects
pub mod Samples
pub mod Bounds
