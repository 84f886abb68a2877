-- Laws that the proofs of this crate and of the crates above cite.
pub mod CallTests
pub mod Heads
pub mod Carried
pub mod Progress
pub mod Reaching
pub mod Room
