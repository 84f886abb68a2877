-- Laws that the proofs of this crate and of the crates above cite.
pub mod Bytes
pub mod Places
pub mod Filled
pub mod Moves
pub mod Loads
pub mod Shifts
