-- Laws that the proofs of this crate and of the crates above cite.
pub mod Flags
pub mod InRange
pub mod SameBits
pub mod Protected
pub mod OneBit
pub mod Faults
