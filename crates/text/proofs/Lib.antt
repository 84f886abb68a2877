-- Laws that the proofs of several functions cite.
pub mod Spans
pub mod Sameness
pub mod Reading
pub mod Loops
pub mod Listing
