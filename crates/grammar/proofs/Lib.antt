-- The theorems on the grammar, and laws that the functions' proofs cite.
pub mod Table
pub mod Lookups
pub mod Bytes
pub mod Scans
pub mod Walks
pub mod Divisions
pub mod Codes
pub mod Decides
pub mod Verdicts
pub mod Follows
pub mod Demand3
pub mod Leads
