pub mod Grammar
pub mod WrongCode
pub mod Scanner
pub mod Verdict
pub mod Machines
pub mod Following
pub mod Lookups
