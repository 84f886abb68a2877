pub mod Registers
pub mod Ranges
pub mod Protected
pub mod Bits
