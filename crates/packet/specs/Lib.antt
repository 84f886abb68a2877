pub mod Register
pub mod Packet
pub mod Alignment
pub mod Shift
