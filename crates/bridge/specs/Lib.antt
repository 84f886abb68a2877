pub mod Answering
pub mod Views
pub mod Judging
pub mod Demands
pub mod Faults
pub mod Streams
pub mod Edges
pub mod Measuring
