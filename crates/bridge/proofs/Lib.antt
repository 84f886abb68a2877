-- A byte's effect agrees with the grammar's scanner, and the laws that this needs.
pub mod View
pub mod Flags
pub mod Openings
pub mod Decisions
pub mod Between
pub mod Inside
pub mod Agrees
pub mod StepOutcomes
pub mod Demand1
pub mod Demand2
pub mod Demand3
pub mod Measures
pub mod Answers
pub mod Judges
pub mod Faults
pub mod Streams
pub mod Edges
