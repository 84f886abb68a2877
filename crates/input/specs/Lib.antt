pub mod Arguments
pub mod Front
