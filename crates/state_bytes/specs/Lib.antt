pub mod StateBytes
pub mod Parts
