pub mod Waveforms
pub mod Sensed
pub mod Samples
