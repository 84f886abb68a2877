pub mod Collecting
