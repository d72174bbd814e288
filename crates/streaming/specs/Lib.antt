pub mod Gathered
pub mod Opened
