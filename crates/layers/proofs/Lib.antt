pub mod Passed
pub mod Windows
