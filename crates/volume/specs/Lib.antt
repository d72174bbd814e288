pub mod Performing
pub mod Directory
pub mod Invariants
pub mod Kept
pub mod Outcomes
