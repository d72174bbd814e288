pub mod Parts
pub mod BlockReads
pub mod JobReads
pub mod Pairs
pub mod TwoJobs
