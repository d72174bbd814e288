pub mod Buffers
pub mod Blocks
pub mod Answers
