pub mod ByteLists
pub mod Checks
pub mod Zeros
