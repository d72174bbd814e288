pub mod Glue
pub mod Entering
pub mod Filling
pub mod Passes
