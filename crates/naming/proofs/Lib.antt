pub mod Endings
pub mod Naming
