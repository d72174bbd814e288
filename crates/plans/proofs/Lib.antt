pub mod Lowest
pub mod Entries
pub mod Blocks
pub mod Words
pub mod Named
pub mod Firsts
pub mod Restoring
pub mod Refusing
