pub mod Model
pub mod Events
pub mod Agreement
pub mod Preserved
pub mod Examples
