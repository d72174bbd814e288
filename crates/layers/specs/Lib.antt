pub mod Counting
pub mod Layer
pub mod Window
