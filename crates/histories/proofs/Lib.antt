pub mod Beginning
pub mod Stepping
pub mod Rows
pub mod Upholding
