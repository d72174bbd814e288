pub mod Slots
pub mod Rows
pub mod Memory
pub mod Calls
pub mod Plans
pub mod Cases
