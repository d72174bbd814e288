pub mod Calls
pub mod Faults
pub mod FaultText
pub mod Meaning
pub mod Transfers
