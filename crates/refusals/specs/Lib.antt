pub mod Refusals
pub mod RefusalText
