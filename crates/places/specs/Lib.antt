pub mod SlotWrites
pub mod Places
