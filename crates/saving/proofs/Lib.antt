pub mod Rooms
pub mod Endings
