pub mod Pieces
pub mod Endings
pub mod Committing
pub mod Openings
