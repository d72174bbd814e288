pub mod Tables
pub mod JobRows
pub mod Endings
pub mod Taken
pub mod FindingRows
