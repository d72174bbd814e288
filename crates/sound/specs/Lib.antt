pub mod Calls
pub mod OneProof
pub mod SoundCache
