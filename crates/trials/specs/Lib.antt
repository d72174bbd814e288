pub mod SoundCalls
