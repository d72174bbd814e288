pub mod WindowOnImage
pub mod WindowCacheSparse
