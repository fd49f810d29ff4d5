pub mod Remembering
pub mod Tunes
