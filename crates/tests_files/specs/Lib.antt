pub mod Opened
pub mod Scores
pub mod Tunes
pub mod Values
