pub mod Files
pub mod Grouped
pub mod Lengths
pub mod NumberTexts
pub mod Ordered
pub mod Timed
pub mod Turned
pub mod Voices
