-- A score from which a file can be written.
pub mod Notes
pub mod Count
pub mod Kept
pub mod Voices
pub mod Changes
pub mod Three
pub mod Whole
