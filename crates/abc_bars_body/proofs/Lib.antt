pub mod BodyOpenings
pub mod FieldLaws
pub mod HereLaws
pub mod Mentions
pub mod SilentChords
pub mod Voices
