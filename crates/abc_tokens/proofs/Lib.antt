pub mod Chords
pub mod Joined
pub mod KindLaws
pub mod PartsFilled
