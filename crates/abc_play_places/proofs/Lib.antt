pub mod Adding
pub mod ChordTones
pub mod Matched
