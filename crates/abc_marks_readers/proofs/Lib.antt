pub mod ChordKinds
pub mod Decorations
pub mod Names
pub mod Steps
