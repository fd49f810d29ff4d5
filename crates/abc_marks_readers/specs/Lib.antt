pub mod Block
pub mod ChordKind
pub mod Decoration
pub mod Directive
pub mod Harmony
pub mod Pattern
pub mod PipeKey
