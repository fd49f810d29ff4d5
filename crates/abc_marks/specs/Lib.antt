pub mod ChordName
pub mod Decoration
pub mod Directive
pub mod GraceNote
pub mod Mark
pub mod Marks
