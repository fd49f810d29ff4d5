pub mod Answers
pub mod CodeNames
pub mod Codes
pub mod Copies
pub mod FaultNames
pub mod Faults
pub mod Handle
pub mod PlayRecords
pub mod Sessions
pub mod Slot
pub mod TextChange
pub mod TokenRecords
pub mod WholeText
-- The definitions of the crates below that public clauses cite: a caller needs only this crate.
pub use Rattle.abc_lines.specs.Edits
pub use Rattle.abc_lines.specs.TextLines
