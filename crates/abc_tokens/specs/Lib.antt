pub mod LineTokens
pub mod Columns
pub mod Scanned
pub mod Kinds
-- The definitions of the crates below that public clauses cite: a caller needs only this crate.
pub use Rattle.abc_fold.specs.Work
pub use Rattle.abc_scan.specs.Class
pub use Rattle.abc_scan.specs.Line
pub use Rattle.abc_text.specs.LineEnd
