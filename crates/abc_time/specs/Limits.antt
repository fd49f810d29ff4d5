-- The limits of the crates below that public clauses cite.
pub use Rattle.abc_text.specs.declared.digit.TheConstants.{LARGEST_NUMBER}
