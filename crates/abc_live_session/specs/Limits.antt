-- The limits of the crates below that public clauses cite.
pub use Rattle.abc_lines.specs.declared.limits.TheConstants.{MOST_LINES}
