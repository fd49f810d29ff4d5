pub mod Counting
pub mod Edit
pub mod Limits
pub mod Owner
pub mod Prepared
pub mod Session
pub mod Tokens
-- The definitions of the crates below that public clauses cite, or that a compiler is defined by: a caller, or the author
-- of a compiler, needs only this crate.
pub use Rattle.abc_fold.specs.Steps
pub use Rattle.abc_fold.specs.Work
pub use Rattle.abc_lines.specs.EditError
pub use Rattle.abc_lines.specs.Edits
pub use Rattle.abc_lines.specs.Text
pub use Rattle.abc_scan.specs.Class
pub use Rattle.abc_text.specs.LineEnd
pub use Rattle.abc_tokens.specs.Columns
pub use Rattle.abc_tokens.specs.Kinds
pub use Rattle.abc_tokens.specs.LineTokens
pub use Rattle.abc_tokens.specs.Scanned
pub use Rattle.abc_tune_compiler.specs.Book
pub use Rattle.abc_tune_compiler.specs.Fault
pub use Rattle.abc_tune_compiler.specs.Files
pub use Rattle.abc_tune_compiler.specs.Lawful
pub use Rattle.abc_tune_compiler.specs.Report
pub use Rattle.abc_tune_compiler.specs.Rules
pub use Rattle.abc_tune_compiler.specs.Tune
