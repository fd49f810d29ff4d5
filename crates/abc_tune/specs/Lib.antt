pub mod Abc
pub mod Built
pub mod HeaderText
pub mod Lawful
pub mod Lines
pub mod Title
pub mod WholeFaults
-- The definitions of the crates below that public clauses cite: a caller needs only this crate.
pub use Rattle.abc_tune_compiler.specs.Lawful as CompilerLaws
pub use Rattle.abc_fold.specs.Work
pub use Rattle.abc_tune_memo.specs.Bytes
pub use Rattle.abc_tune_memo.specs.LruCache
pub use Rattle.abc_tune_memo.specs.Memo
pub use Rattle.abc_tune_compiler.specs.Rules
