pub mod Mark
pub mod Order
pub mod OrderPlay
pub mod OrderSize
pub mod Play
pub mod PlayLaws
pub mod Runs
pub mod Section
pub mod Strain
-- The definitions of the crates below that public clauses cite: a caller needs only this crate.
pub use Rattle.abc_fields.specs.Parts
