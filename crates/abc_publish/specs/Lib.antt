pub mod Laws
pub mod Publisher
-- The definitions of the crates below that public clauses cite: a caller needs only this crate.
pub use Rattle.abc_live_session.specs.Session
