pub mod Event
pub mod File
pub mod Groups
pub mod Number
pub mod Order
pub mod Track
pub mod TrackEvents
pub mod Voice
-- The definitions of the crates below that public clauses cite: a caller needs only this crate.
pub use Rattle.abc_voices_score.specs.Limits
