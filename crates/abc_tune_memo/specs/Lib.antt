pub mod Bytes
pub mod Memo
-- The definitions of the crates below that public clauses cite: a caller needs only this crate.
pub use Rattle.lru.specs.LruCache
