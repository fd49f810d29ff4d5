-- The definitions of `abc_tune` for tunes, compilers and the memo.
pub use Rattle.abc_tune.specs.Built.{build_faults_of, bytes_of}
pub use Rattle.abc_tune.specs.Bytes.{line_bytes}
pub use Rattle.abc_tune.specs.CompilerLaws.{AreLawful}
pub use Rattle.abc_tune.specs.LruCache.{promoted}
pub use Rattle.abc_tune.specs.Memo.{AreItemsOf, Remembers}
pub use Rattle.abc_tune.specs.Rules.{Rules}
pub use Rattle.abc_tune.specs.Work.{raised}
