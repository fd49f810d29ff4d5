-- The definitions of `abc_live` for sessions and edits.
pub use Rattle.abc_live.specs.Book.{book_of}
pub use Rattle.abc_live.specs.Edit.{line_at, splice_of}
pub use Rattle.abc_live.specs.EditError.{name_of}
pub use Rattle.abc_live.specs.Edits.{Refuses, edited}
pub use Rattle.abc_live.specs.Fault.{fault_cmp}
pub use Rattle.abc_live.specs.Files.{file_at}
pub use Rattle.abc_live.specs.Limits.{MOST_LINES}
pub use Rattle.abc_live.specs.Report.{Reports}
pub use Rattle.abc_live.specs.Session.{book_in}
pub use Rattle.abc_live.specs.Tokens.{RefusesLine, tokens_at, work_at}
