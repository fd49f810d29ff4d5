-- The definitions that public clauses of a session cite, or that a compiler is defined by: a caller, or the author of a
-- compiler, needs only this crate.
pub use Rattle.abc_live_session.specs.Book
pub use Rattle.abc_live_session.specs.Class
pub use Rattle.abc_live_session.specs.Columns
pub use Rattle.abc_live_session.specs.Kinds
pub use Rattle.abc_live_session.specs.Counting
pub use Rattle.abc_live_session.specs.Edit
pub use Rattle.abc_live_session.specs.EditError
pub use Rattle.abc_live_session.specs.Edits
pub use Rattle.abc_live_session.specs.Fault
pub use Rattle.abc_live_session.specs.Files
pub use Rattle.abc_live_session.specs.Lawful
pub use Rattle.abc_live_session.specs.Limits
pub use Rattle.abc_live_session.specs.LineEnd
pub use Rattle.abc_live_session.specs.LineTokens
pub use Rattle.abc_live_session.specs.Prepared
pub use Rattle.abc_live_session.specs.Report
pub use Rattle.abc_live_session.specs.Rules
pub use Rattle.abc_live_session.specs.Scanned
pub use Rattle.abc_live_session.specs.Session
pub use Rattle.abc_live_session.specs.Steps
pub use Rattle.abc_live_session.specs.Text
pub use Rattle.abc_live_session.specs.Tokens
pub use Rattle.abc_live_session.specs.Tune
pub use Rattle.abc_live_session.specs.Work
