-- What contracts see of a session: its compiler and its text, which determine all else, and what is kept of the text.
-- Not in ABC 2.1.
use Rattle.abc_live_text.specs.KeptText.{KeptTextView}
use Rattle.std.specs.Prelude.{List}
use Rattle.abc_fold.specs.Steps.{Steps}
use Rattle.abc_live_index.specs.KeptBook.{KeptBookView}
use Rattle.abc_lines.specs.Text.{Text}
use Rattle.abc_tune_compiler.specs.Book.{Book, blocks_in, book_of, compiled_text_of}
use Rattle.abc_tune_compiler.specs.Rules.{Rules}
use Rattle.abc_tune_compiler.specs.declared.report.Report.{Report}
use Rattle.abc_tune_compiler.specs.Tune.{Tune}

-- A compiler of tunes, a text, and both with all that is kept of the text and of its book.
pub record SessionView (C State Cell Items : Type 0) : Type 0 where
  pub compiler : C
  pub text : Text
  pub kept : KeptTextView C State Cell Items
  pub book : KeptBookView

abbrev pub session_view : {C State Cell Items : Type 0} → KeptTextView C State Cell Items → KeptBookView
    → SessionView C State Cell Items
session_view kept book = record { compiler = kept.compiler; text = kept.lines.text; kept = kept; book = book }

-- The book of a session's text, by the definitions of its compiler.
abbrev pub book_in : {C State Cell Items Defaults : Type 0} → (C → Steps State Cell Items)
    → (C → Rules State Cell Items Defaults) → SessionView C State Cell Items → Book
book_in steps rules s = book_of (steps s.compiler) (rules s.compiler) s.text

-- The tunes of a session's text, in order.
abbrev pub session_tunes : {C State Cell Items Defaults : Type 0} → (C → Steps State Cell Items)
    → (C → Rules State Cell Items Defaults) → SessionView C State Cell Items → List Tune
session_tunes steps rules s = (compiled_text_of (steps s.compiler).next (steps s.compiler).gives (rules s.compiler) s.text
    (blocks_in (rules s.compiler) s.text)).tunes

-- A session, its text after an edit, and how its files will differ.
pub record EditPatchView (C State Cell Items : Type 0) : Type 0 where
  pub on : SessionView C State Cell Items
  pub text : Text
  pub report : Report
