-- The effects of calls on sessions of ABC.
use Rattle.std.specs.Prelude.{◌≡◌, ◌≢◌, ◌⊎◌, ℕ, [], Option, None, Some, Result, Ok, Err, IsSomeAnd}
use Rattle.abc_lines.specs.Edits.{edited}
use Rattle.abc_lines.specs.declared.edit_error.EditError.{EditError}
use Rattle.abc_lines.specs.Text.{Splice, Text}
use Rattle.abc_live.specs.Book.{Book}
use Rattle.abc_live.specs.Counting.{MayCost, cost_of}
use Rattle.abc_live.specs.Report.{Reports}
use Rattle.abc_live.specs.Session.{book_in}
use Rattle.abc_tune.specs.Abc.{rules_of_abc, steps_of_abc}
use Rattle.abc_fold.specs.Work.{Counters}
use Rattle.c_handle.specs.declared.open_session.OpenSession.{OpenSession}
use Rattle.c_handle.specs.Codes.{code_of}
use Rattle.c_handle.specs.declared.codes.TheConstants.{CODE_OK, CODE_MISUSED, CODE_OUT_OF_MEMORY}

-- The book of a session's text.
abbrev pub book_of : OpenSession → Book
book_of held = book_in (λ _. steps_of_abc) (λ _. rules_of_abc) held.session

-- A session without lines, before its first edit.
pub record IsFresh (held : OpenSession) : Type 0 where
  pub text : held.session.text ≡ []
  pub written : held.report.written.items ≡ []
  pub removed : held.report.removed.items ≡ []

-- A slot without a session gets one, unless an allocation fails. One with a session keeps it.
abbrev pub IsOpened : Option OpenSession → ℕ → Option OpenSession → Type 0
IsOpened None code after = ((code ≡ CODE_OK) × IsSomeAnd after IsFresh) ⊎ ((code ≡ CODE_OUT_OF_MEMORY) × (after ≡ None))
IsOpened (Some before) code after = (code ≡ CODE_MISUSED) × (after ≡ Some before)

-- A slot has no session afterwards.
abbrev pub IsClosed : Option OpenSession → ℕ → Option OpenSession → Type 0
IsClosed None code after = (code ≡ CODE_MISUSED) × (after ≡ None)
IsClosed (Some before) code after = (code ≡ CODE_OK) × (after ≡ None)

-- The text of a session is now this one, and its report lists the files that differ.
pub record HasText (before : OpenSession) (wanted : Text) (after : OpenSession) : Type 0 where
  pub text : after.session.text ≡ wanted
  pub report : Reports (book_of before).files (book_of after).files after.report

-- The text after an edit is that of the session, unless an allocation fails. An edit that is refused leaves the session as it was.
abbrev pub EditsBy : Result Text EditError → OpenSession → ℕ → OpenSession → Type 0
EditsBy (Ok text) before code after =
    ((code ≡ CODE_OK) × HasText before text after) ⊎ ((code ≡ CODE_OUT_OF_MEMORY) × (after ≡ before))
EditsBy (Err error) before code after = (code ≡ code_of error) × (after ≡ before)

-- A session is edited.
abbrev pub Edits : Option Splice → OpenSession → ℕ → OpenSession → Type 0
Edits splice before code after = EditsBy (edited before.session.text splice) before code after

-- The session of a slot is edited, and stays in the slot.
abbrev pub EditsSlot : Option Splice → Option OpenSession → ℕ → Option OpenSession → Type 0
EditsSlot splice None code after = (code ≡ CODE_MISUSED) × (after ≡ None)
EditsSlot splice (Some before) code after = IsSomeAnd after (Edits splice before code)

-- The counters stay at a refused edit, unless an allocation fails.
abbrev pub CountsNoRefusal : ℕ → Counters → Counters → Type 0
CountsNoRefusal code before after = code ≢ CODE_OK → code ≢ CODE_OUT_OF_MEMORY → after ≡ before

-- What an edit of a slot costs at most.
abbrev pub CostsSlot : Option Splice → Option OpenSession → Counters → Counters → Type 0
CostsSlot splice None before after = after ≡ before
CostsSlot splice (Some held) before after = MayCost (cost_of steps_of_abc rules_of_abc held.session.text splice) before after
