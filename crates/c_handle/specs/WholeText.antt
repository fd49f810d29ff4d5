-- The effects of a call that gives a session a whole text.
use Rattle.std.specs.Prelude.{◌≡◌, ◌⊎◌, ℕ, Option, None, Some, IsSomeAnd}
use Rattle.abc_fold.specs.Work.{Counters}
use Rattle.abc_lines.specs.Text.{Splice, Text}
use Rattle.abc_live.specs.Counting.{MayCost, cost_of}
use Rattle.abc_tune.specs.Abc.{rules_of_abc, steps_of_abc}
use Rattle.c_handle.specs.declared.open_session.OpenSession.{OpenSession}
use Rattle.c_handle.specs.declared.codes.TheConstants.{CODE_MISUSED}
use Rattle.c_handle.specs.Sessions.{EditsBy}
use Rattle.c_handle.specs.TextChange.{IsChange, whole_text}

-- The session of a slot has the text of these lines, unless they are refused or an allocation fails.
abbrev pub SetsSlot : Text → Option OpenSession → ℕ → Option OpenSession → Type 0
SetsSlot lines None code after = (code ≡ CODE_MISUSED) × (after ≡ None)
SetsSlot lines (Some before) code after = IsSomeAnd after (EditsBy (whole_text lines) before code)

-- The counters rise at most as for one edit of the lines that differ, from the first to the last.
abbrev pub CostsText : Text → OpenSession → Counters → Counters → Type 0
CostsText lines held before after = (after ≡ before) ⊎ ((s : Splice) × IsChange held.session.text lines s
    × MayCost (cost_of steps_of_abc rules_of_abc held.session.text (Some s)) before after)

abbrev pub CostsTextOfSlot : Text → Option OpenSession → Counters → Counters → Type 0
CostsTextOfSlot lines None before after = after ≡ before
CostsTextOfSlot lines (Some held) before after = CostsText lines held before after
