-- Laws of edits that are refused.
use Rattle.std.proofs.Common.{ℕ, Option, Some, None, refl, sym, ap, Result, Ok, Err, inl, inr, arith}
use Rattle.abc_lines.specs.Edits.{Refuses}
use Rattle.abc_lines.specs.Text.{Splice, Text}
use Rattle.abc_fold.specs.Work.{Counters, raised}
use Rattle.abc_live.specs.Counting.{Cost, HasRisen, MayCost, cost_of}
use Rattle.abc_tune.specs.Abc.{rules_of_abc, steps_of_abc}
use Rattle.abc_lines.specs.declared.edit_error.EditError.{EditError}
use Rattle.c_handle.specs.declared.open_session.OpenSession.{OpenSession}
use Rattle.c_handle.specs.Codes.{code_of}
use Rattle.c_handle.specs.Sessions.{CostsSlot, EditsBy}

abbrev error_in : EditError → Result Text EditError → EditError
error_in other (Ok text) = other
error_in other (Err error) = error

-- The answer to a refused edit is its code, and the session is unchanged.
pub refused_edits : (answer : Result Text EditError) (held : OpenSession) (e : EditError) → Refuses e answer → EditsBy answer held (code_of e) held
refused_edits (Ok text) held e (inl is) = cc
refused_edits (Ok text) held e (inr (none, ok)) = inr (ap code_of none, refl)
refused_edits (Err error) held e (inl is) = (ap code_of (sym (ap (error_in e) is)), refl)
refused_edits (Err error) held e (inr (none, ok)) = cc

-- Counters that stay have risen by any cost at most.
not_risen : (k n : ℕ) → HasRisen k n n
unfolding raised
not_risen k n = record { least = omega arith; most = omega arith }

pub unworked : (cost : Option Cost) (work : Counters) → MayCost cost work work
unworked None work = refl
unworked (Some cost) work = record { lines = not_risen cost.lines work.scanned; steps = not_risen cost.steps work.folded; tunes = not_risen cost.tunes work.built }

pub unworked_slot : (splice : Option Splice) (held : Option OpenSession) (work : Counters) → CostsSlot splice held work work
unworked_slot splice None work = refl
unworked_slot splice (Some held) work = unworked (cost_of steps_of_abc rules_of_abc held.session.text splice) work
