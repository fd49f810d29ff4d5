use Rattle.std.proofs.Common.{◌≡◌, drop}
use Rattle.abc_voices.specs.Layout.{last_off}
use Rattle.abc_voices.proofs.timing.last_off.Given as goal

-- the last so far, and of the rest
abbrev pub invariant-loop-note : goal.invariant-loop-note
invariant-loop-note l = last_off l.last.0 (drop l.note-index l.notes) ≡ last_off l.fn.at.0 l.notes
