use Rattle.std.proofs.Common.{◌≡◌, drop}
use Rattle.std.specs.List.{flat_map}
use Rattle.abc_voices.specs.Layout.{last_off}
use Rattle.abc_voices.proofs.tune_score.latest_end.Given as goal

-- the last so far, and of the other voices
abbrev pub invariant-loop-notes : goal.invariant-loop-notes
invariant-loop-notes l = last_off l.last.0 (flat_map (λ notes. notes) (drop l.notes-index l.voices)) ≡ last_off l.fn.at.0 (flat_map (λ notes. notes) l.voices)
