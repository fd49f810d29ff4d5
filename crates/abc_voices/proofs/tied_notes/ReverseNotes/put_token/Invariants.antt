use Rattle.std.proofs.Common.{◌≡◌, drop}
use Rattle.abc_voices.specs.TiedNotes.{with_tones}
use Rattle.abc_voices.proofs.tied_notes.ReverseNotes.put_token.Given as goal

-- what has begun, and the rest
abbrev pub invariant-loop-tone : goal.invariant-loop-tone
invariant-loop-tone l = record {
  linked : with_tones l.at.0 l.self.linked (drop l.tone-index l.tones) ≡ with_tones l.at.0 l.initial.self.linked l.tones;
  others : l.self.others ≡ l.initial.self.others;
}
