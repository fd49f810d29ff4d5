use Rattle.std.proofs.Common.{◌≡◌, ◌+◌, ◌≤◌, drop}
use Rattle.abc_voices.specs.Ties.{tones_with}
use Rattle.abc_play_tune.proofs.joined.tones_with.Given as goal

-- what is counted so far, and the rest
abbrev pub invariant-loop-tone : goal.invariant-loop-tone
invariant-loop-tone l = record {
  counted : l.count + tones_with l.key (drop l.tone-index l.tones) ≡ tones_with l.key l.tones;
  few : l.count ≤ l.tone-index;
}
