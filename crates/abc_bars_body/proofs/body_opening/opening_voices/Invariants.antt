use Rattle.std.proofs.Common.{◌≡◌, map, take}
use Rattle.abc_bars_body.specs.BodyOpening.{opening_voice}
use Rattle.abc_bars_body.proofs.body_opening.opening_voices.Given as goal

abbrev pub invariant-loop-at : goal.invariant-loop-at
invariant-loop-at l = l.voices ≡ map (opening_voice l.header l.key) (take l.at l.header.voices)
