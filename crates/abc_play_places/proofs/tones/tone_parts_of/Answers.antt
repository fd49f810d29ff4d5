use Rattle.std.proofs.Common.{◌≡◌, ◌∙◌, arith}
use Rattle.std.proofs.lemmas.Grind.{common_steps}
use Rattle.abc_play_places.specs.ToneGivers.{tone_parts}
use Rattle.abc_play_places.proofs.ChordTones.{tone_parts-givers}
use Rattle.abc_play_places.proofs.tones.tone_parts_of.Goals as goal

pub returns-clause-exact : goal.returns-clause-exact
returns-clause-exact c = λ state broken context.
    let found : c.loop-at.found.items ≡ tone_parts 0 0 c.args.parts.now = grind (arith, common_steps) in
    found ∙ tone_parts-givers state broken context c.args.parts.now
