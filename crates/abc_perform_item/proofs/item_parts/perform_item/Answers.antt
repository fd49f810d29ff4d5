use Rattle.std.proofs.Common.{◌≡◌, [], ◌∷◌}
use Rattle.abc_perform_item.proofs.item_parts.perform_item.Goals as goal

pub returns-in-One : goal.returns-in-One
returns-in-One c =
    let same : c.in-One.tone ∷ [] ≡ c.in-Tone.tones = c.in-One.ensures in
    rw (c.in-Tone.is, ← same) c.put_tones.ensures

pub returns-in-List : goal.returns-in-List
returns-in-List c =
    let same : c.in-List.tones.now ≡ c.in-Tone.tones = c.in-List.ensures in
    rw (c.in-Tone.is, ← same) c.put_tones-in-List.ensures
