-- What a fermata may double.
use Rattle.std.proofs.Common.{◌≡◌, true, List, arith}
use Rattle.std.proofs.lemmas.Grind.{common_steps}
use Rattle.abc_bars_items.specs.declared.item.Tone.{Tone}
use Rattle.abc_perform_item.specs.Fermata.{AreHeld, have_room}

-- Tones with room are not too long when they are doubled.
pub held_by_room : (tones : List Tone) → have_room tones ≡ true → AreHeld 2 tones
held_by_room tones room = record { each = grind (arith, common_steps) }
