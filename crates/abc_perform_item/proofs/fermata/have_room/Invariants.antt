use Rattle.std.proofs.Common.{◌≡◌, drop}
use Rattle.abc_perform_item.specs.Fermata.{have_room}
use Rattle.abc_perform_item.proofs.fermata.have_room.Given as goal

abbrev pub invariant-loop-tone : goal.invariant-loop-tone
invariant-loop-tone l = have_room (drop l.tone-index l.tones) ≡ have_room l.tones
