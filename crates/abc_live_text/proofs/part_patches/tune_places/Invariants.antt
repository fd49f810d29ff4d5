use Rattle.std.proofs.Common.{◌≡◌, map, take}
use Rattle.abc_book.specs.Laws.{move_block}
use Rattle.abc_live_text.proofs.part_patches.tune_places.Given as goal

abbrev pub invariant-loop-i : goal.invariant-loop-i
invariant-loop-i l = record {
  made : l.places.items ≡ map (move_block l.stretch.lines.from) (take l.i l.tunes);
}
