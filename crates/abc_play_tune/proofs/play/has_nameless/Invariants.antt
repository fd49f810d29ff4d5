use Rattle.std.proofs.Common.{◌≡◌, drop}
use Rattle.std.specs.List.{list_any}
use Rattle.abc_voices_sections.specs.Items.{items_of}
use Rattle.abc_play_tune.specs.Play.{is_nameless}
use Rattle.abc_play_tune.proofs.play.has_nameless.Given as goal

-- the rest says what the whole does
abbrev pub invariant-loop-item : goal.invariant-loop-item
invariant-loop-item l = list_any is_nameless (items_of (drop l.item-index l.tune)) ≡ list_any is_nameless (items_of l.tune)
