use Rattle.std.specs.Prelude.{◌≡◌, flat_map, take}
use Rattle.abc2midi_live_protocol.specs.Answer.{title_line}
use Rattle.abc2midi_live_protocol.proofs.answer.title_list.Given as goal

-- the titles so far are known
abbrev pub invariant-loop-title : goal.invariant-loop-title
invariant-loop-title l = l.text.items ≡ flat_map title_line (take l.title-index l.titles)
