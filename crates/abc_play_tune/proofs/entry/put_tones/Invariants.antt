use Rattle.std.proofs.Common.{◌≡◌, ◌++◌, [], take, drop}
use Rattle.abc_play_tune.specs.Entries.{tone_entries}
use Rattle.abc_play_tune.proofs.entry.put_tones.Given as goal

-- the entries so far, and those of the rest
abbrev pub invariant-loop-index : goal.invariant-loop-index
invariant-loop-index l = l.entries.items ++ tone_entries l.previous l.at.0 l.place (take l.index l.tones) (drop l.index l.tones)
    ≡ l.initial.entries.items ++ tone_entries l.previous l.at.0 l.place [] l.tones
