-- The tunes of a book before and after a change. Not in ABC 2.1.
use Rattle.std.specs.Prelude.{◌≡◌, ◌+◌, ◌-◌, ◌≤◌, List, length, take, drop}
use Rattle.abc_live_index.specs.declared.tune_change.TuneChange.{TuneChange}
use Rattle.abc_live_index.specs.declared.output.Output.{Output}

-- The outputs of the tunes before a change.
abbrev pub old_outputs : TuneChange → List Output
old_outputs change = change.before.now.items

-- The outputs of the tunes after a change.
abbrev pub new_outputs : TuneChange → List Output
new_outputs change = change.splice.now.after.items

-- The tunes are the same but for a range of them, which others replace.
pub record IsChange (change : TuneChange) : Type 0 where
  pub on : change.splice.now.on ≡ change.before.now
  pub order : change.tunes.from ≤ change.tunes.to
  pub inside : change.tunes.to ≤ length (old_outputs change)
  pub count : length (new_outputs change) ≡ change.tunes.from + change.tunes.came + (length (old_outputs change) - change.tunes.to)
  pub front : take change.tunes.from (new_outputs change) ≡ take change.tunes.from (old_outputs change)
  pub following : drop (change.tunes.from + change.tunes.came) (new_outputs change) ≡ drop change.tunes.to (old_outputs change)
