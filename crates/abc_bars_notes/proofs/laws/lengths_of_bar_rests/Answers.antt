use Rattle.abc_bars_notes.proofs.Lasting.{bar_rests_last, free_bar_rests}
use Rattle.abc_bars_notes.proofs.laws.lengths_of_bar_rests.Goals as goal

pub returns-clause-bars : goal.returns-clause-bars
returns-clause-bars c = bar_rests_last

pub returns-clause-free : goal.returns-clause-free
returns-clause-free c = free_bar_rests
