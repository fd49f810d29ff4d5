use Rattle.abc_bars.proofs.LookBack.FaultsOfLengths.{bad_lengths, big_chords}
use Rattle.abc_bars.proofs.laws.cell_faults.length_faults_of_cells.Goals as goal

pub returns-clause-lengths : goal.returns-clause-lengths
returns-clause-lengths c = bad_lengths

pub returns-clause-chords : goal.returns-clause-chords
returns-clause-chords c = big_chords
