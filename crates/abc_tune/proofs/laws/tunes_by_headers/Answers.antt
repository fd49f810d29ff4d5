use Rattle.abc_tune.proofs.HeaderText.{misses_key_by_text, number_by_text, tempo_range_by_text}
use Rattle.abc_tune.proofs.laws.tunes_by_headers.Goals as goal

pub returns : goal.returns
returns c = record { missing_key = misses_key_by_text; tempo_range = tempo_range_by_text; number = number_by_text }
