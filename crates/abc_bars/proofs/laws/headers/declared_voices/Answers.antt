use Rattle.abc_bars.proofs.DeclaredVoices.{keys_of-declared, distinct_names, few_names}
use Rattle.abc_bars_body.proofs.BodyOpenings.{opening_names}
use Rattle.abc_bars.proofs.laws.headers.declared_voices.Goals as goal

pub returns : goal.returns
returns c = record { names = λ opening. keys_of-declared; distinct = distinct_names; few = few_names; body = opening_names }
