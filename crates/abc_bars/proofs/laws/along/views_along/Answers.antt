use Rattle.abc_bars.proofs.LookBack.Along.{file_header_looked_back, from_view, tune_looked_back}
use Rattle.abc_bars.proofs.laws.along.views_along.Goals as goal

pub returns : goal.returns
returns c = record { file_header = λ fold. file_header_looked_back; tune = λ fold. tune_looked_back; place = λ fold. from_view }
