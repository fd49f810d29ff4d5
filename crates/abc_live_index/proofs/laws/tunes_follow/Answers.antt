use Rattle.abc_live_index.proofs.ChainOutputs.{faults_follow, header_follows, output_follows}
use Rattle.abc_live_index.proofs.laws.tunes_follow.Goals as goal

pub returns : goal.returns
returns g c = record {
  output = λ steps rules opening text chain place is. output_follows steps rules opening text chain place is;
  faults = λ steps rules opening text before count chains places all lie. faults_follow steps rules opening text before count chains places all lie;
  header = λ steps rules text before count chain place is lies. header_follows steps rules text before count chain place is lies;
}
