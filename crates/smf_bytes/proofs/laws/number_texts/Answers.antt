use Rattle.smf_bytes.proofs.NumberTexts.{read_back, not_a_front}
use Rattle.smf_bytes.proofs.laws.number_texts.Goals as goal

pub returns-clause-read_back : goal.returns-clause-read_back
returns-clause-read_back c = read_back

pub returns-clause-not_a_front : goal.returns-clause-not_a_front
returns-clause-not_a_front c = not_a_front
