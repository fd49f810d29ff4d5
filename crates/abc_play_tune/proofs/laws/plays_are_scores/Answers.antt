use Rattle.abc_play_tune.proofs.Tokens.{plays_tokens, plays_score}
use Rattle.abc_play_tune.proofs.laws.plays_are_scores.Goals as goal

pub returns : goal.returns
returns c = record { tokens = plays_tokens; score = plays_score }
