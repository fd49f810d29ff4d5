use Rattle.abc_voices.proofs.Chains.{hears_chains, hears_no_others}
use Rattle.abc_voices.proofs.Ties.{plays_chains, voices_play_chains}
use Rattle.abc_voices.proofs.laws.ties_in_play.Goals as goal

pub returns : goal.returns
returns c = record { chains = hears_chains; once = hears_no_others; play = plays_chains; voices = voices_play_chains }
