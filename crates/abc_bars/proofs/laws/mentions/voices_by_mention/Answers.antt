use Rattle.abc_bars.proofs.LookBack.Mentions.{tokens_mention}
use Rattle.abc_bars.proofs.laws.mentions.voices_by_mention.Goals as goal

pub returns : goal.returns
returns c = tokens_mention
