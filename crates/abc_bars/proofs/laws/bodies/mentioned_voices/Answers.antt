use Rattle.abc_bars.proofs.LookBack.BodyState.{current_held, distinct_held, few_held}
use Rattle.abc_bars.proofs.laws.bodies.mentioned_voices.Goals as goal

pub returns : goal.returns
returns c = record { distinct = distinct_held; few = few_held; current = current_held }
