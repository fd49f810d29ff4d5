use Rattle.abc_bars.proofs.LookBack.BodyState.{body_at_cons}
use Rattle.abc_bars.proofs.laws.heard_music.body_views.Goals as goal

pub returns-clause-after : goal.returns-clause-after
returns-clause-after c = body_at_cons
