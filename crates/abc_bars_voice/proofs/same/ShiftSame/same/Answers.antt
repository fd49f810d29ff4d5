use Rattle.abc_bars_voice.specs.Equality.{test_decides}
use Rattle.abc_bars_voice.proofs.Alike.{shifts}
use Rattle.abc_bars_voice.proofs.same.ShiftSame.same.Goals as goal

pub returns : goal.returns
returns c = test_decides shifts c.eq.result c.args.self.now c.args.other.now c.eq.ensures
