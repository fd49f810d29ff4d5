use Rattle.abc_bars_voice.specs.Equality.{test_decides}
use Rattle.abc_bars_voice.proofs.Alike.{signatures}
use Rattle.abc_bars_voice.proofs.same.SignatureSame.same.Goals as goal

pub returns : goal.returns
returns c = test_decides signatures c.eq.result c.args.self.now c.args.other.now c.eq.ensures
