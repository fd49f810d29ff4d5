use Rattle.abc_bars_voice.specs.Equality.{lists, test_decides}
use Rattle.abc_bars_voice.proofs.Alike.{tied_notes}
use Rattle.abc_bars_voice.proofs.same.ShortSequenceTiedNoteSame.same.Goals as goal

pub returns : goal.returns
returns c = test_decides (lists tied_notes) c.eq.result c.args.self.now c.args.other.now c.eq.ensures
