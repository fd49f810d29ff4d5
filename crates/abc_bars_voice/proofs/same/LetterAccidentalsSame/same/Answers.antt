use Rattle.abc_bars_voice.specs.Equality.{test_decides}
use Rattle.abc_bars_voice.specs.OctaveGroups.{letters_equality}
use Rattle.abc_bars_voice.proofs.same.LetterAccidentalsSame.same.Goals as goal

pub returns : goal.returns
returns c = test_decides letters_equality c.eq.result c.args.self.now c.args.other.now c.eq.ensures
