use Rattle.abc_bars.proofs.EntryLaws.{test_by}
use Rattle.abc_bars.proofs.bar_fold.BarFoldFold.same.Goals as goal

pub returns : goal.returns
returns c = λ fold. test_by c.same.result c.args.a.now c.args.b.now c.same.ensures
