use Rattle.std.proofs.Common.{not, ap, ◌∙◌}
use Rattle.abc_live_index.proofs.FileReports.{not_owner_differs}
use Rattle.abc_live_index.specs.TuneChange.{new_outputs, old_outputs}
use Rattle.abc_live_index.proofs.report.differs.Goals as goal

pub returns : goal.returns
returns c =
    ap not c.keeps_file.ensures
    ∙ not_owner_differs (old_outputs c.args.change.now)
    (new_outputs c.args.change.now) c.args.number c.get-old.result c.get-new.result c.args.before.now c.args.after.now c.requires.before c.requires.after c.get-old.ensures c.get-new.ensures
