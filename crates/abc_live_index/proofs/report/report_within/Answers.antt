use Rattle.std.proofs.Common.{subst, ◌∙◌}
use Rattle.std.specs.List.Sorted.{IsStrictlyIncreasing}
use Rattle.abc_live_index.proofs.FileReports.{keys_of-owners, keys_of-stay, none_lost}
use Rattle.abc_live_index.specs.TuneChange.{new_outputs, old_outputs}
use Rattle.abc_live_index.specs.Outputs.{files_of}
use Rattle.abc_tune_compiler.proofs.Difference.{reports}
use Rattle.abc_live_index.proofs.report.report_within.Goals as goal

pub returns : goal.returns
returns c =
    let old = old_outputs c.args.change.now in
    let new = new_outputs c.args.change.now in
    reports (files_of old) (files_of new) _
    (subst IsStrictlyIncreasing (c.numbers.ensures.value ∙ keys_of-owners old c.args.owners.now c.requires.owners) c.numbers.ensures.rise)
    (subst IsStrictlyIncreasing (c.numbers.ensures.value ∙ keys_of-stay old new c.requires.claims c.args.owners.now c.requires.owners) c.numbers.ensures.rise)
    c.in_ok-changed_numbers.ensures (c.new.ensures.items ∙ none_lost old new c.requires.claims)
