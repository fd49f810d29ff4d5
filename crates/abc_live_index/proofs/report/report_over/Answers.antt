use Rattle.std.proofs.Common.{subst, ◌∙◌}
use Rattle.std.specs.List.Sorted.{IsStrictlyIncreasing}
use Rattle.abc_live_index.proofs.FileReports.{keys_of-owners, filter-owners_lost}
use Rattle.abc_live_index.specs.TuneChange.{new_outputs, old_outputs}
use Rattle.abc_live_index.specs.Outputs.{files_of}
use Rattle.abc_tune_compiler.proofs.Difference.{reports}
use Rattle.abc_live_index.proofs.report.report_over.Goals as goal

pub new_or_changed_numbers-requires-clause-numbers : goal.new_or_changed_numbers-requires-clause-numbers
new_or_changed_numbers-requires-clause-numbers c = c.numbers.ensures.value ∙ keys_of-owners (new_outputs c.args.change.now) c.args.after.now c.requires.after

pub returns : goal.returns
returns c =
    let old = old_outputs c.args.change.now in
    let new = new_outputs c.args.change.now in
    reports (files_of old) (files_of new) _
    (subst IsStrictlyIncreasing (c.numbers-2.ensures.value ∙ keys_of-owners old c.args.before.now c.requires.before) c.numbers-2.ensures.rise)
    (subst IsStrictlyIncreasing (c.numbers.ensures.value ∙ keys_of-owners new c.args.after.now c.requires.after) c.numbers.ensures.rise)
    c.in_ok-new_or_changed_numbers.ensures
    (c.in_ok-numbers_without_owner.ensures ∙ filter-owners_lost old new c.numbers-2.result.now c.args.after.now c.requires.after
    (c.numbers-2.ensures.value ∙ keys_of-owners old c.args.before.now c.requires.before))
