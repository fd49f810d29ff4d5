use Rattle.std.proofs.Common.{◌≡◌, ◌++◌, ap, ◌∙◌, drop, map, subst, arith}
use Rattle.abc_lines.specs.GapList.{GapListView}
use Rattle.abc_lines.specs.LineBuffer.{LineBufferView}
use Rattle.abc_lines.specs.Text.{IsText, seen_lines}
use Rattle.abc_live_session.specs.Prepared.{IsBook, header_faults_there}
use Rattle.abc_live_session.proofs.Outcomes.{after_inside, book_now, cells_there, faults_after-now, few_faults, few_lines}
use Rattle.abc_live_session.proofs.Outcomes.{list_all-good, header_there, lines_inside, ok_both, take-outputs_after, own_lines, taken_over}
use Rattle.abc_live_session.proofs.Stretches.{made_tunes, length-rows, stretch_inside}
use Rattle.abc_live_index.specs.Output.{output_in}
use Rattle.abc_live_index.specs.Tunes.{faults_by}
use Rattle.abc_live_index.specs.declared.output.Output.{Output}
use Rattle.abc_live_index.proofs.BuildCounts.{built_none}
use Rattle.abc_live_index.proofs.OutputLists.{ok_more}
use Rattle.abc_tune_compiler.specs.Book.{book_of}
use Rattle.abc_live_session.proofs.book_patch.book_after.Goals as goal

pub lines_of-requires-clause-inside : goal.lines_of-requires-clause-inside
lines_of-requires-clause-inside g c =
    lines_inside _ _ _ _ c.requires.prepared _ c.requires.on _ c.stretch-stretch.ensures c.lines-3.result.now c.lines-3.ensures.lines

pub returns-in_err-lines-clause-counted : goal.returns-in_err-lines-clause-counted
returns-in_err-lines-clause-counted g c = built_none _ _

pub counts_of-requires-clause-inside : goal.counts_of-requires-clause-inside
counts_of-requires-clause-inside g c =
    let inside = stretch_inside _ _ _ _ c.requires.prepared in
    let many = length-rows _ _ _ _ c.requires.prepared in
    omega (arith, inside, many)

pub returns-in_err-counts-clause-counted : goal.returns-in_err-counts-clause-counted
returns-in_err-counts-clause-counted g c = built_none _ _

pub outputs_of-requires-clause-limits : goal.outputs_of-requires-clause-limits
outputs_of-requires-clause-limits g c =
    list_all-good _ _ _ _ c.requires.prepared _ c.requires.on _ c.stretch-stretch.ensures
    c.lines-3.result.now (seen_lines c.deref.result.now) c.lines-3.ensures.lines (ap seen_lines c.deref.ensures.value ∙ c.in_ok-lines.ensures)

pub outputs_of-requires-clause-tunes : goal.outputs_of-requires-clause-tunes
outputs_of-requires-clause-tunes g c =
    let seen = own_lines _ _ _ _ c.requires.prepared _ c.requires.on _ c.stretch-stretch.ensures
    c.lines-3.result.now (seen_lines c.deref.result.now) c.lines-3.ensures.lines (ap seen_lines c.deref.ensures.value ∙ c.in_ok-lines.ensures) in
    rw (c.compiler-compiler.ensures, seen, c.header_state.ensures, c.header.ensures, c.stretch-stretch.ensures, c.new_chains.ensures, c.places.ensures)
    (made_tunes _ _ _ _ c.requires.prepared c.first_chain-first.result.now c.first_chain-first.ensures
    (g.met.C.Fold.resumable c.args.text.now.compiler) (g.met.C.Compiler.lawful c.args.text.now.compiler))

pub outputs_of-requires-clause-reused_tunes : goal.outputs_of-requires-clause-reused_tunes
outputs_of-requires-clause-reused_tunes g c =
    rw (c.compiler-compiler.ensures, c.new_chains.ensures, c.reused_tunes.ensures)
    (taken_over _ _ _ _ c.requires.prepared _ c.requires.on _ c.stretch-stretch.ensures c.outputs.result.now.items (ap (λ (o : GapListView Output). o.items) c.outputs.ensures ∙ c.requires.outputs))

pub faults_of-requires-clause-few : goal.faults_of-requires-clause-few
faults_of-requires-clause-few g c =
    few_lines _ _ _ _ c.requires.prepared _ c.requires.on _ c.stretch-stretch.ensures c.deref-2.result.now (c.deref-2.ensures.value ∙ c.in_ok-counts.ensures)

pub faults_of-requires-clause-header : goal.faults_of-requires-clause-header
faults_of-requires-clause-header g c =
    header_there _ _ _ _ c.requires.prepared _ c.requires.on _ c.stretch-stretch.ensures c.first_chain-first.result.now c.first_chain-first.ensures
    c.deref-2.result.now c.header-2.result (c.deref-2.ensures.value ∙ c.in_ok-counts.ensures) c.header-2.ensures

pub faults_of-requires-clause-cells : goal.faults_of-requires-clause-cells
faults_of-requires-clause-cells g c =
    rw (c.new_chains.ensures, c.places.ensures)
    (cells_there _ _ _ _ c.requires.prepared _ c.requires.on _ c.stretch-stretch.ensures c.deref-2.result.now (c.deref-2.ensures.value ∙ c.in_ok-counts.ensures))

pub prepare-requires-clause-inside : goal.prepare-requires-clause-inside
prepare-requires-clause-inside g c =
    after_inside _ _ _ _ c.requires.prepared _ c.requires.on _ c.stretch-stretch.ensures c.args.book.now.outputs.items c.requires.outputs

pub prepare-requires-clause-few : goal.prepare-requires-clause-few
prepare-requires-clause-few g c =
    let few = few_faults _ _ _ _ c.requires.prepared _ c.requires.on _ c.stretch-stretch.ensures c.args.book.now.faults
    (subst (λ (l : LineBufferView). IsText l.text) c.lines.ensures.lines c.len.ensures.limits) c.requires.faults in
    λ k d inside following. let small = few k d inside following in omega (arith, small)

pub returns-clause-outputs : goal.returns-clause-outputs
returns-clause-outputs g c =
    let made = c.in_ok-outputs.ensures.value ∙ (λ i. map (output_in (g.C.Compiler.rules (c.compiler-compiler.ensures i))) (c.new_chains.ensures i)) in
    let after = take-outputs_after _ _ _ _ c.requires.prepared _ c.requires.on _ c.stretch-stretch.ensures c.args.book.now.outputs.items c.in_ok-outputs.outputs.items c.requires.outputs made in
    ok_more c.prepare.result _ (λ patch. patch.outputs ≡ map (output_in (g.C.Compiler.rules c.args.text.now.compiler))
    (drop 1 c.args.text_patch.now.chains)) (λ patch are. are ∙ after) c.prepare.ensures.outputs

pub returns-clause-book : goal.returns-clause-book
returns-clause-book g c =
    let made = c.in_ok-outputs.ensures.value ∙ (λ i. map (output_in (g.C.Compiler.rules (c.compiler-compiler.ensures i))) (c.new_chains.ensures i)) in
    let after = take-outputs_after _ _ _ _ c.requires.prepared _ c.requires.on _ c.stretch-stretch.ensures c.args.book.now.outputs.items c.in_ok-outputs.outputs.items c.requires.outputs made in
    let found = c.in_ok-faults.ensures ∙ (λ i. header_faults_there (g.C.Compiler.rules (c.compiler-compiler.ensures i))
    c.stretch-stretch.result.lines.from c.deref-2.result.now c.first_chain-first.result.now c.header-2.result
    ++ faults_by (g.C.Compiler.rules (c.compiler-compiler.ensures i)) c.stretch-stretch.result.lines.from c.deref-2.result.now (c.new_chains.ensures i) (c.places.ensures i)) in
    let faults = faults_after-now _ _ _ _ c.requires.prepared _ c.requires.on _ c.stretch-stretch.ensures c.first_chain-first.result.now c.first_chain-first.ensures
    (g.met.C.Fold.resumable c.args.text.now.compiler) c.deref-2.result.now c.header-2.result c.args.book.now.faults c.in_ok-faults.faults.items
    (c.deref-2.ensures.value ∙ c.in_ok-counts.ensures) c.header-2.ensures c.requires.faults found in
    ok_both c.prepare.result _ _ (λ patch. IsBook patch.outputs patch.faults (book_of (g.C.Fold.steps c.args.text.now.compiler)
    (g.C.Compiler.rules c.args.text.now.compiler) c.args.text_patch.now.text))
    (λ patch outputs_are faults_are. book_now _ _ _ _ c.requires.prepared _ c.requires.on _ c.stretch-stretch.ensures _ _ (outputs_are ∙ after) (faults_are ∙ faults))
    c.prepare.ensures.outputs c.prepare.ensures.faults
