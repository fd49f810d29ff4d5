use Rattle.std.proofs.Common.{ap, sym, ◌∙◌, subst}
use Rattle.abc_lines.specs.Text.{IsText}
use Rattle.abc_live_text.specs.NewPlaces.{MayReplaceTunes, tune_places_after}
use Rattle.abc_live_text.specs.NewParts.{view_of_new_parts}
use Rattle.abc_live_text.specs.ItemSplice.{splice_in}
use Rattle.abc_live_text.specs.KeptText.{ArePartsOf, IsStretch, KeptTextView, Patches, parts, patched_parts}
use Rattle.abc_live_text.proofs.Edits.{accepted_now}
use Rattle.abc_live_text.proofs.PreparedEdit.{new_parts_are, new_stretch, patch_view}
use Rattle.abc_live_text.proofs.EditCost.{kept_now, no_work}
use Rattle.abc_live_text.proofs.kept_text.KeptText.prepare.Goals as goal

pub returns-in_err-patch-clause-counted : goal.returns-in_err-patch-clause-counted
returns-in_err-patch-clause-counted g c = no_work _ _ _

pub prepare_parts-requires-clause-inside : goal.prepare_parts-requires-clause-inside
prepare_parts-requires-clause-inside g c =
    (accepted_now c.self.view_is (splice_in c.args.splice.now) c.in_ok-patch.patch.after c.in_ok-patch.ensures.after).0

pub prepare_parts-requires-clause-limits : goal.prepare_parts-requires-clause-limits
prepare_parts-requires-clause-limits g c = subst IsText
    (accepted_now c.self.view_is (splice_in c.args.splice.now) c.in_ok-patch.patch.after c.in_ok-patch.ensures.after).1 c.in_ok-patch.ensures.limits

pub invariant_of-result : goal.invariant_of-result
invariant_of-result g c =
    let p = c.in-Ok.part_patches in
    let r = c.in-Ok.part_patches.new_parts in
    let kept = kept_now g.C.Fold.steps g.C.Compiler.rules c.self.view_is c.self.invariant g.met.C.Fold.resumable g.met.C.Compiler.lawful in
    let text = accepted_now c.self.view_is (splice_in c.args.splice.now) c.in_ok-patch.patch.after c.in_ok-patch.ensures.after in
    subst (λ (k : KeptTextView g.row.C.Denot g.row.C-State.Denot g.row.C-Cell.Denot g.row.C-Items.Denot). Patches g.C.Fold.steps g.C.Compiler.rules k
    (patched_parts c.in_ok-patch.patch p.rows r.header (tune_places_after p.tunes r.stretch k.tunes p.places.items) p.chains)
    × MayReplaceTunes p.tunes r.stretch k.tunes p.places.items) (sym c.of.ensures) (
      record {
        lines_on = c.in_ok-patch.ensures.on ∙ ap (λ (k : KeptTextView g.row.C.Denot g.row.C-State.Denot g.row.C-Cell.Denot g.row.C-Items.Denot). k.lines) c.self.view_is;
        rows_on = c.in-Ok.ensures.rows_on;
        chains_on = c.in-Ok.ensures.chains_on;
        parts_are = new_parts_are kept c.in-Ok.ensures.new_parts text.1 c.in-Ok.ensures.rows c.in-Ok.ensures.tunes c.in-Ok.ensures.chains;
      },
      c.in-Ok.ensures.fit,
    )

pub returns-in-Ok-clause-parts : goal.returns-in-Ok-clause-parts
returns-in-Ok-clause-parts g c =
    let p = c.in-Ok.part_patches in
    let r = c.in-Ok.part_patches.new_parts in
    let kept = kept_now g.C.Fold.steps g.C.Compiler.rules c.self.view_is c.self.invariant g.met.C.Fold.resumable g.met.C.Compiler.lawful in
    let text = accepted_now c.self.view_is (splice_in c.args.splice.now) c.in_ok-patch.patch.after c.in_ok-patch.ensures.after in
    subst (λ (k : KeptTextView g.row.C.Denot g.row.C-State.Denot g.row.C-Cell.Denot g.row.C-Items.Denot).
    ArePartsOf (g.C.Fold.steps c.args.self.now.compiler) (g.C.Compiler.rules c.args.self.now.compiler) c.in_ok-patch.patch.after
    (parts p.rows.after.items r.header (tune_places_after p.tunes r.stretch k.tunes p.places.items) p.chains.after.items)) (sym c.of.ensures)
    (new_parts_are kept c.in-Ok.ensures.new_parts text.1 c.in-Ok.ensures.rows c.in-Ok.ensures.tunes c.in-Ok.ensures.chains)

pub returns-in-Ok-clause-stretch : goal.returns-in-Ok-clause-stretch
returns-in-Ok-clause-stretch g c =
    let p = c.in-Ok.part_patches in
    let r = c.in-Ok.part_patches.new_parts in
    let s = splice_in c.args.splice.now in
    let kept = kept_now g.C.Fold.steps g.C.Compiler.rules c.self.view_is c.self.invariant g.met.C.Fold.resumable g.met.C.Compiler.lawful in
    let text = accepted_now c.self.view_is s c.in_ok-patch.patch.after c.in_ok-patch.ensures.after in
    subst (λ (k : KeptTextView g.row.C.Denot g.row.C-State.Denot g.row.C-Cell.Denot g.row.C-Items.Denot). IsStretch s (patch_view k c.in_ok-patch.patch.after
    (parts p.rows.after.items r.header (tune_places_after p.tunes r.stretch k.tunes p.places.items) p.chains.after.items) (view_of_new_parts r) p.places.items)) (sym c.of.ensures)
    (new_stretch kept c.in-Ok.ensures.new_parts text.1 c.in-Ok.ensures.tunes c.in-Ok.ensures.places c.in-Ok.ensures.chains)
