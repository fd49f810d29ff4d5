use Rattle.std.proofs.Common.{◌≡◌, ◌∙◌, ◌+◌, ℕ, List, sym, ap, subst, map, arith}
use Rattle.std.proofs.lemmas.Result.{IfOk-weaker}
use Rattle.std.specs.Prelude.{IfOk, Some, option_copied, slice_get}
use Rattle.abc_voices_sections.specs.Table.{IsNew, IsPut}
use Rattle.abc_voices_sections.proofs.Placed.{put_nothing, size_for-nothing, put_first, size_for-section, length_for-section, within_table}
use Rattle.abc_voices_sections.proofs.table.put_stage.Goals as goal

pub returns-in_default-clause-put : goal.returns-in_default-clause-put
returns-in_default-clause-put g c =
    put_nothing g.T.AsItem.item_of _ _ _ _ c.requires.long c.requires.table (sym c.section_at.ensures ∙ ap option_copied c.in_default.is)

pub returns-in_default-clause-fits : goal.returns-in_default-clause-fits
returns-in_default-clause-fits g c =
    let none = size_for-nothing g.T.AsItem.item_of (map (λ voice. voice.now) c.args.voices.now) c.args.sections.now c.args.place (sym c.section_at.ensures ∙ ap option_copied c.in_default.is) in
    omega arith

pub room_after-requires : goal.room_after-requires
room_after-requires g c =
    let is = c.requires.table.each c.args.place c.in-Some-stage_at.stage.now (sym c.stage_at.ensures ∙ ap option_copied c.in-Some-stage_at.is) in
    omega (arith, is.few)

pub returns-in-Some-stage_at-clause-fits : goal.returns-in-Some-stage_at-clause-fits
returns-in-Some-stage_at-clause-fits g c =
    let is = c.requires.table.each c.args.place c.in-Some-stage_at.stage.now (sym c.stage_at.ensures ∙ ap option_copied c.in-Some-stage_at.is) in
    subst (λ (n : ℕ). IfOk c.room_after.result (λ left. left + n ≡ c.args.room)) is.size c.room_after.ensures.room

pub returns-in-Some-stage_at-clause-too_many : goal.returns-in-Some-stage_at-clause-too_many
returns-in-Some-stage_at-clause-too_many g c = λ e.
    let is = c.requires.table.each c.args.place c.in-Some-stage_at.stage.now (sym c.stage_at.ensures ∙ ap option_copied c.in-Some-stage_at.is) in
    omega (arith, is.size, c.room_after.ensures.too_many e)

pub returns-clause-put : goal.returns-clause-put
returns-clause-put g c =
    let voices : List (List ℕ) = map (λ voice. voice.now) c.args.voices.now in
    let found : slice_get c.args.sections.now c.args.place ≡ Some c.in-Some.section.now = sym c.section_at.ensures ∙ ap option_copied c.in-Some.is in
    IfOk-weaker c.put_new.result
    (λ left. IsNew g.T.AsItem.item_of voices c.in-Some.section.now c.args.place c.args.table.now c.put_new.new.table)
    (λ left. IsPut g.T.AsItem.item_of voices c.args.sections.now c.args.place c.args.table.now c.put_new.new.table)
    (λ left new. put_first g.T.AsItem.item_of voices c.args.sections.now c.args.place c.args.table.now c.put_new.new.table c.in-Some.section.now c.requires.table found (within_table _ _ _ _ c.requires.long found) new)
    c.put_new.ensures.put

pub returns-clause-fits : goal.returns-clause-fits
returns-clause-fits g c =
    let voices : List (List ℕ) = map (λ voice. voice.now) c.args.voices.now in
    let found : slice_get c.args.sections.now c.args.place ≡ Some c.in-Some.section.now = sym c.section_at.ensures ∙ ap option_copied c.in-Some.is in
    let size = size_for-section g.T.AsItem.item_of voices c.args.sections.now c.args.place c.in-Some.section.now found in
    subst (λ (n : ℕ). IfOk c.put_new.result (λ left. left + n ≡ c.args.room)) (sym size) c.put_new.ensures.fits

pub returns-clause-too_many : goal.returns-clause-too_many
returns-clause-too_many g c = λ e.
    let found : slice_get c.args.sections.now c.args.place ≡ Some c.in-Some.section.now = sym c.section_at.ensures ∙ ap option_copied c.in-Some.is in
    omega (arith, size_for-section g.T.AsItem.item_of (map (λ voice. voice.now) c.args.voices.now) c.args.sections.now c.args.place c.in-Some.section.now found, c.put_new.ensures.too_many e)

pub returns-clause-too_late : goal.returns-clause-too_late
returns-clause-too_late g c = λ e.
    let found : slice_get c.args.sections.now c.args.place ≡ Some c.in-Some.section.now = sym c.section_at.ensures ∙ ap option_copied c.in-Some.is in
    omega (arith, length_for-section g.T.AsItem.item_of (map (λ voice. voice.now) c.args.voices.now) c.args.sections.now c.args.place c.in-Some.section.now found, c.put_new.ensures.too_late e)
