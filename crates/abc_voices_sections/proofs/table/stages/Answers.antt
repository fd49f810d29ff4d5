use Rattle.std.proofs.Common.{◌≡◌, ◌∙◌, ℕ, ◌+◌, ◌++◌, List, length, take, drop, sym, ap, subst, map, arith}
use Rattle.std.proofs.lemmas.Grind.{common_steps}
use Rattle.std.specs.Prelude.{Err}
use Rattle.abc_voices_sections.specs.declared.stage.StageError.TheVariants as faults
use Rattle.abc_voices_sections.specs.Table.{ArePut}
use Rattle.abc_voices_sections.proofs.Placed.{put_more, filter_map-stages, too_many_at, too_late_at, places_at, fault_is, none_in}
use Rattle.abc_voices_sections.proofs.table.stages.Goals as goal

pub loop-place-init : goal.loop-place-init
loop-place-init g c = none_in g.T.AsItem.item_of _ _ _ c.args.played.now c.in_ok-table.ensures

pub returns-in_err-room-clause-too_many : goal.returns-in_err-room-clause-too_many
returns-in_err-room-clause-too_many g c = λ e.
    let why = sym (fault_is c.from_residual-in_err-room.result c.in_err-room.field-0.0 c.from_residual-in_err-room.ensures) ∙ e in
    let fault : c.in_err-room.field-0.0 ≡ faults.TooMany = cc in
    too_many_at g.T.AsItem.item_of _ _ _ c.loop-place.place-index _ _ c.loop-place-test.true c.loop-place.invariant (c.put_stage.ensures.too_many (c.in_err-room.was ∙ ap Err fault))

pub returns-in_err-room-clause-too_late : goal.returns-in_err-room-clause-too_late
returns-in_err-room-clause-too_late g c = λ e.
    let why = sym (fault_is c.from_residual-in_err-room.result c.in_err-room.field-0.0 c.from_residual-in_err-room.ensures) ∙ e in
    let fault : c.in_err-room.field-0.0 ≡ faults.TooLate = cc in
    too_late_at g.T.AsItem.item_of _ _ _ c.loop-place.place-index c.loop-place-test.true (c.put_stage.ensures.too_late (c.in_err-room.was ∙ ap Err fault))

pub loop-place-preserved : goal.loop-place-preserved
loop-place-preserved g c =
    let item_of = g.T.AsItem.item_of in
    let same : take c.loop-place.table.len (c.put_stage.new.table ++ drop (length c.put_stage.new.table) c.loop-place.table.items) ≡ c.put_stage.new.table = grind (arith, common_steps) in
    let voices : List (List ℕ) = map (λ voice. voice.now) c.args.voices.now in
    let long : length c.put_stage.new.table ≡ length c.deref_mut.result.now = grind (arith, common_steps) in
    let before = subst (λ table. ArePut item_of voices c.args.sections.now (take c.loop-place.place-index c.args.played.now) c.loop-place.room table) (sym c.deref_mut.ensures.value) c.loop-place.invariant in
    subst (λ table. ArePut item_of voices c.args.sections.now (take (c.loop-place.place-index + 1) c.args.played.now) c.in_ok-room.room table) (sym same)
    (put_more item_of _ _ c.args.played.now c.loop-place.place-index _ _ c.deref_mut.result.now _ c.loop-place-test.true long
    before c.in_ok-room.ensures.put c.in_ok-room.ensures.fits)

pub returns-clause-value : goal.returns-clause-value
returns-clause-value g c =
    let all : take c.loop-place.place-index c.args.played.now ≡ c.args.played.now = grind (arith, common_steps) in
    filter_map-stages g.T.AsItem.item_of _ _ _ _ (rw all at c.loop-place.invariant.here)

pub returns-clause-places : goal.returns-clause-places
returns-clause-places g c =
    let all : take c.loop-place.place-index c.args.played.now ≡ c.args.played.now = grind (arith, common_steps) in
    places_at g.T.AsItem.item_of _ _ _ _ _ (rw all at c.loop-place.invariant)
