use Rattle.std.proofs.Common.{List, ℕ, map, ap, length, sym, ◌∙◌}
use Rattle.std.proofs.lemmas.List.{length-map}
use Rattle.std.specs.Borrow.{Bor}
use Rattle.abc_voices_sections.specs.Items.{items_of}
use Rattle.std.specs.Prelude.{Option}
use Rattle.abc_bars_items.specs.declared.item.Item.{Item}
use Rattle.abc_voices_sections.specs.Stage.{stage_items}
use Rattle.abc_voices_sections.specs.Table.{at_places}
use Rattle.abc_voices_sections.specs.Turns as turns
use Rattle.abc_voices_sections.specs.declared.stage.Stage.{Stage}
use Rattle.abc_voices.proofs.Borrowed.{stages_in-items}
use Rattle.abc_voices.proofs.OfFields.{voices_of_fields}
use Rattle.abc_voices.proofs.layout.lay_out_sections.Goals as goal

pub stages_of-requires-clause-voices : goal.stages_of-requires-clause-voices
stages_of-requires-clause-voices c =
    ap (map (λ (voice : Bor (List ℕ)). voice.now)) c.as_slice.ensures.keys ∙ c.in_ok-voices.ensures ∙ voices_of_fields (items_of c.args.tune.now) (items_of c.args.fields.now) c.requires.fields

pub lay_out_turns-requires-clause-count : goal.lay_out_turns-requires-clause-count
lay_out_turns-requires-clause-count c =
    c.len.ensures.len ∙ sym (length-map c.in_ok-voices.voices.keys (λ (voice : Bor (List ℕ)). voice.now))
    ∙ ap length (c.in_ok-voices.ensures ∙ voices_of_fields (items_of c.args.tune.now) (items_of c.args.fields.now) c.requires.fields)

pub lay_out_turns-requires-clause-stages : goal.lay_out_turns-requires-clause-stages
lay_out_turns-requires-clause-stages c =
    let found = λ (table : List (Option (Stage (Bor Item)))). at_places table c.args.played.now in
    stages_in-items c.deref-in-Ok.result.now
    ∙ ap (map stage_items) (ap turns.stages_in c.deref-in-Ok.ensures.value ∙ c.in_ok-turns-in-Ok.ensures ∙ ap found c.deref.ensures.value)
    ∙ c.in-Ok.ensures.value
