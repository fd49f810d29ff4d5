use Rattle.std.proofs.Common.{◌≡◌, ◌≤◌, ◌<◌, ℕ, Err, length, ap, sym, subst, ◌∙◌}
use Rattle.abc_bars_items.specs.Item.{IsItem}
use Rattle.abc_repeat.specs.declared.order.TheConstants.{MOST_SECTIONS}
use Rattle.abc_voices_sections.specs.Items.{items_of}
use Rattle.abc_voices.specs.declared.arranged.BuildFault.TheVariants.{TooLong}
use Rattle.abc_voices.proofs.OfFields.{items_of_fields, played_of_fields, unknown_of_fields}
use Rattle.abc_voices.specs.TooLong.{of_sections}
use Rattle.abc_voices.proofs.Layouts.{unknown_is}
use Rattle.abc_voices.proofs.TooLong.{is_too_long-by}
use Rattle.abc_voices.proofs.layout.arrange_items.Goals as goal

pub order_of_sections-requires : goal.order_of_sections-requires
order_of_sections-requires c = items_of_fields IsItem (items_of c.args.tune.now) (items_of c.args.fields.now) c.requires.fields c.requires.tune

pub arrange_within_limits-requires-clause-played : goal.arrange_within_limits-requires-clause-played
arrange_within_limits-requires-clause-played c =
    c.deref.ensures.value ∙ c.in-Ok.ensures.sections ∙ played_of_fields (items_of c.args.tune.now) (items_of c.args.fields.now) c.requires.fields

pub arrange_within_limits-requires-clause-few : goal.arrange_within_limits-requires-clause-few
arrange_within_limits-requires-clause-few c =
    subst (λ (n : ℕ). n ≤ MOST_SECTIONS) (ap length (played_of_fields (items_of c.args.tune.now) (items_of c.args.fields.now) c.requires.fields)) c.in-Ok.ensures.few

pub arrange_within_limits-requires-clause-unknown : goal.arrange_within_limits-requires-clause-unknown
arrange_within_limits-requires-clause-unknown c = c.in-Ok.ensures.unknown ∙ unknown_of_fields (items_of c.args.tune.now) (items_of c.args.fields.now) c.requires.fields

pub returns-in-Ok-clause-unknown : goal.returns-in-Ok-clause-unknown
returns-in-Ok-clause-unknown c = λ unknown e.
    c.arrange_within_limits.ensures.unknown unknown e ∙ c.in-Ok.ensures.unknown
    ∙ unknown_of_fields (items_of c.args.tune.now) (items_of c.args.fields.now) c.requires.fields ∙ sym (unknown_is (items_of c.args.tune.now))

pub returns-in-Err-clause-too_long : goal.returns-in-Err-clause-too_long
returns-in-Err-clause-too_long c = λ unknown e.
    let same : c.in-Err.why ≡ TooLong unknown = cc in
    is_too_long-by (items_of c.args.tune.now) (of_sections (subst (λ (n : ℕ). MOST_SECTIONS < n)
    (ap length (played_of_fields (items_of c.args.tune.now) (items_of c.args.fields.now) c.requires.fields)) (c.in-Err.ensures.too_long unknown (ap Err same))))

pub returns-in-Err-clause-unknown : goal.returns-in-Err-clause-unknown
returns-in-Err-clause-unknown c = λ unknown e.
    let same : c.in-Err.why ≡ TooLong unknown = cc in
    c.in-Err.ensures.too_long_unknown unknown (ap Err same) ∙ unknown_of_fields (items_of c.args.tune.now) (items_of c.args.fields.now) c.requires.fields ∙ sym (unknown_is (items_of c.args.tune.now))
