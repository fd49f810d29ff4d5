use Rattle.std.proofs.Common.{◌≡◌, ◌<◌, ◌≤◌, ℕ, None, Err, length, sym, refl, subst, ap, ◌∙◌}
use Rattle.std.specs.Prelude.{option_copied}
use Rattle.abc_repeat.specs.Order.{sections_of, has_unknown}
use Rattle.abc_repeat.specs.declared.order.TheConstants.{MOST_SECTIONS}
use Rattle.abc_voices_sections.specs.Items.{items_of}
use Rattle.abc_voices.proofs.Within.{IsAccepted, order_accepted, same_length, same_unknown, not_above}
use Rattle.abc_voices.proofs.layout.order_of_sections.Goals as goal

pub play_order-requires : goal.play_order-requires
play_order-requires c = subst IsAccepted (sym c.order_of.ensures) (order_accepted (items_of c.args.fields.now) None (λ text e. cc) c.requires)

pub returns-in-Ok-clause-few : goal.returns-in-Ok-clause-few
returns-in-Ok-clause-few c =
    let same = same_length _ _ _ _ c.order_of.ensures (c.deref.ensures.value ∙ c.in_ok-found.ensures) in
    let refuted : MOST_SECTIONS < length (sections_of (option_copied c.order_of.result) c.deref.result.now) → ⊥ =
    λ more. let false = (c.in-Ok.ensures.refused (has_unknown (option_copied c.order_of.result) c.deref.result.now)).1 (more, refl) in cc in
    subst (λ (n : ℕ). n ≤ MOST_SECTIONS) same (not_above _ MOST_SECTIONS refuted)

pub returns-in-Err-TooLong-clause-too_long : goal.returns-in-Err-TooLong-clause-too_long
returns-in-Err-TooLong-clause-too_long c = λ unknown e.
    let same = same_length _ _ _ _ c.order_of.ensures (c.deref.ensures.value ∙ c.in_ok-found.ensures) in
    let above = (c.in-Err-TooLong.ensures.refused c.in-Err-TooLong.unknown).0 (ap Err c.in-Err-TooLong.field-0-is) in
    subst (λ (n : ℕ). MOST_SECTIONS < n) same above.0

pub returns-in-Err-TooLong-clause-too_long_unknown : goal.returns-in-Err-TooLong-clause-too_long_unknown
returns-in-Err-TooLong-clause-too_long_unknown c = λ unknown e.
    let same = same_unknown _ _ _ _ c.order_of.ensures (c.deref.ensures.value ∙ c.in_ok-found.ensures) in
    let above = (c.in-Err-TooLong.ensures.refused c.in-Err-TooLong.unknown).0 (ap Err c.in-Err-TooLong.field-0-is) in
    let own : unknown ≡ c.in-Err-TooLong.unknown = cc in
    own ∙ above.1 ∙ same
