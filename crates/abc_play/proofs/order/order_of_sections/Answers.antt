use Rattle.std.proofs.Common.{◌<◌, ℕ, None, Err, sym, subst, ap, ◌∙◌}
use Rattle.std.proofs.lemmas.Bool.{false≢true}
use Rattle.abc_repeat.specs.declared.order.TheConstants.{MOST_SECTIONS}
use Rattle.abc_voices.proofs.TooLong.{is_too_long-by}
use Rattle.abc_voices.proofs.Within.{IsAccepted, order_accepted, same_length}
use Rattle.abc_voices.specs.TooLong.{of_sections}
use Rattle.abc_voices_sections.specs.Items.{items_of}
use Rattle.abc_play.proofs.order.order_of_sections.Goals as goal

pub play_order-requires : goal.play_order-requires
play_order-requires c = subst IsAccepted (sym c.order_of.ensures) (order_accepted (items_of c.args.tune.now) None (λ text e. cc) c.requires.items)

pub returns-in-Err-TooLong-clause-refused : goal.returns-in-Err-TooLong-clause-refused
returns-in-Err-TooLong-clause-refused c =
    let same = same_length _ _ _ _ c.order_of.ensures (c.deref.ensures.value ∙ c.in_ok-found.ensures) in
    let above = (c.in-Err-TooLong.ensures.refused c.in-Err-TooLong._unknown).0 (ap Err c.in-Err-TooLong.field-0-is) in
    absurd (false≢true (sym c.requires.short ∙ is_too_long-by (items_of c.args.tune.now) (of_sections (subst (λ (n : ℕ). MOST_SECTIONS < n) same above.0))))
