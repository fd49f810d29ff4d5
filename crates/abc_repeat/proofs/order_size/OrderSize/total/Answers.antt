use Rattle.std.proofs.Common.{◌≡◌, ◌-◌, ◌*◌, ◌^◌, min, ap, ◌∙◌}
use Rattle.std.specs.Option.{unwrap_or}
use Rattle.abc_fields.specs.Letters.{count_or_once}
use Rattle.abc_repeat.proofs.OrderSizes.{times_of, so_far_size}
use Rattle.abc_repeat.proofs.order_size.OrderSize.total.Goals as goal

pub returns : goal.returns
returns c = λ section played is.
    let size = c.args.self.now in
    let times : c.unwrap_or-times.result ≡ count_or_once played.count = c.unwrap_or-times.ensures ∙ ap (λ o. unwrap_or o 1) is.count ∙ times_of played.count in
    c.saturating_add.ensures
    ∙ so_far_size section played.before played.item (count_or_once played.count) size.before size.item c.saturating_mul.result
    (2 ^ 64 - 1) is.before is.item (c.saturating_mul.ensures ∙ ap (λ n. min (size.item * n) (2 ^ 64 - 1)) times)
