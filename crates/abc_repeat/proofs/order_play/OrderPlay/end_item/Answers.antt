use Rattle.std.proofs.Common.{◌≡◌, ◌++◌, take, drop, replicate, ap, ◌∙◌, arith}
use Rattle.std.specs.List.{concat}
use Rattle.std.specs.Option.{unwrap_or}
use Rattle.abc_fields.specs.Letters.{count_or_once, letters_so_far}
use Rattle.abc_repeat.specs.OrderPlay.{letters_around, sections_with}
use Rattle.abc_repeat.proofs.OrderPlays.{item_ended, end_played}
use Rattle.abc_repeat.proofs.OrderSizes.{times_of}
use Rattle.abc_repeat.proofs.order_play.OrderPlay.end_item.Goals as goal

pub put_copies-requires-clause-some : goal.put_copies-requires-clause-some
put_copies-requires-clause-some c = let times = c.unwrap_or-times.ensures ∙ times_of c.args.self.now.count in omega (arith, times, c.requires.counted)

pub returns-clause-played : goal.returns-clause-played
returns-clause-played c = λ section played is.
    let play = c.args.self.now in
    let times : c.unwrap_or-times.result ≡ count_or_once played.count = c.unwrap_or-times.ensures ∙ ap (λ o. unwrap_or o 1) is.count ∙ times_of played.count in
    let whole : c.put_copies.new.sections.items ≡ sections_with section (letters_around played.around ++ letters_so_far played) =
    c.in_ok-put_copies.ensures
    ∙ ap (λ n. take play.begin play.sections.items ++ concat (replicate n (drop play.begin play.sections.items))) times
    ∙ item_ended section (letters_around played.around) played.before played.item play.sections.items play.begin (count_or_once played.count) is.sections is.begin in
    end_played section played play c.put_copies.new.sections c.len-self.result is whole (c.len-self.ensures ∙ omega (arith, c.put_copies.new.sections.ok.0))
