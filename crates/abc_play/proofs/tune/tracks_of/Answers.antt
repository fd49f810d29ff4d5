use Rattle.std.proofs.Common.{ℕ, List, map, Err, sym, ap, ◌∙◌}
use Rattle.std.specs.Borrow.{Bor}
use Rattle.std.proofs.lemmas.Bool.{false≢true}
use Rattle.abc_voices.proofs.TooLong.{is_too_long-by}
use Rattle.abc_voices.specs.TooLong.{of_time}
use Rattle.abc_voices_sections.specs.Items.{items_of}
use Rattle.abc_play.proofs.Late.{ends_late}
use Rattle.abc_play.proofs.tune.tracks_of.Goals as goal

pub returns-in-Err-TooMany-clause-refused : goal.returns-in-Err-TooMany-clause-refused
returns-in-Err-TooMany-clause-refused c = c.in-Err-TooMany.ensures.too_many (ap Err c.in-Err-TooMany.field-0-is)

pub play_along-requires-clause-voices : goal.play_along-requires-clause-voices
play_along-requires-clause-voices c = ap (map (λ (voice : Bor (List ℕ)). voice.now)) c.as_slice.ensures.keys ∙ c.in_ok-voices.ensures

pub returns-in-Err-TooLate-clause-refused : goal.returns-in-Err-TooLate-clause-refused
returns-in-Err-TooLate-clause-refused c = absurd (false≢true (sym c.requires.short
    ∙ is_too_long-by (items_of c.args.tune.now) (of_time (ends_late (items_of c.args.tune.now) (c.in-Err-TooLate.ensures.too_late (ap Err c.in-Err-TooLate.field-0-is))))))
