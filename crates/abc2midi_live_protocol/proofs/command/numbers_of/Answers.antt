use Rattle.std.proofs.Common.{◌≡◌, ◌≤◌, ◌<◌, take, length, ◌∷◌, sym, ap, ◌∙◌, subst, arith, refl, length-take-le}
use Rattle.std.proofs.lemmas.List.{length-set}
use Rattle.std.proofs.lemmas.List.{take_more_set}
use Rattle.abc2midi_live_protocol.specs.Command.{words_after, IsUseless}
use Rattle.abc2midi_live_protocol.proofs.Words.{numbers_after, numbers_after-first, numbers_after-more, numbers_after-other}
use Rattle.abc2midi_live_protocol.proofs.Words.{numbers_after-full, numbers_after-none}
use Rattle.abc2midi_live_protocol.proofs.command.numbers_of.Goals as goal

pub loop-rest-init : goal.loop-rest-init
loop-rest-init c = record { command_of_words = numbers_after-first (words_after c.args.words); few = omega arith; places = refl }

pub returns-in_err-number-clause-numbers : goal.returns-in_err-number-clause-numbers
unfolding words_after
returns-in_err-number-clause-numbers c =
    let words : words_after c.loop-rest.rest ≡ c.first_word.result.0.now ∷ words_after c.first_word.result.1 = ap words_after c.in-Some.is
    ∙ c.first_word.ensures in
    rw c.from_residual.ensures (subst IsUseless c.loop-rest.invariant.command_of_words
    (numbers_after-other (take c.loop-rest.count c.loop-rest.values) (words_after c.loop-rest.rest) c.first_word.result.0.now (words_after c.first_word.result.1) words c.in_err-number.ensures.value))

pub returns-then-count-eq-MOST_NUMBERS-clause-numbers : goal.returns-then-count-eq-MOST_NUMBERS-clause-numbers
unfolding words_after
returns-then-count-eq-MOST_NUMBERS-clause-numbers c =
    let words : words_after c.loop-rest.rest ≡ c.first_word.result.0.now ∷ words_after c.first_word.result.1 = ap words_after c.in-Some.is
    ∙ c.first_word.ensures in
    let full : 3 ≤ length (take c.loop-rest.count c.loop-rest.values) = let places : length c.loop-rest.values
    ≡ 3 = c.loop-rest.invariant.places in let taken = length-take-le c.loop-rest.count c.loop-rest.values (omega arith) in omega (arith, taken) in
    subst IsUseless c.loop-rest.invariant.command_of_words (numbers_after-full (take c.loop-rest.count c.loop-rest.values)
    (words_after c.loop-rest.rest) c.first_word.result.0.now (words_after c.first_word.result.1) c.in_ok-number.number words c.in_ok-number.ensures.value full)

pub loop-rest-smaller : goal.loop-rest-smaller
unfolding words_after
loop-rest-smaller c =
    let words : words_after c.loop-rest.rest ≡ c.first_word.result.0.now ∷ words_after c.first_word.result.1 = ap words_after c.in-Some.is
    ∙ c.first_word.ensures in
    let longer : length (words_after c.loop-rest.rest) ≡ length (c.first_word.result.0.now ∷ words_after c.first_word.result.1) = ap length words in
    omega (arith, longer)

pub loop-rest-preserved : goal.loop-rest-preserved
unfolding words_after
loop-rest-preserved c =
    let words : words_after c.loop-rest.rest ≡ c.first_word.result.0.now ∷ words_after c.first_word.result.1 = ap words_after c.in-Some.is
    ∙ c.first_word.ensures in
    let room : c.loop-rest.count < length c.loop-rest.values = omega arith in
    let more = numbers_after-more (take c.loop-rest.count c.loop-rest.values) (words_after c.loop-rest.rest) c.first_word.result.0.now
    (words_after c.first_word.result.1) c.in_ok-number.number words c.in_ok-number.ensures.value in
    record {
      command_of_words = ap (λ numbers. numbers_after numbers (words_after c.first_word.result.1))
          (take_more_set c.loop-rest.values c.loop-rest.count c.in_ok-number.number room) ∙ more ∙ c.loop-rest.invariant.command_of_words;
      few = omega arith;
      places = length-set c.loop-rest.values c.loop-rest.count c.in_ok-number.number ∙ c.loop-rest.invariant.places;
    }

pub returns-clause-numbers : goal.returns-clause-numbers
unfolding words_after
returns-clause-numbers c = sym c.loop-rest.invariant.command_of_words
    ∙ numbers_after-none (take c.loop-rest.count c.loop-rest.values) (words_after c.loop-rest.rest) (ap words_after c.in_default.is)
