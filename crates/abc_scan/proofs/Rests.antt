-- Rests, rests of bars and extra spaces at the front of a text are the longest that the grammar has there.
use Rattle.std.proofs.Common.{◌≡◌, ◌≤◌, ℕ, cond, Option, Some, None, List, [], ◌∷◌, ◌++◌, length, take, refl, sym, ap, ◌∙◌, subst}
use Rattle.std.specs.Prelude.{IfSome, ◌==◌, ◌||◌, ◌⊎◌}
use Rattle.std.proofs.lemmas.Bool.{cond-true, cond_both, eqb-true}
use Rattle.abc_scan.specs.declared.length.WrittenLength.{WrittenLength}
use Rattle.abc_scan.specs.BarRest.{IsBarRest, bar_rest_at}
use Rattle.abc_scan.specs.Cutting.{of_kind}
use Rattle.abc_scan.specs.Front.{after_byte}
use Rattle.abc_scan.specs.Length.{length_size}
use Rattle.abc_scan.specs.NoEffect.{IsExtraSpace, extra_space_at}
use Rattle.abc_scan.specs.Note.{IsRest, rest_at}
use Rattle.abc_scan.specs.Number.{optional_number_at}
use Rattle.abc_scan.proofs.Lengths.{read_length, length_longest, length_sound, length_size-le}
use Rattle.abc_scan.proofs.Marks.{take_one_more, two_tested, two_known}
use Rattle.abc_scan.proofs.Numbers.{optional_number_longest, optional_number_sound}
use Rattle.abc_scan.proofs.Readings.{Finds, IsSpelled, IsSized, front_more, finds-after}

-- one of two letters, and the length read after it
letter_sound : {V : Type 0} (Is : List ℕ → V → Type 0) (b m n : ℕ) (rest : List ℕ) (read : V × ℕ) → read.1 ≤ length rest → ((b ≡ m) ⊎ (b ≡ n) → Is (b ∷ take read.1 rest) read.0)
    → IfSome (cond ((b == m) || (b == n)) (Some (after_byte read)) None) (IsSpelled Is (b ∷ rest))
letter_sound Is b m n rest read inside spelled =
    cond_both ((b == m) || (b == n)) (Some (after_byte read)) None (λ o. IfSome o (IsSpelled Is (b ∷ rest)))
    (λ yes. (front_more read.1 b rest inside, subst (λ l. Is l read.0) (sym (take_one_more read.1 b rest)) (spelled (two_known b m n yes))))
    (λ _. tt)

pub rest_longest : (front rest : List ℕ) (value : WrittenLength) → IsRest front value → Finds (rest_at (front ++ rest)) front value
unfolding rest_at
rest_longest front rest value is =
    finds-after (rest_at (front ++ rest)) front value is.letter is.written (read_length (is.written ++ rest)) is.spelling
    (ap (λ l. rest_at (l ++ rest)) is.spelling ∙ cond-true _ _ _ (two_tested is.letter 122 120 is.letter_is)) (length_longest is.written rest value is.length_is)

pub rest_sound : (text : List ℕ) → IfSome (rest_at text) (IsSpelled IsRest text)
unfolding rest_at
rest_sound [] = tt
rest_sound (b ∷ rest) = letter_sound IsRest b 122 120 rest (read_length rest) (length_size-le rest)
    (λ is. record { letter = b; written = take (length_size rest) rest; spelling = refl; letter_is = is; length_is = length_sound rest })

pub bar_rest_longest : (front rest : List ℕ) (bars : Option ℕ) → IsBarRest front bars → Finds (bar_rest_at (front ++ rest)) front bars
unfolding bar_rest_at
bar_rest_longest front rest bars is =
    finds-after (bar_rest_at (front ++ rest)) front bars is.letter is.written (optional_number_at (is.written ++ rest)) is.spelling
    (ap (λ l. bar_rest_at (l ++ rest)) is.spelling ∙ cond-true _ _ _ (two_tested is.letter 90 88 is.letter_is)) (optional_number_longest is.written rest bars is.bars_are)

pub bar_rest_sound : (text : List ℕ) → IfSome (bar_rest_at text) (IsSpelled IsBarRest text)
unfolding bar_rest_at
bar_rest_sound [] = tt
bar_rest_sound (b ∷ rest) =
    let number = optional_number_sound rest in
    letter_sound IsBarRest b 90 88 rest (optional_number_at rest) number.0
    (λ is. record { letter = b; written = take (optional_number_at rest).1 rest; spelling = refl; letter_is = is; bars_are = number.1 })

-- an extra space, whatever kind its reader makes of it
pub extra_space_longest : {K : Type 0} (kind : K) (front rest : List ℕ) → IsExtraSpace front → Finds (of_kind kind (extra_space_at (front ++ rest))) front kind
unfolding extra_space_at
extra_space_longest kind front rest is =
    let number = optional_number_longest is.written rest is.width is.width_is in
    finds-after (of_kind kind (extra_space_at (front ++ rest))) front kind 121 is.written (kind, (optional_number_at (is.written ++ rest)).1) is.spelling
    (ap (λ l. of_kind kind (extra_space_at (l ++ rest))) is.spelling) (number.0, λ _. refl)

pub extra_space_sound : (text : List ℕ) → IfSome (extra_space_at text) (IsSized IsExtraSpace text)
unfolding extra_space_at
extra_space_sound [] = tt
extra_space_sound (b ∷ rest) =
    let n = (optional_number_at rest).1 in
    let number = optional_number_sound rest in
    cond_both (b == 121) _ _ (λ o. IfSome o (IsSized IsExtraSpace (b ∷ rest)))
    (λ yes. (
      front_more n b rest number.0,
      record {
        written = take n rest;
        width = (optional_number_at rest).0;
        spelling = take_one_more n b rest ∙ ap (λ x. x ∷ take n rest) (eqb-true b 121 yes);
        width_is = number.1;
      },
    ))
    (λ _. tt)
