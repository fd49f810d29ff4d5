-- The number at the front of a text is the longest one that the grammar has there.
use Rattle.std.proofs.Common.{◌≡◌, ℕ, zero, suc, ◌+◌, ◌<◌, ◌≤◌, Bool, true, false, cond, min, Option, Some, None, List, [], ◌∷◌, ◌++◌, length, take, refl, sym, ap, ◌∙◌, subst, arith, length-take-le}
use Rattle.std.specs.Prelude.{IfSome, ◌==◌}
use Rattle.std.specs.List.{prefix_len, AllPass}
use Rattle.std.proofs.lemmas.Bool.{cond-false, cond_both, eqb-false, ne_eqb}
use Rattle.std.proofs.lemmas.List.{take-take}
use Rattle.std.proofs.lemmas.List.Sums.{prefix_len-le-length}
use Rattle.abc_text.specs.Digit.{is_digit, decimal}
use Rattle.abc_text.specs.Number.{IsNumber}
use Rattle.abc_text.proofs.Fronts.{front_passes, front_append, take_exact}
use Rattle.abc_scan.specs.Number.{IsOptionalNumber, number_size, number_at, optional, optional_number_at}
use Rattle.abc_scan.proofs.Readings.{Finds, Covers, IsSpelled}

-- a front that passes, counted up to a limit
count_more : (passes : Bool) (m k n : ℕ) → m ≡ min k n → cond passes (1 + m) 0 ≡ min (cond passes (1 + k) 0) (suc n)
count_more true m k n e = omega arith
count_more false m k n e = omega arith

pub prefix_take : (p : ℕ → Bool) (n : ℕ) (xs : List ℕ) → prefix_len p (take n xs) ≡ min (prefix_len p xs) n
prefix_take p zero [] = refl
prefix_take p (suc n) [] = omega arith
prefix_take p zero (x ∷ xs) = omega arith
prefix_take p (suc n) (x ∷ xs) = count_more (p x) (prefix_len p (take n xs)) (prefix_len p xs) n (prefix_take p n xs)

-- a front that passes is counted
pub counted : (p : ℕ → Bool) (n : ℕ) (front rest : List ℕ) → AllPass p front → prefix_len p (take n (front ++ rest)) ≡ min (length front + prefix_len p rest) n
counted p n front rest passes = prefix_take p n (front ++ rest) ∙ ap (λ k. min k n) (front_append p front rest passes)

-- the front that is counted passes
pub counted_passes : (p : ℕ → Bool) (n : ℕ) (text : List ℕ) → AllPass p (take (prefix_len p (take n text)) text)
counted_passes p n text =
    let few : prefix_len p (take n text) ≤ n = omega (arith, prefix_take p n text) in
    subst (AllPass p) (take-take (prefix_len p (take n text)) n text few) (front_passes p (take n text))

pub counted-le : (p : ℕ → Bool) (n : ℕ) (text : List ℕ) → (prefix_len p (take n text) ≤ n) × (prefix_len p (take n text) ≤ length text)
counted-le p n text =
    let count = prefix_take p n text in let inside = prefix_len-le-length p text in (omega (arith, count), omega (arith, count, inside))

pub number_digits : (text : List ℕ) (n : ℕ) → n ≡ number_size text → AllPass is_digit (take n text)
number_digits text n e = subst (λ k. AllPass is_digit (take k text)) (sym e) (counted_passes is_digit 9 text)

number_read : (text : List ℕ) → 0 < number_size text → number_at text ≡ Some (decimal (take (number_size text) text), number_size text)
unfolding number_at
number_read text some = cond-false _ _ _ (ne_eqb (number_size text) 0 (λ e. absurd (omega arith)))

pub number_longest : (front rest : List ℕ) (n : ℕ) → IsNumber front n → Finds (number_at (front ++ rest)) front n
number_longest front rest n is =
    let text = front ++ rest in
    let count : number_size text ≡ min (length front + prefix_len is_digit rest) 9 = counted is_digit 9 front rest is.digits in
    record {
      found = decimal (take (number_size text) text);
      size = number_size text;
      is_read = number_read text (omega (arith, count, is.some));
      long = omega (arith, count, is.few);
      same = λ e. is.value ∙ ap decimal (sym (take_exact (number_size text) front rest (sym e)));
    }

-- a number that no digit follows is read as itself
pub number_exact : (front rest : List ℕ) (n : ℕ) → IsNumber front n → prefix_len is_digit rest ≡ 0 → number_at (front ++ rest) ≡ Some (n, length front)
number_exact front rest n is none =
    let text = front ++ rest in
    let count : number_size text ≡ length front = (let c = counted is_digit 9 front rest is.digits in omega (arith, c, none, is.few)) in
    let value : decimal (take (number_size text) text) ≡ n = ap decimal (take_exact (number_size text) front rest count) ∙ sym is.value in
    number_read text (omega (arith, count, is.some)) ∙ (λ i. Some (value i, count i))

pub number_sound : (text : List ℕ) → IfSome (number_at text) (IsSpelled IsNumber text)
unfolding number_at
number_sound text =
    let k = number_size text in
    let bound = counted-le is_digit 9 text in
    let long : length (take k text) ≡ k = length-take-le k text bound.1 in
    cond_both (k == 0) None (Some (decimal (take k text), k)) (λ o. IfSome o (IsSpelled IsNumber text))
    (λ _. tt)
    (λ fails.
    let some = eqb-false k 0 fails in (
      record { some = omega (arith, some); inside = bound.1 },
      record { some = omega (arith, some, long); few = omega (arith, bound, long); digits = counted_passes is_digit 9 text; value = refl },
    ))

-- a text that begins with no digit begins with no number
pub number_none : (text : List ℕ) → prefix_len is_digit text ≡ 0 → number_at text ≡ None
unfolding number_at
number_none text none =
    let count : number_size text ≡ 0 = (let c = prefix_take is_digit 9 text in omega (arith, c, none)) in
    ap (λ (k : ℕ). cond (k == 0) None (Some (decimal (take k text), k))) count

-- the same of a number that may be absent
short_none : (text : List ℕ) (o : Option (ℕ × ℕ)) → IfSome o (IsSpelled IsNumber text) → 0 ≡ (optional o).1 → None ≡ (optional o).0
short_none text None h e = refl
short_none text (Some number) h e = absurd (omega (arith, h.0.some, e))

pub optional_number_longest : (front rest : List ℕ) (value : Option ℕ) → IsOptionalNumber front value → Covers (optional_number_at (front ++ rest)) front value
optional_number_longest front rest None is =
    let text = front ++ rest in
    let empty = ap length is in
    (omega (arith, empty), λ e. short_none text (number_at text) (number_sound text) (omega (arith, empty, e)))
optional_number_longest front rest (Some n) is =
    let f = number_longest front rest n is in
    subst (λ (r : Option ℕ × ℕ). Covers r front (Some n)) (sym (ap optional f.is_read)) (f.long, λ e. ap Some (f.same e))

optional_is : (text : List ℕ) (o : Option (ℕ × ℕ)) → IfSome o (IsSpelled IsNumber text) → ((optional o).1 ≤ length text) × IsOptionalNumber (take (optional o).1 text) (optional o).0
optional_is text None h = (omega arith, refl)
optional_is text (Some number) h = (h.0.inside, h.1)

pub optional_number_sound : (text : List ℕ) → ((optional_number_at text).1 ≤ length text) × IsOptionalNumber (take (optional_number_at text).1 text) (optional_number_at text).0
optional_number_sound text = optional_is text (number_at text) (number_sound text)
