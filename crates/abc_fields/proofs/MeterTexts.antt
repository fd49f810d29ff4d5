-- A text is read as a meter exactly if it is one.
use Rattle.std.proofs.Common.{◌≡◌, ℕ, ◌-◌, ◌≤◌, ◌^◌, ◌&&◌, ◌||◌, ◌==◌, Bool, true, false, cond, List, [], ◌∷◌, ◌++◌, length, get_or, take, sum, codes, bytes_eq, Option, Some, None, Result, refl, sym}
use Rattle.std.proofs.Common.{ap, ◌∙◌, subst, inl, inr, ⊎_elim, arith}
use Rattle.std.specs.Prelude.{not}
use Rattle.std.specs.Option.{option_and_then}
use Rattle.std.proofs.Math.Seq.{take-append_seam, get_or-append_seam}
use Rattle.std.proofs.lemmas.Bool.{eqb-true, and_parts, and_from, and_left, cases_Bool, not_from_false, cond-true, cond-false, or_cases, or_from, false_from_ne_true}
use Rattle.std.proofs.lemmas.Bool.Decides.{nat_tests}
use Rattle.std.proofs.lemmas.List.{length-append}
use Rattle.std.proofs.lemmas.List.Elements.{All-nil, All-cons, All-head, All-same, All-append, All-weaker}
use Rattle.std.proofs.lemmas.Slice.Eq.{bytes_eq-Decides}
use Rattle.abc_fields.specs.declared.fault_code.FaultCode.{FaultCode}
use Rattle.abc_fields.specs.declared.fault_code.FaultCode.TheVariants.{BadMeter}
use Rattle.abc_fields.specs.declared.meter.Meter.{Meter}
use Rattle.abc_fields.specs.declared.meter.Meter.TheVariants.{Free, Of}
use Rattle.abc_text.specs.Byte.{slash}
use Rattle.abc_text.specs.Cut.{HasNoByte, cut_at}
use Rattle.abc_text.specs.Number.{number_of}
use Rattle.abc_text.specs.Power.{IsPowerUpTo, power_up_to}
use Rattle.abc_fields.specs.Meter.{IsMeterInRange, has_plus, sum_of, closes_a_sum, upper_number, meter_by, meter_of_parts, fraction_of, symbol_or_fraction, meter_of}
use Rattle.abc_fields.specs.Spelling.Meter.{IsSum, IsAbove, IsFraction, IsMeter}
use Rattle.abc_text.proofs.Cuts.{cut_at-found, cut_at-cuts}
use Rattle.abc_text.proofs.Fronts.{last_split}
use Rattle.abc_text.proofs.Numbers.{number_of-spells, number_of-spelled}
use Rattle.abc_text.proofs.Powers.{power_least, power_most, power_up_to-from, power_up_to-to}
use Rattle.abc_fields.proofs.Readings.{bound, Reads, reads}
use Rattle.abc_fields.proofs.SumTexts.{sum_of-from, sum_of-to, has_plus-from, has_plus-to, IsSumByte, sum_bytes}

-- a list ends with its last element
last_is : (xs : List ℕ) (c : ℕ) → 1 ≤ c → get_or xs (length xs - 1) 0 ≡ c → xs ≡ take (length xs - 1) xs ++ c ∷ []
last_is [] c some e = absurd (omega (arith, e))
last_is (x ∷ xs) c some e = last_split (x ∷ xs) (omega arith) ∙ ap (λ b. take (length (x ∷ xs) - 1) (x ∷ xs) ++ b ∷ []) e

-- the number above the stroke
record IsRead (text : List ℕ) (n : ℕ) : Type 0 where
  above : IsAbove text n
  small : n ≤ 255

plain : (text : List ℕ) (n : ℕ) → sum_of text ≡ Some n → IsRead text n
plain text n e = let k = sum_of-from text n e in record { above = record { numbers = k.0; total_is = k.2; spelling = inl k.1 }; small = k.3 }

in_parentheses : (b : ℕ) (rest : List ℕ) (n : ℕ) → ((b == 40) && closes_a_sum rest) ≡ true → sum_of (take (length rest - 1) rest) ≡ Some n → IsRead (b ∷ rest) n
in_parentheses b rest n t e =
    let inner = take (length rest - 1) rest in
    let opens = and_parts (b == 40) (closes_a_sum rest) t in
    let closes = and_parts (get_or rest (length rest - 1) 0 == 41) (has_plus inner) opens.1 in
    let k = sum_of-from inner n e in
    record {
      above = record {
        numbers = k.0;
        total_is = k.2;
        spelling = inr (record {
          inner = inner;
          spelling = ap (λ x. x ∷ rest) (eqb-true b 40 opens.0) ∙ ap (λ l. 40 ∷ l) (last_is rest 41 (omega arith) (eqb-true (get_or rest (length rest - 1) 0) 41 closes.0));
          summed = k.1;
          several = has_plus-from inner k.0 k.1 closes.1;
        });
      };
      small = k.3;
    }

above_from : (text : List ℕ) (n : ℕ) → upper_number text ≡ Some n → IsRead text n
above_from [] n e = plain [] n e
above_from (b ∷ rest) n e = ⊎_elim
    (λ t. in_parentheses b rest n t (sym (cond-true _ _ _ t) ∙ e))
    (λ t. plain (b ∷ rest) n (sym (cond-false _ _ _ t) ∙ e))
    (cases_Bool ((b == 40) && closes_a_sum rest))

plain_to : (text numbers : List ℕ) → IsSum text numbers → upper_number text ≡ sum_of text
plain_to [] numbers h = refl
plain_to (b ∷ rest) numbers h = cond-false _ _ _ (and_left _ _ (All-head IsSumByte b rest (sum_bytes (b ∷ rest) numbers h)).not_open)

closed_to : (inner numbers : List ℕ) → IsSum inner numbers → 2 ≤ length numbers → upper_number (40 ∷ inner ++ 41 ∷ []) ≡ sum_of inner
closed_to inner numbers h several =
    let rest = inner ++ 41 ∷ [] in
    let front : length rest - 1 ≡ length inner = omega (arith, length-append inner (41 ∷ [])) in
    let inside : take (length rest - 1) rest ≡ inner = ap (λ i. take i rest) front ∙ take-append_seam inner (41 ∷ []) in
    let last : (get_or rest (length rest - 1) 0 == 41) ≡ true = ap (λ i. get_or rest i 0 == 41) front ∙ ap (λ x. x == 41) (get_or-append_seam inner 41 [] 0) in
    let plus : has_plus (take (length rest - 1) rest) ≡ true = ap has_plus inside ∙ has_plus-to inner numbers h several in
    cond-true ((40 == 40) && closes_a_sum rest) _ _ (and_from _ _ last plus) ∙ ap sum_of inside

above_to : (text : List ℕ) (n : ℕ) → IsAbove text n → n ≤ 255 → upper_number text ≡ Some n
above_to text n h small =
    let total : n ≡ sum h.numbers = h.total_is in
    let within : sum h.numbers ≤ 255 = omega arith in
    ⊎_elim
    (λ k. plain_to text h.numbers k ∙ sum_of-to text h.numbers k within ∙ ap Some (sym total))
    (λ p. ap upper_number p.spelling ∙ closed_to p.inner h.numbers p.summed p.several ∙ sum_of-to p.inner h.numbers p.summed within ∙ ap Some (sym total))
    h.spelling

sum_Without : (text numbers : List ℕ) → IsSum text numbers → HasNoByte slash text
sum_Without text numbers h = All-weaker IsSumByte (λ b. not (b == slash) ≡ true) (λ b k. not_from_false (b == slash) k.no_stroke) text (sum_bytes text numbers h)

above_Without : (text : List ℕ) (n : ℕ) → IsAbove text n → HasNoByte slash text
above_Without text n h = ⊎_elim
    (λ k. sum_Without text h.numbers k)
    (λ p. let clean = λ (b : ℕ). not (b == slash) ≡ true in
    let closed = All-append clean p.inner (41 ∷ []) (sum_Without p.inner h.numbers p.summed) (All-cons clean 41 [] refl (All-nil clean)) in
    All-same clean text (40 ∷ p.inner ++ 41 ∷ []) p.spelling (All-cons clean 40 (p.inner ++ 41 ∷ []) refl closed))
    h.spelling

-- a fraction
record Parts (o p : Option ℕ) (m : Meter) : Type 0 where
  num : ℕ
  den : ℕ
  num_is : o ≡ Some num
  den_is : p ≡ Some den
  some : 1 ≤ num
  meter : m ≡ Of num den

parts_at : (n d : ℕ) (m : Meter) (t : Bool) → t ≡ (n == 0) → cond t None (Some (Of n d)) ≡ Some m → Parts (Some n) (Some d) m
parts_at n d m true e h = cc
parts_at n d m false e h = record { num = n; den = d; num_is = refl; den_is = refl; some = grind (arith, nat_tests); meter = cc }

parts : (o p : Option ℕ) (m : Meter) → meter_by o p ≡ Some m → Parts o p m
parts None p m h = cc
parts (Some n) None m h = cc
parts (Some n) (Some d) m h = parts_at n d m (n == 0) refl h

record FractionRead (text : List ℕ) (m : Meter) : Type 0 where
  num : ℕ
  den : ℕ
  meter : m ≡ Of num den
  fraction : IsFraction text num den

fraction_from : (text : List ℕ) (m : Meter) → fraction_of text ≡ Some m → FractionRead text m
unfolding fraction_of
fraction_from text m e =
    let cut = bound meter_of_parts (cut_at slash text) m e in
    let is = cut_at-cuts slash text cut.0 cut.1 in
    let p = parts (upper_number cut.0.0) (power_up_to 6 (number_of cut.0.1)) m cut.2 in
    let above = above_from cut.0.0 p.num p.num_is in
    let below = power_up_to-from 6 (number_of cut.0.1) p.den p.den_is in
    record {
      num = p.num;
      den = p.den;
      meter = p.meter;
      fraction = record {
        above = cut.0.0;
        below = cut.0.1;
        spelling = is.spelling;
        num_is = above.above;
        den_is = number_of-spells cut.0.1 p.den below.0;
        num_least = p.some;
        num_most = above.small;
        den_power = below.1;
      };
    }

fraction_cut : (above below : List ℕ) → HasNoByte slash above → fraction_of (above ++ slash ∷ below) ≡ meter_by (upper_number above) (power_up_to 6 (number_of below))
unfolding fraction_of
fraction_cut above below clean = ap (option_and_then meter_of_parts) (cut_at-found slash above below clean)

fraction_to : (text : List ℕ) (num den : ℕ) → IsFraction text num den → fraction_of text ≡ Some (Of num den)
fraction_to text num den h =
    let some : 1 ≤ num = h.num_least in
    ap fraction_of h.spelling ∙ fraction_cut h.above h.below (above_Without h.above num h.num_is)
    ∙ ap (λ o. meter_by o (power_up_to 6 (number_of h.below))) (above_to h.above num h.num_is h.num_most)
    ∙ ap (meter_by (Some num)) (power_up_to-to 6 (number_of h.below) den (number_of-spelled h.below den h.den_is) h.den_power)
    ∙ cond-false (num == 0) _ _ (grind (arith, nat_tests))

-- the meter by its tests
abbrev by_tests : Bool → Bool → Bool → Option Meter → Option Meter
by_tests free common cut fraction = cond free (Some Free) (cond common (Some (Of 4 4)) (cond cut (Some (Of 2 2)) fraction))

tested_from : (free common cut : Bool) (fraction : Option Meter) (text : List ℕ) (m : Meter) → (free ≡ true → IsMeter text Free) → (common ≡ true → text ≡ codes "C") → (cut ≡ true → text ≡ codes "C|")
    → (fraction ≡ Some m → IsMeter text m) → by_tests free common cut fraction ≡ Some m → IsMeter text m
tested_from true common cut fraction text m f g h k e = let same : Free ≡ m = cc in subst (IsMeter text) same (f refl)
tested_from false true cut fraction text m f g h k e = let same : Of 4 4 ≡ m = cc in subst (IsMeter text) same (inl (inl (g refl, refl, refl)))
tested_from false false true fraction text m f g h k e = let same : Of 2 2 ≡ m = cc in subst (IsMeter text) same (inl (inr (h refl, refl, refl)))
tested_from false false false fraction text m f g h k e = k e

free_from : (text : List ℕ) → (bytes_eq text [] || bytes_eq text (codes "none")) ≡ true → IsMeter text Free
free_from text e = ⊎_elim
    (λ empty. inl ((bytes_eq-Decides text []).0 empty))
    (λ none. inr ((bytes_eq-Decides text (codes "none")).0 none))
    (or_cases _ _ e)

read_from : (text : List ℕ) (m : Meter) → symbol_or_fraction text ≡ Some m → IsMeter text m
unfolding symbol_or_fraction
read_from text m e =
    tested_from (bytes_eq text [] || bytes_eq text (codes "none")) (bytes_eq text (codes "C")) (bytes_eq text (codes "C|")) (fraction_of text) text m
    (free_from text) (bytes_eq-Decides text (codes "C")).0 (bytes_eq-Decides text (codes "C|")).0
    (λ h. let k = fraction_from text m h in subst (IsMeter text) (sym k.meter) (inr k.fraction)) e

-- no fraction is a symbol
differs : (text word : List ℕ) (m : Meter) → fraction_of text ≡ Some m → fraction_of word ≡ None → bytes_eq text word ≡ false
differs text word m e none = false_from_ne_true (bytes_eq text word)
    (λ t. let same : text ≡ word = (bytes_eq-Decides text word).0 t in let k : ◌≡◌ {A = Option Meter} None (Some m) = sym none ∙ ap fraction_of (sym same) ∙ e in cc)

fraction_is : (text : List ℕ) (m : Meter) → fraction_of text ≡ Some m → fraction_of [] ≡ None → fraction_of (codes "none") ≡ None → fraction_of (codes "C") ≡ None → fraction_of (codes "C|") ≡ None
    → symbol_or_fraction text ≡ Some m
unfolding symbol_or_fraction
fraction_is text m e empty none common cut =
    cond-false (bytes_eq text [] || bytes_eq text (codes "none")) _ _ (or_from _ _ (differs text [] m e empty) (differs text (codes "none") m e none))
    ∙ cond-false (bytes_eq text (codes "C")) _ _ (differs text (codes "C") m e common)
    ∙ cond-false (bytes_eq text (codes "C|")) _ _ (differs text (codes "C|") m e cut)
    ∙ e

no_fraction : (word : List ℕ) → cut_at slash word ≡ None → fraction_of word ≡ None
unfolding fraction_of
no_fraction word e = ap (option_and_then meter_of_parts) e

read_to : (text : List ℕ) (m : Meter) → IsMeter text m → symbol_or_fraction text ≡ Some m
unfolding symbol_or_fraction cut_at
read_to text Free h = ⊎_elim (λ e. ap symbol_or_fraction e) (λ e. ap symbol_or_fraction e) h
read_to text (Of num den) h = ⊎_elim
    (λ symbol. ⊎_elim
    (λ k. ap symbol_or_fraction k.0 ∙ ap (λ n. Some (Of n 4)) (sym k.1) ∙ ap (λ d. Some (Of num d)) (sym k.2))
    (λ k. ap symbol_or_fraction k.0 ∙ ap (λ n. Some (Of n 2)) (sym k.1) ∙ ap (λ d. Some (Of num d)) (sym k.2))
    symbol)
    (λ k. fraction_is text (Of num den) (fraction_to text num den k) (no_fraction [] refl) (no_fraction (codes "none") refl) (no_fraction (codes "C") refl) (no_fraction (codes "C|") refl))
    h

-- the parts of a meter are in range
two_power : (k n : ℕ) → k ≤ 6 → n ≡ 2 ^ k → IsPowerUpTo 6 n
two_power k n small e = record { power = k; small = small; value = e }

meter_range : (text : List ℕ) (m : Meter) → IsMeter text m → IsMeterInRange m
meter_range text Free h = tt
meter_range text (Of num den) h = ⊎_elim
    (λ symbol. ⊎_elim
    (λ k. let n = k.1 in let d = k.2 in record { num_least = omega arith; num_most = omega arith; den_least = omega arith; den_most = omega arith; den_power = two_power 2 den (omega arith) d })
    (λ k. let n = k.1 in let d = k.2 in record { num_least = omega arith; num_most = omega arith; den_least = omega arith; den_most = omega arith; den_power = two_power 1 den (omega arith) d })
    symbol)
    (λ k. record { num_least = k.num_least; num_most = k.num_most; den_least = power_least 6 den k.den_power; den_most = power_most 6 den k.den_power; den_power = k.den_power })
    h

-- the reader answers the meter
pub meter_read : (text : List ℕ) (r : Result Meter FaultCode) → r ≡ meter_of text → Reads (IsMeter text) IsMeterInRange BadMeter r
meter_read text = reads (IsMeter text) IsMeterInRange BadMeter (symbol_or_fraction text) (read_from text) (read_to text) (meter_range text)
