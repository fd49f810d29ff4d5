-- Factors that change nothing.
use Rattle.std.proofs.Common.{◌≡◌, ◌∙◌, ℕ, ◌*◌, ◌^◌, List, [], ◌∷◌, ◌++◌, map, ◌≤◌, ◌<◌, ◌↔◌, Option, Some, None, Result, Ok, Err, refl, sym, ap, subst, arith}
use Rattle.std.specs.Prelude.{unwrap_or, option_to_list, All, IfSome, true, false, ◌==◌, length}
use Rattle.std.specs.Option.{ForSome, is_some}
use Rattle.std.specs.Result.{result_ok}
use Rattle.std.proofs.lemmas.Bool.{eqb-true}
use Rattle.std.proofs.lemmas.Nat.{mul-le}
use Rattle.std.proofs.lemmas.List.Elements.{All-nil, All-cons}
use Rattle.abc_time.specs.declared.grains.Grains.{Grains}
use Rattle.abc_time.specs.declared.lengths.LengthFault.{LengthFault}
use Rattle.abc_time.specs.declared.ratio.Ratio.{Ratio}
use Rattle.abc_time.specs.Grains.{grains_of_a_whole_note, grains_of_the_longest_length}
use Rattle.abc_time.specs.Length.{IsLength, length_of, quotient_of}
use Rattle.abc_time.specs.Product.{product_of}
use Rattle.abc_time.specs.Ratio.{IsRatio}
use Rattle.abc_time.proofs.LengthLaws.{length_of-Ok}
use Rattle.abc_text.proofs.Powers.{power_least}
use Rattle.abc_bars_voice.specs.Tuplet.{OpenTuplet, tuplet_factors}
use Rattle.abc_bars_voice.specs.UnitLength.{IsUnitPart}

-- the factor that changes nothing
abbrev pub once : Ratio
once = record { num = 1; den = 1 }

-- two lists of factors have the same products
pub record SameProducts (these those : List Ratio) : Type 0 where
  pub nums : product_of (map (λ r. r.num) these) ≡ product_of (map (λ r. r.num) those)
  pub dens : product_of (map (λ r. r.den) these) ≡ product_of (map (λ r. r.den) those)

pub same_length : (unit : Ratio) (these those : List Ratio) → SameProducts these those → length_of unit these ≡ length_of unit those
unfolding length_of
same_length unit these those h =
    λ i. quotient_of (grains_of_a_whole_note * (unit.num * h.nums i)) (unit.den * h.dens i)

pub one_more : (factor : Ratio) (these those : List Ratio) → SameProducts these those → SameProducts (factor ∷ these) (factor ∷ those)
one_more factor these those h = record { nums = ap (λ n. factor.num * n) h.nums; dens = ap (λ n. factor.den * n) h.dens }

pub or_once : (factor : Option Ratio) (these those : List Ratio) → SameProducts these those → SameProducts (unwrap_or factor once ∷ these) (option_to_list factor ++ those)
or_once None these those h = let nums = h.nums in let dens = h.dens in record { nums = omega arith; dens = omega arith }
or_once (Some factor) these those h = one_more factor these those h

pub nothing : SameProducts [] []
nothing = record { nums = refl; dens = refl }

last : (factor : Option Ratio) → SameProducts (unwrap_or factor once ∷ []) (option_to_list factor)
last None = record { nums = refl; dens = refl }
last (Some factor) = record { nums = refl; dens = refl }

-- Five factors: absent ones change nothing.
pub same_products : (own outer tuplet preceding ahead : Ratio) (o t b a : Option Ratio)
    → outer ≡ unwrap_or o once → tuplet ≡ unwrap_or t once → preceding ≡ unwrap_or b once → ahead ≡ unwrap_or a once
    → SameProducts (own ∷ outer ∷ tuplet ∷ preceding ∷ ahead ∷ []) (own ∷ (option_to_list o ++ (option_to_list t ++ (option_to_list b ++ option_to_list a))))
same_products own outer tuplet preceding ahead o t b a eo et eb ea =
    let list : List Ratio = own ∷ (option_to_list o ++ (option_to_list t ++ (option_to_list b ++ option_to_list a))) in
    let is : own ∷ unwrap_or o once ∷ unwrap_or t once ∷ unwrap_or b once ∷ unwrap_or a once ∷ [] ≡ own ∷ outer ∷ tuplet ∷ preceding ∷ ahead ∷ [] =
    λ i. own ∷ sym eo i ∷ sym et i ∷ sym eb i ∷ sym ea i ∷ [] in
    subst (λ l. SameProducts l list) is (one_more own _ _ (or_once o _ _ (or_once t _ _ (or_once b _ _ (last a)))))

once_is : IsRatio once
once_is = record { num_least = omega arith; num_most = omega arith; den_least = omega arith; den_most = omega arith }

or_once_is : (o : Option Ratio) (r : Ratio) → r ≡ unwrap_or o once → IfSome o IsRatio → IsRatio r
or_once_is None r e h = subst IsRatio (sym e) once_is
or_once_is (Some x) r e h = subst IsRatio (sym e) h

pub for_some : (o : Option Ratio) → ForSome o IsRatio → IfSome o IsRatio
for_some None h = tt
for_some (Some x) h = h x refl

-- each of them is a ratio in range
pub all_ratios : (own outer tuplet preceding ahead : Ratio) (o t b a : Option Ratio)
    → outer ≡ unwrap_or o once → tuplet ≡ unwrap_or t once → preceding ≡ unwrap_or b once → ahead ≡ unwrap_or a once
    → IsRatio own → IfSome o IsRatio → IfSome t IsRatio → IfSome b IsRatio → IfSome a IsRatio
    → All IsRatio (own ∷ outer ∷ tuplet ∷ preceding ∷ ahead ∷ [])
all_ratios own outer tuplet preceding ahead o t b a eo et eb ea h ho ht hb ha =
    All-cons IsRatio own (outer ∷ tuplet ∷ preceding ∷ ahead ∷ []) h
    (All-cons IsRatio outer (tuplet ∷ preceding ∷ ahead ∷ []) (or_once_is o outer eo ho)
    (All-cons IsRatio tuplet (preceding ∷ ahead ∷ []) (or_once_is t tuplet et ht)
    (All-cons IsRatio preceding (ahead ∷ []) (or_once_is b preceding eb hb)
    (All-cons IsRatio ahead [] (or_once_is a ahead ea ha) (All-nil IsRatio)))))

-- factors with the same products make the same lengths
is_length_along : (unit : Ratio) (these those : List Ratio) (g : ℕ) → SameProducts these those → IsLength unit these g → IsLength unit those g
is_length_along unit these those g h is =
    ap (λ n. g * (unit.den * n)) (sym h.dens) ∙ is ∙ ap (λ n. grains_of_a_whole_note * (unit.num * n)) h.nums

other_way : (these those : List Ratio) → SameProducts these those → SameProducts those these
other_way these those h = record { nums = sym h.nums; dens = sym h.dens }

-- an accepted length is one exactly
pub ok_or_none : (r : Result Grains LengthFault) (grains : Grains) → (result_ok r ≡ Some grains) ↔ (r ≡ Ok grains)
ok_or_none (Ok x) grains = (λ e. cc, λ e. cc)
ok_or_none (Err f) grains = (λ e. cc, λ e. cc)

abbrev pub IsExactly : Ratio → List Ratio → ℕ → Type 0
IsExactly unit factors g = IsLength unit factors g × (g ≤ grains_of_the_longest_length)

pub exact_along : (unit at : Ratio) (these those : List Ratio) (r : Result Grains LengthFault) (found : Option Grains) → at ≡ unit → SameProducts these those → found ≡ result_ok r
    → ((g : ℕ) → (r ≡ Ok (record { 0 = g })) ↔ IsExactly at these g) → (g : ℕ) → (found ≡ Some (record { 0 = g })) ↔ IsExactly unit those g
exact_along unit at these those r found same h is ok g =
    let to : found ≡ Some (record { 0 = g }) → IsExactly unit those g = λ e.
    let exactly = (ok g).0 ((ok_or_none r (record { 0 = g })).0 (sym is ∙ e)) in
    (is_length_along unit these those g h (subst (λ u. IsLength u these g) same exactly.0), exactly.1) in
    let from : IsExactly unit those g → found ≡ Some (record { 0 = g }) = λ e.
    is ∙ (ok_or_none r (record { 0 = g })).1 ((ok g).1 (subst (λ u. IsLength u these g) (sym same) (is_length_along unit those these g (other_way these those h) e.0), e.1)) in
    (to, from)

-- If only the note's own text multiplies the unit, by a whole number.
pub only_own : (own : Ratio) (outer : Option Ratio) (tuplet : Option OpenTuplet) (broken : List Ratio)
    → own.den ≡ 1 → outer ≡ None → tuplet ≡ None → broken ≡ []
    → record { num = own.num; den = 1 } ∷ [] ≡ own ∷ (option_to_list outer ++ (tuplet_factors tuplet ++ broken))
only_own own outer tuplet broken whole outer_is tuplet_is broken_is =
    λ i. record { num = own.num; den = sym whole i } ∷ (option_to_list (sym outer_is i) ++ (tuplet_factors (sym tuplet_is i) ++ sym broken_is i))

pub none_is : {A : Type 0} (o : Option A) → is_some o ≡ false → o ≡ None
none_is None h = refl
none_is (Some x) h = cc

pub empty_is : {A : Type 0} (l : List A) → (length l == 0) ≡ true → l ≡ []
empty_is [] h = refl
empty_is (x ∷ l) h = absurd (let e = eqb-true (length (x ∷ l)) 0 h in omega (arith, e))

-- a length that is known exactly is the one that is computed
pub known_value : (unit : Ratio) (factors : List Ratio) (grains : Grains) → IsRatio unit → All IsRatio factors → IsExactly unit factors grains.0
    → length_of unit factors ≡ Ok grains
known_value unit factors grains is all exactly = (length_of-Ok unit factors is all grains.0).1 exactly

pub known_exact : (unit : Ratio) (factors : List Ratio) (grains : Grains) → IsRatio unit → All IsRatio factors → IsExactly unit factors grains.0
    → (g : ℕ) → (Some grains ≡ Some (record { 0 = g })) ↔ IsExactly unit factors g
known_exact unit factors grains is all exactly =
    exact_along unit unit factors factors (length_of unit factors) (Some grains) refl (record { nums = refl; dens = refl })
    (sym (ap result_ok (known_value unit factors grains is all exactly))) (length_of-Ok unit factors is all)

-- A number of units is a length.
pub whole_is : (own : Ratio) → IsRatio own → All IsRatio (record { num = own.num; den = 1 } ∷ [])
whole_is own h =
    All-cons IsRatio (record { num = own.num; den = 1 }) [] (record { num_least = h.num_least; num_most = h.num_most; den_least = omega arith; den_most = omega arith })
    (All-nil IsRatio)

pub units_exact : (unit : Ratio) (count g : ℕ) → IsLength unit [] g → IsLength unit (record { num = count; den = 1 } ∷ []) (g * count)
units_exact unit count g exact =
    let product : g * (unit.den * 1) * count ≡ grains_of_a_whole_note * (unit.num * 1) * count = ap (λ n. n * count) exact in
    omega (arith, product)

pub units_short : (unit : Ratio) (count g : ℕ) → IsUnitPart unit → IsLength unit [] g → count ≤ 1024 → g * count ≤ grains_of_the_longest_length
unfolding grains_of_the_longest_length grains_of_a_whole_note
units_short unit count g is exact few =
    let one = is.one in
    let whole : g * (unit.den * 1) ≡ 929901772800 * (unit.num * 1) = exact in
    let more : g * 1 ≤ g * unit.den = mul-le g 1 g unit.den (omega arith) (power_least 9 unit.den is.power) in
    let product : g * count ≤ 929901772800 * 1024 = mul-le g count 929901772800 1024 (omega (arith, whole, more, one)) few in
    omega (arith, product)

pub units_fit : (count g : ℕ) → g ≤ grains_of_the_longest_length → count ≤ 1024 → g * count < 2 ^ 64
unfolding grains_of_the_longest_length grains_of_a_whole_note
units_fit count g short few =
    let product : g * count ≤ (1024 * 929901772800) * 1024 = mul-le g count (1024 * 929901772800) 1024 short few in
    omega (arith, product)
