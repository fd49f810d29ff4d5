-- What is computed of a length is what the factors make that are round it.
use Rattle.std.proofs.Common.{◌≡◌, ◌∙◌, ℕ, zero, suc, ◌+◌, ◌-◌, ◌*◌, ◌^◌, ◌≤◌, ◌<◌, ◌↔◌, Bool, true, false, List, [], ◌∷◌, ◌++◌, length, drop, Option, Some, None, inl, inr, append-nil, refl, sym, ap}
use Rattle.std.proofs.Common.{subst, ⊎_elim, lit≤, arith}
use Rattle.std.specs.Prelude.{◌⊎◌, ◌&&◌, if◌then◌else◌, unwrap_or, option_map, option_to_list, option_and_then, All, IfSome, min, is_none}
use Rattle.std.specs.List.{Contains, slice_index_or}
use Rattle.std.specs.Result.{result_ok}
use Rattle.std.proofs.lemmas.Bool.Decides.{nat_tests}
use Rattle.abc_text.proofs.Powers.{power_least, power_most}
use Rattle.abc_fields.specs.declared.fault_code.FaultCode.{FaultCode}
use Rattle.abc_fields.specs.declared.fault_code.FaultCode.TheVariants.{BadLength, KeyRange}
use Rattle.abc_scan.specs.declared.broken.BrokenRhythm.{BrokenRhythm}
use Rattle.abc_scan.specs.declared.broken.Direction.{Direction}
use Rattle.abc_scan.specs.declared.broken.Direction.TheVariants.{Right, Left}
use Rattle.abc_scan.specs.declared.length.WrittenLength.{WrittenLength}
use Rattle.abc_scan.specs.declared.length.WrittenLength.TheVariants.{Factor, Refused}
use Rattle.abc_scan.specs.declared.spanned.Spanned.{Spanned}
use Rattle.abc_scan.specs.declared.token.TokenKind.{TokenKind}
use Rattle.abc_time.specs.declared.grains.Grains.{Grains}
use Rattle.abc_time.specs.declared.ratio.Ratio.{Ratio}
use Rattle.abc_time.specs.Grains.{grains_of_the_longest_length}
use Rattle.abc_time.specs.Length.{IsLength, length_of}
use Rattle.abc_time.specs.Ratio.{IsRatio}
use Rattle.abc_time.proofs.LengthLaws.{length_of-Ok}
use Rattle.abc_bars_voice.specs.declared.voice_state.VoiceState.{VoiceState}
use Rattle.abc_bars_notes.specs.Acting.{ActsBefore, ActsAfter, preceding_at}
use Rattle.abc_fields.specs.Meter.{HasMeterRange}
use Rattle.abc_bars_items.specs.declared.item.Item.{Item}
use Rattle.abc_bars_notes.specs.BarRest.{AreBars, bar_grains, bars_of, or_one_bar}
use Rattle.std.proofs.lemmas.List.Elements.{All-nil, All-cons}
use Rattle.abc_bars_notes.proofs.BarCounts.{bars_exact, no_bars}
use Rattle.abc_bars_notes.specs.Broken.{first_factor, second_factor, first_by, second_by, longer_ratio, shorter_ratio, parts_of, mark_before, mark_ahead}
use Rattle.abc_bars_notes.specs.Lengths.{is_ratio_part, ratio_of, written_ratio, texts_of, length_by, or_unit}
use Rattle.abc_bars_notes.specs.Lasting.{once, SaysFactor, IsOuterFactor, IsTupletFactor, IsLengthened, IsShortened, IsFirstFactor, IsSecondFactor, Lasts, IsPlace, factors_at, IsGiven, HasLengthFault}
use Rattle.abc_bars_notes.specs.Lasting.{NotesLast, RestsLast, BarRestsLast, FreeBarRests}
use Rattle.abc_bars_items.specs.declared.item.Item.TheVariants as items
use Rattle.abc_bars_items.specs.Column.{column_of}
use Rattle.abc_bars_notes.specs.Sound.{length_in, tone_in, key_in, fault_if}
use Rattle.abc_bars_voice.specs.Tuplet.{tuplet_ratio, tuplet_factors, IsOpen, OpenTuplet}
use Rattle.abc_bars_voice.specs.UnitLength.{IsUnitPart}
use Rattle.abc_bars_notes.proofs.Acting.{before_from, before_to, after_of, after_to}
use Rattle.abc_bars_notes.proofs.WholeBars.{bar_exact, bar_short}
use Rattle.abc_bars_voice.proofs.WholeParts.{unit_exact}
use Rattle.abc_bars_notes.proofs.Factors.{all_ratios as five_ratios, same_products, same_length, ok_or_none}

-- a number in range is one of a ratio
in_range : (n : ℕ) → 1 ≤ n → n ≤ 999999999 → is_ratio_part n ≡ true
in_range n least most = grind (arith, nat_tests)

ratio_is : (factor : Ratio) → IsRatio factor → ratio_of factor.num factor.den ≡ Some factor
ratio_is factor h =
    let num = in_range factor.num h.num_least h.num_most in
    let den = in_range factor.den h.den_least h.den_most in
    λ i. if num i && den i then Some (record { num = factor.num; den = factor.den }) else None

says_ratio : (written : WrittenLength) (factor : Ratio) → SaysFactor written factor → written_ratio written ≡ Some factor
says_ratio written factor h = ap written_ratio h.says ∙ ratio_is factor h.range

-- the parts of a ratio that is accepted are in range
part_is : (n : ℕ) → is_ratio_part n ≡ true → (1 ≤ n) × (n ≤ 999999999)
part_is n e = (grind (arith, nat_tests), grind (arith, nat_tests))

ratio_by : (num den : ℕ) (factor : Ratio) (a b : Bool) → is_ratio_part num ≡ a → is_ratio_part den ≡ b
    → (if a && b then Some (record { num = num; den = den }) else None) ≡ Some factor → SaysFactor (Factor num den) factor
ratio_by num den factor true true a b e =
    let same : record { num = num; den = den } ≡ factor = cc in
    let n = part_is num a in
    let d = part_is den b in
    let range : IsRatio (record { num = num; den = den }) = record { num_least = n.0; num_most = n.1; den_least = d.0; den_most = d.1 } in
    record { says = λ i. Factor (same i).num (same i).den; range = subst IsRatio same range }
ratio_by num den factor true false a b e = cc
ratio_by num den factor false b e f g = cc

ratio_says : (written : WrittenLength) (factor : Ratio) → written_ratio written ≡ Some factor → SaysFactor written factor
ratio_says (Factor num den) factor e = ratio_by num den factor (is_ratio_part num) (is_ratio_part den) refl refl e
ratio_says Refused factor e = cc

written_range : (written : WrittenLength) (o : Option Ratio) → written_ratio written ≡ o → IfSome o IsRatio
written_range written None e = tt
written_range written (Some factor) e = (ratio_says written factor e).range

-- the list of five factors
abbrev five : Ratio → Ratio → Ratio → Ratio → Ratio → List Ratio
five own outer tuplet before following = own ∷ outer ∷ tuplet ∷ before ∷ following ∷ []

-- each of them is a ratio in range
record AreRatios (t b a : Option Ratio) : Type 0 where
  t_is : IfSome t IsRatio
  b_is : IfSome b IsRatio
  a_is : IfSome a IsRatio

-- what the text after the chord says
abbrev OuterIs : Option (Option Ratio) → Ratio → Type 0
OuterIs None outer = outer ≡ once
OuterIs (Some y) outer = y ≡ Some outer

abbrev texts : Option Ratio → Option (Option Ratio) → List (Option Ratio)
texts x None = x ∷ []
texts x (Some y) = x ∷ y ∷ []

abbrev rest : Option Ratio → Option Ratio → Option Ratio → List Ratio
rest t b a = option_to_list t ++ (option_to_list b ++ option_to_list a)

module _ (unit : Ratio) (is_unit : IsRatio unit) (t b a : Option Ratio) (ratios : AreRatios t b a) where
  all_five : (w : Ratio) (o : Option Ratio) → IsRatio w → IfSome o IsRatio → All IsRatio (five w (unwrap_or o once) (unwrap_or t once) (unwrap_or b once) (unwrap_or a once))
  all_five w o w_is o_is =
      five_ratios w (unwrap_or o once) (unwrap_or t once) (unwrap_or b once) (unwrap_or a once) o t b a refl refl refl refl
      w_is o_is ratios.t_is ratios.b_is ratios.a_is

  -- the product of those that are there
  product : (w : Ratio) (o : Option Ratio) (g : ℕ) → IsRatio w → IfSome o IsRatio
      → (result_ok (length_of unit (w ∷ (option_to_list o ++ (option_to_list t ++ (option_to_list b ++ option_to_list a))))) ≡ Some (record { 0 = g }))
      ↔ (IsLength unit (five w (unwrap_or o once) (unwrap_or t once) (unwrap_or b once) (unwrap_or a once)) g × (g ≤ grains_of_the_longest_length))
  product w o g w_is o_is =
      let same = same_products w (unwrap_or o once) (unwrap_or t once) (unwrap_or b once) (unwrap_or a once) o t b a refl refl refl refl in
      let lengths = ap result_ok (same_length unit _ _ same) in
      let ok = length_of-Ok unit _ is_unit (all_five w o w_is o_is) g in
      let found = ok_or_none (length_of unit (five w (unwrap_or o once) (unwrap_or t once) (unwrap_or b once) (unwrap_or a once))) (record { 0 = g }) in
      (λ e. ok.0 (found.0 (lengths ∙ e)), λ h. sym lengths ∙ found.1 (ok.1 h))

  -- what the texts say, and what they make
  record Made (x : Option Ratio) (y : Option (Option Ratio)) (g : ℕ) : Type 0 where
    w : Ratio
    outer : Ratio
    w_is : x ≡ Some w
    outer_is : OuterIs y outer
    exact : IsLength unit (five w outer (unwrap_or t once) (unwrap_or b once) (unwrap_or a once)) g
    short : g ≤ grains_of_the_longest_length

  same_exact : (w w' outer outer' : Ratio) (g : ℕ) → w' ≡ w → outer' ≡ outer
      → IsLength unit (five w' outer' (unwrap_or t once) (unwrap_or b once) (unwrap_or a once)) g
      → IsLength unit (five w outer (unwrap_or t once) (unwrap_or b once) (unwrap_or a once)) g
  same_exact w w' outer outer' g e f h =
      subst (λ (r : Ratio × Ratio). IsLength unit (five r.0 r.1 (unwrap_or t once) (unwrap_or b once) (unwrap_or a once)) g) (λ i. (e i, f i)) h

  made : (x : Option Ratio) (y : Option (Option Ratio)) (g : ℕ) → IfSome x IsRatio → IfSome y (λ r. IfSome r IsRatio)
      → (length_by unit (texts x y) (rest t b a) ≡ Some (record { 0 = g })) ↔ Made x y g
  made None None g xs ys = (λ e. cc, λ h. let no = h.w_is in cc)
  made None (Some y) g xs ys = (λ e. cc, λ h. let no = h.w_is in cc)
  made (Some w) None g xs ys =
      let both = product w None g xs tt in (
        λ e. let h = both.0 e in record { w = w; outer = once; w_is = refl; outer_is = refl; exact = h.0; short = h.1 },
        λ h. both.1 (same_exact w h.w once h.outer g (let e = h.w_is in cc) h.outer_is h.exact, h.short),
      )
  made (Some w) (Some None) g xs ys = (λ e. cc, λ h. let no = h.outer_is in cc)
  made (Some w) (Some (Some o)) g xs ys =
      let both = product w (Some o) g xs ys in (
        λ e. let h = both.0 e in record { w = w; outer = o; w_is = refl; outer_is = refl; exact = h.0; short = h.1 },
        λ h. both.1 (same_exact w h.w o h.outer g (let e = h.w_is in cc) (let e = h.outer_is in cc) h.exact, h.short),
      )

-- the factor of a tuplet
tuplet_to : (t : Option OpenTuplet) (factor : Ratio) → IsTupletFactor t factor → factor ≡ unwrap_or (option_map tuplet_ratio t) once
tuplet_to None factor h = h
tuplet_to (Some t) factor h = λ i. record { num = h.0 i; den = h.1 i }

tuplet_from : (t : Option OpenTuplet) → IsTupletFactor t (unwrap_or (option_map tuplet_ratio t) once)
tuplet_from None = refl
tuplet_from (Some t) = (refl, refl)

tuplet_list : (t : Option OpenTuplet) → option_to_list (option_map tuplet_ratio t) ≡ tuplet_factors t
tuplet_list None = refl
tuplet_list (Some t) = refl

tuplet_range : (t : Option OpenTuplet) → IfSome t IsOpen → IfSome (option_map tuplet_ratio t) IsRatio
tuplet_range None h = tt
tuplet_range (Some t) h =
    let p = h.p_is in let q = h.q_is in
    let p1 = p.least in let p2 = p.most in let q1 = q.least in let q2 = q.most in
    record { num_least = q1; num_most = omega (arith, q2); den_least = p1; den_most = omega (arith, p2) }

-- two to at most three
record ArePartsOf (mark : BrokenRhythm) : Type 0 where
  is : parts_of mark ≡ 2 ^ mark.marks
  least : 1 ≤ parts_of mark
  most : parts_of mark ≤ 8

two_to : (k : ℕ) → k ≤ 3 → (2 ^ min k 3 ≡ 2 ^ k) × (1 ≤ 2 ^ min k 3) × (2 ^ min k 3 ≤ 8)
two_to zero h = (refl, lit≤ tt, lit≤ tt)
two_to (suc zero) h = (refl, lit≤ tt, lit≤ tt)
two_to (suc (suc zero)) h = (refl, lit≤ tt, lit≤ tt)
two_to (suc (suc (suc zero))) h = (refl, lit≤ tt, lit≤ tt)
two_to (suc (suc (suc (suc k)))) h = absurd (omega arith)

parts_are : (mark : BrokenRhythm) → mark.marks ≤ 3 → ArePartsOf mark
parts_are mark h = let e = two_to mark.marks h in record { is = e.0; least = e.1; most = e.2 }

-- what marks make of a note is what a rule says, and nothing else
record Makes (Is : Ratio → Type 0) (factor : Ratio) : Type 0 where
  to : (other : Ratio) → Is other → other ≡ factor
  from : Is factor
  range : IsRatio factor

longer_makes : (mark : BrokenRhythm) → mark.marks ≤ 3 → Makes (IsLengthened mark.marks) (longer_ratio mark)
longer_makes mark h =
    let few = parts_are mark h in let least = few.least in let most = few.most in let is = few.is in
    record {
      to = λ other says.
          let said : other.num + 1 ≡ 2 * 2 ^ mark.marks = says.num in
          let num : other.num ≡ 2 * parts_of mark - 1 = omega arith in
          λ i. record { num = num i; den = (says.den ∙ sym is) i };
      from = record { num = omega arith; den = is };
      range = record { num_least = omega arith; num_most = omega arith; den_least = omega arith; den_most = omega arith };
    }

shorter_makes : (mark : BrokenRhythm) → mark.marks ≤ 3 → Makes (IsShortened mark.marks) (shorter_ratio mark)
shorter_makes mark h =
    let few = parts_are mark h in let least = few.least in let most = few.most in
    record {
      to = λ other says. λ i. record { num = says.num i; den = (says.den ∙ sym few.is) i };
      from = record { num = refl; den = few.is };
      range = record { num_least = omega arith; num_most = omega arith; den_least = omega arith; den_most = omega arith };
    }

first_in : (direction : Direction) (mark : BrokenRhythm) → mark.marks ≤ 3 → Makes (IsFirstFactor direction mark.marks) (first_by direction mark)
first_in Right mark h = longer_makes mark h
first_in Left mark h = shorter_makes mark h

second_in : (direction : Direction) (mark : BrokenRhythm) → mark.marks ≤ 3 → Makes (IsSecondFactor direction mark.marks) (second_by direction mark)
second_in Right mark h = shorter_makes mark h
second_in Left mark h = longer_makes mark h

-- a mark makes this of the note before it, and of the one after it
abbrev First : BrokenRhythm → Ratio → Type 0
First mark = IsFirstFactor mark.direction mark.marks

abbrev Second : BrokenRhythm → Ratio → Type 0
Second mark = IsSecondFactor mark.direction mark.marks

first_makes : (mark : BrokenRhythm) → mark.marks ≤ 3 → Makes (First mark) (first_factor mark)
first_makes mark h = first_in mark.direction mark h

second_makes : (mark : BrokenRhythm) → mark.marks ≤ 3 → Makes (Second mark) (second_factor mark)
second_makes mark h = second_in mark.direction mark h

-- the factor of the mark that acts, if one does
record Found (o : Option BrokenRhythm) (Acts : BrokenRhythm → Type 0) : Type 0 where
  to : (mark : BrokenRhythm) → Acts mark → o ≡ Some mark
  from : (mark : BrokenRhythm) → o ≡ Some mark → Acts mark
  few : (mark : BrokenRhythm) → Acts mark → mark.marks ≤ 3

abbrev Chosen : (BrokenRhythm → Type 0) → (BrokenRhythm → Ratio → Type 0) → Ratio → Type 0
Chosen Acts Is factor = (((mark : BrokenRhythm) → ¬ Acts mark) × (factor ≡ once)) ⊎ ((mark : BrokenRhythm) × Acts mark × Is mark factor)

chosen_to : (o : Option BrokenRhythm) (Acts : BrokenRhythm → Type 0) (Is : BrokenRhythm → Ratio → Type 0) (by : BrokenRhythm → Ratio) (factor : Ratio)
    → Found o Acts → ((mark : BrokenRhythm) → mark.marks ≤ 3 → Makes (Is mark) (by mark))
    → Chosen Acts Is factor → factor ≡ unwrap_or (option_map by o) once
chosen_to None Acts Is by factor found is h = ⊎_elim (λ none. none.1) (λ some. let no = found.to some.0 some.1 in cc) h
chosen_to (Some mark) Acts Is by factor found is h = ⊎_elim
    (λ none. absurd (none.0 mark (found.from mark refl)))
    (λ some. let same : some.0 ≡ mark = (let e = found.to some.0 some.1 in cc) in (is some.0 (found.few some.0 some.1)).to factor some.2 ∙ ap by same)
    h

chosen_from : (o : Option BrokenRhythm) (Acts : BrokenRhythm → Type 0) (Is : BrokenRhythm → Ratio → Type 0) (by : BrokenRhythm → Ratio)
    → Found o Acts → ((mark : BrokenRhythm) → mark.marks ≤ 3 → Makes (Is mark) (by mark)) → Chosen Acts Is (unwrap_or (option_map by o) once)
chosen_from None Acts Is by found is = inl (λ mark acts. (let no = found.to mark acts in cc), refl)
chosen_from (Some mark) Acts Is by found is = let acts = found.from mark refl in inr (mark, acts, (is mark (found.few mark acts)).from)

chosen_range : (o : Option BrokenRhythm) (Acts : BrokenRhythm → Type 0) (Is : BrokenRhythm → Ratio → Type 0) (by : BrokenRhythm → Ratio)
    → Found o Acts → ((mark : BrokenRhythm) → mark.marks ≤ 3 → Makes (Is mark) (by mark)) → IfSome (option_map by o) IsRatio
chosen_range None Acts Is by found is = tt
chosen_range (Some mark) Acts Is by found is = (is mark (found.few mark (found.from mark refl))).range

-- at a place of a cell
found_before : (state : VoiceState) (cell : List (Spanned TokenKind)) (place : ℕ) → IsPlace state cell place
    → Found (mark_before (preceding_at cell place)) (λ mark. ActsBefore cell mark place)
found_before state cell place h = record {
  to = before_to cell place;
  from = λ mark. before_from cell place mark h.time;
  few = λ mark acts. h.marks mark acts.place acts.acting.mark_is;
}

found_after : (state : VoiceState) (cell : List (Spanned TokenKind)) (place : ℕ) → IsPlace state cell place
    → Found (mark_ahead (drop (place + 1) cell)) (λ mark. ActsAfter cell mark place)
found_after state cell place h = record {
  to = after_to cell place;
  from = λ mark. after_of cell place mark h.time;
  few = λ mark acts. h.marks mark acts.place acts.acting.mark_is;
}

-- what is written after a chord
outer_to : (outer : Option WrittenLength) (factor : Ratio) → IsOuterFactor outer factor → OuterIs (option_map written_ratio outer) factor
outer_to None factor h = h
outer_to (Some outer) factor h = says_ratio outer factor h

outer_from : (outer : Option WrittenLength) (factor : Ratio) → OuterIs (option_map written_ratio outer) factor → IsOuterFactor outer factor
outer_from None factor h = h
outer_from (Some outer) factor h = ratio_says outer factor h

outer_range : (outer : Option WrittenLength) → IfSome (option_map written_ratio outer) (λ r. IfSome r IsRatio)
outer_range None = tt
outer_range (Some outer) = written_range outer (written_ratio outer) refl

texts_are : (own : WrittenLength) (outer : Option WrittenLength) → texts_of own outer ≡ texts (written_ratio own) (option_map written_ratio outer)
texts_are own None = refl
texts_are own (Some outer) = refl

unit_range : (unit : Ratio) → IsUnitPart unit → IsRatio unit
unit_range unit h =
    let one = h.one in
    let power = h.power in
    let least : 1 ≤ unit.den = power_least 9 unit.den power in
    let most : unit.den ≤ 512 = power_most 9 unit.den power in
    record { num_least = omega arith; num_most = omega arith; den_least = least; den_most = omega arith }

-- an accepted length, and one that is not
accepted_by : (unit : Ratio) (found : Option Grains) (g : ℕ) → (or_unit unit found ≡ (record { 0 = g }, false)) ↔ (found ≡ Some (record { 0 = g }))
accepted_by unit None g = (λ e. let no : true ≡ false = ap (λ (p : Grains × Bool). p.1) e in cc, λ e. cc)
accepted_by unit (Some length) g =
    (λ e. let same : length ≡ record { 0 = g } = ap (λ (p : Grains × Bool). p.0) e in ap Some same, λ e. let same : length ≡ record { 0 = g } = cc in ap (λ l. (l, false)) same)

-- what is computed is what the rule says
pub length_lasts : (state : VoiceState) (cell : List (Spanned TokenKind)) (place : ℕ) (own : WrittenLength) (outer : Option WrittenLength) (g : ℕ)
    → IsPlace state cell place
    → (length_by state.unit (texts_of own outer) (tuplet_factors state.tuplet ++ factors_at cell place) ≡ Some (record { 0 = g }))
    ↔ Lasts state cell place own outer g
length_lasts state cell place own outer g h =
    let before = mark_before (preceding_at cell place) in
    let following = mark_ahead (drop (place + 1) cell) in
    let fb = found_before state cell place h in
    let fa = found_after state cell place h in
    let t = option_map tuplet_ratio state.tuplet in
    let b = option_map second_factor before in
    let a = option_map first_factor following in
    let ratios : AreRatios t b a = record {
      t_is = tuplet_range state.tuplet h.tuplet;
      b_is = chosen_range before (λ mark. ActsBefore cell mark place) Second second_factor fb second_makes;
      a_is = chosen_range following (λ mark. ActsAfter cell mark place) First first_factor fa first_makes;
    } in
    let both = made state.unit (unit_range state.unit h.unit) t b a ratios (written_ratio own) (option_map written_ratio outer) g (written_range own (written_ratio own) refl) (outer_range outer) in
    let computed : length_by state.unit (texts_of own outer) (tuplet_factors state.tuplet ++ factors_at cell place)
    ≡ length_by state.unit (texts (written_ratio own) (option_map written_ratio outer)) (rest t b a) =
    λ i. length_by state.unit (texts_are own outer i) (sym (tuplet_list state.tuplet) i ++ factors_at cell place) in (
      λ e.
          let m = both.0 (sym computed ∙ e) in
          record {
            own_factor = m.w;
            outer_factor = m.outer;
            tuplet_factor = unwrap_or t once;
            before_factor = unwrap_or b once;
            after_factor = unwrap_or a once;
            own_is = ratio_says own m.w m.w_is;
            outer_is = outer_from outer m.outer m.outer_is;
            tuplet_is = tuplet_from state.tuplet;
            before_is = chosen_from before (λ mark. ActsBefore cell mark place) Second second_factor fb second_makes;
            after_is = chosen_from following (λ mark. ActsAfter cell mark place) First first_factor fa first_makes;
            exact = m.exact;
            short = m.short;
          },
      λ l.
          let te = tuplet_to state.tuplet l.tuplet_factor l.tuplet_is in
          let be = chosen_to before (λ mark. ActsBefore cell mark place) Second second_factor l.before_factor fb second_makes l.before_is in
          let ae = chosen_to following (λ mark. ActsAfter cell mark place) First first_factor l.after_factor fa first_makes l.after_is in
          computed ∙ both.1 (record {
            w = l.own_factor;
            outer = l.outer_factor;
            w_is = says_ratio own l.own_factor l.own_is;
            outer_is = outer_to outer l.outer_factor l.outer_is;
            exact = subst (λ (f : Ratio × Ratio × Ratio). IsLength state.unit (five l.own_factor l.outer_factor f.0 f.1 f.2) g) (λ i. (te i, be i, ae i)) l.exact;
            short = l.short;
          }),
    )

-- the resulting length
pub given_by : (unit : Ratio) (found : Option Grains) (Lasting : ℕ → Type 0) → IsUnitPart unit → ((g : ℕ) → (found ≡ Some (record { 0 = g })) ↔ Lasting g)
    → IsGiven Lasting unit (or_unit unit found).0
given_by unit None Lasting h is = record {
  accepted = λ g l. (let no = (is g).1 l in cc);
  refused = λ none. unit_exact unit h;
}
given_by unit (Some length) Lasting h is = record {
  accepted = λ g l. (let same : length ≡ record { 0 = g } = (let e = (is g).1 l in cc) in ap (λ (x : Grains). x.0) same);
  refused = λ none. absurd (none length.0 ((is length.0).0 refl));
}

-- the only other fault of a note
no_length_fault : (silent : Bool) (column k : ℕ) → k < length (fault_if silent column KeyRange)
    → slice_index_or (fault_if silent column KeyRange) k (column, BadLength) ≡ (column, BadLength) → ⊥
no_length_fault false column k below e = omega (arith, below)
no_length_fault true column zero below e = let codes : KeyRange ≡ BadLength = ap (λ (f : ℕ × FaultCode). f.1) e in cc
no_length_fault true column (suc k) below e = omega (arith, below)

fault_by : (unit : Ratio) (found : Option Grains) (Lasting : ℕ → Type 0) (column : ℕ) (silent : Bool) → ((g : ℕ) → (found ≡ Some (record { 0 = g })) ↔ Lasting g)
    → HasLengthFault Lasting column (fault_if (or_unit unit found).1 column BadLength ++ fault_if silent column KeyRange)
fault_by unit None Lasting column silent is = (λ there g l. (let no = (is g).1 l in cc), λ none. (0, omega arith, refl))
fault_by unit (Some length) Lasting column silent is = (
  λ there. absurd (no_length_fault silent column there.0 there.1 there.2),
  λ none. absurd (none length.0 ((is length.0).0 refl)),
)

pub notes_last : NotesLast
notes_last state cell place from note tied h =
    let broken = factors_at cell place in
    let found = length_by state.unit (texts_of note.length None) (tuplet_factors state.tuplet ++ broken) in
    let Lasting : ℕ → Type 0 = Lasts state cell place note.length None in
    let is : (g : ℕ) → (found ≡ Some (record { 0 = g })) ↔ Lasting g = λ g. length_lasts state cell place note.length None g h in
    let tone = tone_in state state.accidentals broken None note tied in (
      items.Tone (tone ∷ []) tone.length,
      tone.length,
      refl,
      (refl, refl),
      given_by state.unit found Lasting h.unit is,
      fault_by state.unit found Lasting (column_of from) (is_none (key_in state state.accidentals note)) is,
    )

pub rests_last : RestsLast
rests_last state cell place from written h =
    let broken = factors_at cell place in
    let found = length_by state.unit (texts_of written None) (tuplet_factors state.tuplet ++ broken) in
    let Lasting : ℕ → Type 0 = Lasts state cell place written None in
    let is : (g : ℕ) → (found ≡ Some (record { 0 = g })) ↔ Lasting g = λ g. length_lasts state cell place written None g h in (
      (length_in state broken written None).0,
      refl,
      given_by state.unit found Lasting h.unit is,
      (
        λ there. (fault_by state.unit found Lasting (column_of from) false is).0 (subst (λ l. Contains l (column_of from, BadLength)) (sym (append-nil _)) there),
        λ none. subst (λ l. Contains l (column_of from, BadLength)) (append-nil _) ((fault_by state.unit found Lasting (column_of from) false is).1 none),
      ),
    )

-- `bars` bars are a whole number of grains.
meter_range : (num den : ℕ) → HasMeterRange num den → IsRatio (record { num = num; den = den })
meter_range num den h =
    let a = h.num_least in let b = h.num_most in let d = h.den_most in
    let c = power_least 6 den h.den_power in
    record { num_least = a; num_most = omega (arith, b); den_least = c; den_most = omega (arith, d) }

bars_by : (num den n g : ℕ) (x : Option Ratio) → HasMeterRange num den → ratio_of n 1 ≡ x
    → (bars_of num den n ≡ Some (record { 0 = g })) ↔ AreBars num den n g
bars_by num den n g None h e = no_bars num den n (bars_of num den n) h e (ap (option_and_then (λ f. result_ok (length_of (record { num = num; den = den }) (f ∷ [])))) e) g
bars_by num den n g (Some factor) h e =
    bars_exact num den n (record { num = num; den = den }) factor (length_of (record { num = num; den = den }) (factor ∷ [])) (bars_of num den n) refl e
    (ap (option_and_then (λ f. result_ok (length_of (record { num = num; den = den }) (f ∷ [])))) e)
    (length_of-Ok (record { num = num; den = den }) (factor ∷ []) (meter_range num den h) (All-cons IsRatio factor [] (ratio_says (Factor n 1) factor e).range (All-nil IsRatio))) g

no_bars_by : (num den n : ℕ) (found : Option Grains) → ((g : ℕ) → (found ≡ Some (record { 0 = g })) ↔ AreBars num den n g)
    → ((g : ℕ) → ¬ AreBars num den n g) → found ≡ None
no_bars_by num den n None is none = refl
no_bars_by num den n (Some length) is none = absurd (none length.0 ((is length.0).0 refl))

one_bar : (num den : ℕ) → HasMeterRange num den → AreBars num den 1 (bar_grains num den).0
one_bar num den h =
    let exact = bar_exact num den h in
    record { some = omega arith; exact = omega (arith, exact); short = bar_short num den h }

given_bars : ℕ → ℕ → Option Grains → Item × Option FaultCode
given_bars num den found = (items.Rest (or_one_bar num den found).0 true, (or_one_bar num den found).1)

pub bar_rests_last : BarRestsLast
unfolding given_bars
bar_rests_last num den h = record {
  bar = (bar_grains num den).0;
  bar_is = one_bar num den h;
  alone = refl;
  counted = λ n g bars. ap (given_bars num den) ((bars_by num den n g (ratio_of n 1) h refl).1 bars);
  refused = λ n none. ap (given_bars num den) (no_bars_by num den n (bars_of num den n) (λ g. bars_by num den n g (ratio_of n 1) h refl) none);
}

pub free_bar_rests : FreeBarRests
free_bar_rests bars = refl
