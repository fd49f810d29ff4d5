-- The passes of a strain by the rules, and as they are computed.
use Rattle.std.proofs.Common.{◌≡◌, ℕ, zero, suc, ◌+◌, ◌-◌, ◌<◌, ◌≤◌, max, leb, eqb, true, false, ◌&&◌, ◌⊎◌, inl, inr, ⊎_elim, List, [], ◌∷◌, ◌++◌, length, refl, sym, ap, ◌∙◌, subst, arith}
use Rattle.std.specs.Prelude.{All}
use Rattle.std.specs.List.{Contains}
use Rattle.std.specs.Int.{bit_at}
use Rattle.std.proofs.lemmas.Bool.{cases_Bool, cases_lt, and_parts, cond-true, cond-false, eqb-true}
use Rattle.std.proofs.lemmas.Bool.Decides.{nat_tests}
use Rattle.std.proofs.lemmas.List.Elements.{All-nil, All-cons, All-contains}
use Rattle.abc_repeat.specs.declared.mark.Mark.{Mark}
use Rattle.abc_repeat.specs.declared.mark.Mark.TheVariants as marks
use Rattle.abc_repeat.specs.Mark.{has_number, greatest_number_to, greatest_number, passes_of}
use Rattle.abc_repeat.specs.Strain.{Ending, Strain, text_of}
use Rattle.abc_repeat.specs.Play.{places_from, first_ending, most_passes, strain_play}
use Rattle.abc_repeat.specs.PlayLaws.{PlacedEnding, placed_ending, HasNumber, AsksFor, once, by_bar, by_ending, IsPassCount, turns_from, PlaysEnding}
use Rattle.abc_repeat.specs.PlayLaws.{none, first, later, PlaysPasses, not_yet, once_more, IsStrainPlay}
use Rattle.abc_repeat.proofs.Passes.{passes_to, passes_more, most_passes-some}

-- numbers of an ending
pub number_tested : (numbers i : ℕ) → HasNumber numbers i → has_number numbers i ≡ true
unfolding has_number
number_tested numbers i h =
    let few : leb i 32 ≡ true = let bound : i ≤ 32 = h.1 in grind (arith, nat_tests) in
    ap (λ b. b && eqb (bit_at numbers (i - 1)) 1) few ∙ ap (λ k. eqb k 1) h.2

pub number_by_test : (numbers i : ℕ) → 0 < i → has_number numbers i ≡ true → HasNumber numbers i
unfolding has_number
number_by_test numbers i some e =
    let parts = and_parts (leb i 32) (eqb (bit_at numbers (i - 1)) 1) e in
    let few : i ≤ 32 = let test : leb i 32 ≡ true = parts.0 in grind (arith, nat_tests) in
    (some, few, eqb-true (bit_at numbers (i - 1)) 1 parts.1)

unnamed : (numbers i : ℕ) → ¬ HasNumber numbers i → 0 < i → has_number numbers i ≡ false
unnamed numbers i h some = ⊎_elim (λ k. absurd (h (number_by_test numbers i some k))) (λ k. k) (cases_Bool (has_number numbers i))

unnumbered : (numbers i : ℕ) → has_number numbers i ≡ false → ¬ HasNumber numbers i
unnumbered numbers i e h = let yes = number_tested numbers i h in cc

-- the greatest of them
greatest_number_to-above : (numbers i n : ℕ) → i ≤ n → has_number numbers i ≡ true → i ≤ greatest_number_to numbers n
unfolding greatest_number_to
greatest_number_to-above numbers i zero le e = le
greatest_number_to-above numbers i (suc n) le e = ⊎_elim
    (λ named. let is : greatest_number_to numbers (suc n) ≡ suc n = cond-true (has_number numbers (suc n)) _ _ named in omega arith)
    (λ unnamed.
    let is : greatest_number_to numbers (suc n) ≡ greatest_number_to numbers n = cond-false (has_number numbers (suc n)) _ _ unnamed in
    ⊎_elim
    (λ less. let here = greatest_number_to-above numbers i n (omega arith) e in omega arith)
    (λ more. let same : i ≡ suc n = omega arith in let yes : has_number numbers (suc n) ≡ true = ap (has_number numbers) (sym same) ∙ e in cc)
    (cases_lt i (suc n)))
    (cases_Bool (has_number numbers (suc n)))

greatest_number_to-named : (numbers n : ℕ) → (greatest_number_to numbers n ≡ 0) ⊎ (has_number numbers (greatest_number_to numbers n) ≡ true)
unfolding greatest_number_to
greatest_number_to-named numbers zero = inl refl
greatest_number_to-named numbers (suc n) = ⊎_elim
    (λ named. inr (ap (has_number numbers) (cond-true (has_number numbers (suc n)) (suc n) (greatest_number_to numbers n) named) ∙ named))
    (λ unnamed.
    let is : greatest_number_to numbers (suc n) ≡ greatest_number_to numbers n = cond-false (has_number numbers (suc n)) _ _ unnamed in
    ⊎_elim (λ none. inl (is ∙ none)) (λ named. inr (ap (has_number numbers) is ∙ named)) (greatest_number_to-named numbers n))
    (cases_Bool (has_number numbers (suc n)))

greatest-above : (numbers i : ℕ) → HasNumber numbers i → i ≤ greatest_number numbers
unfolding greatest_number
greatest-above numbers i h = greatest_number_to-above numbers i 32 h.1 (number_tested numbers i h)

greatest-had : (numbers : ℕ) → 0 < greatest_number numbers → HasNumber numbers (greatest_number numbers)
unfolding greatest_number
greatest-had numbers some = ⊎_elim
    (λ none. absurd (omega arith))
    (λ named. number_by_test numbers (greatest_number numbers) some named)
    (greatest_number_to-named numbers 32)

-- no mark asks for more passes than there are
all_below : (ms : List Mark) (n : ℕ) → most_passes ms ≤ n → All (λ m. passes_of m ≤ n) ms
all_below [] n h = All-nil (λ m. passes_of m ≤ n)
all_below (m ∷ ms) n h = All-cons (λ x. passes_of x ≤ n) m ms (omega arith) (all_below ms n (omega arith))

asked_below : (ms : List Mark) (i : ℕ) → AsksFor ms i → i ≤ most_passes ms
asked_below ms _ once = most_passes-some ms
asked_below ms _ (by_bar closes opens double has) =
    All-contains (λ m. passes_of m ≤ most_passes ms) ms (marks.Bar closes opens double) (all_below ms (most_passes ms) (omega arith)) has
asked_below ms _ (by_ending numbers i has number) =
    let top : greatest_number numbers ≤ most_passes ms = All-contains (λ m. passes_of m ≤ most_passes ms) ms (marks.Ending numbers) (all_below ms (most_passes ms) (omega arith)) has in
    let here = greatest-above numbers i number in
    omega arith

-- the number of passes that the marks ask for
has_head : (m : Mark) (ms : List Mark) → Contains (m ∷ ms) m
has_head m ms = (0, omega arith, refl)

has_tail : (m x : Mark) (ms : List Mark) → Contains ms x → Contains (m ∷ ms) x
has_tail m x ms h = let inside = h.1 in (suc h.0, omega arith, h.2)

asked_after : (m : Mark) (ms : List Mark) (i : ℕ) → AsksFor ms i → AsksFor (m ∷ ms) i
asked_after m ms _ once = once
asked_after m ms _ (by_bar closes opens double has) = by_bar closes opens double (has_tail m (marks.Bar closes opens double) ms has)
asked_after m ms _ (by_ending numbers i has number) = by_ending numbers i (has_tail m (marks.Ending numbers) ms has) number

asked_here : (m : Mark) (ms : List Mark) → 1 < passes_of m → AsksFor (m ∷ ms) (passes_of m)
asked_here marks.Play ms h = once
asked_here (marks.Bar closes opens double) ms h = by_bar closes opens double (has_head (marks.Bar closes opens double) ms)
asked_here (marks.Ending numbers) ms h = by_ending numbers (greatest_number numbers) (has_head (marks.Ending numbers) ms) (greatest-had numbers (omega arith))

most_asked : (ms : List Mark) → AsksFor ms (most_passes ms)
most_asked [] = once
most_asked (m ∷ ms) = ⊎_elim
    (λ less.
    let e : passes_of m ≡ max (passes_of m) (most_passes ms) = omega arith in
    let some = most_passes-some ms in
    subst (AsksFor (m ∷ ms)) e (asked_here m ms (omega arith)))
    (λ more. let e : most_passes ms ≡ max (passes_of m) (most_passes ms) = omega arith in subst (AsksFor (m ∷ ms)) e (asked_after m ms (most_passes ms) (most_asked ms)))
    (cases_lt (most_passes ms) (passes_of m))

pub most_is_count : (ms : List Mark) → IsPassCount ms (most_passes ms)
most_is_count ms = (most_asked ms, asked_below ms)

pub count_is_most : (ms : List Mark) (n : ℕ) → IsPassCount ms n → n ≡ most_passes ms
count_is_most ms n h = let low = asked_below ms n h.0 in let high = h.1 (most_passes ms) (most_asked ms) in omega arith

-- the played items
pub turns_from-places : (at : ℕ) (ms : List Mark) → turns_from at ms ≡ places_from at ms
turns_from-places at [] = refl
turns_from-places at (marks.Play ∷ ms) = ap (λ l. at ∷ l) (turns_from-places (at + 1) ms)
turns_from-places at (marks.Bar closes opens double ∷ ms) = turns_from-places (at + 1) ms
turns_from-places at (marks.Ending numbers ∷ ms) = turns_from-places (at + 1) ms

-- endings with their places
abbrev pub all_placed : ℕ → List Ending → List PlacedEnding
all_placed at [] = []
all_placed at (ending ∷ endings) = placed_ending at ending.numbers ending.run ∷ all_placed (at + 1 + length ending.run) endings

ending_played : (pass at : ℕ) (endings : List Ending) → 0 < pass → PlaysEnding pass (all_placed at endings) (first_ending pass at endings)
ending_played pass at [] some = none
ending_played pass at (ending ∷ endings) some = ⊎_elim
    (λ named. subst (PlaysEnding pass (all_placed at (ending ∷ endings)))
    (turns_from-places (at + 1) ending.run ∙ sym (cond-true (has_number ending.numbers pass) _ _ named))
    (first (placed_ending at ending.numbers ending.run) (all_placed (at + 1 + length ending.run) endings) (number_by_test ending.numbers pass some named)))
    (λ unnamed. subst (PlaysEnding pass (all_placed at (ending ∷ endings)))
    (sym (cond-false (has_number ending.numbers pass) _ _ unnamed))
    (later (placed_ending at ending.numbers ending.run) (all_placed (at + 1 + length ending.run) endings) _
    (unnumbered ending.numbers pass unnamed) (ending_played pass (at + 1 + length ending.run) endings some)))
    (cases_Bool (has_number ending.numbers pass))

-- the play of a pass is that of the first ending that is for it
ending_one : (pass at : ℕ) (endings : List Ending) (others : List PlacedEnding) (play : List ℕ) → 0 < pass
    → others ≡ all_placed at endings → PlaysEnding pass others play → play ≡ first_ending pass at endings
ending_one pass at [] _ _ some is none = refl
ending_one pass at [] _ _ some is (first ending endings has) = cc
ending_one pass at [] _ _ some is (later ending endings play not following) = cc
ending_one pass at (own ∷ rest) _ _ some is none = cc
ending_one pass at (own ∷ rest) _ _ some is (first ending endings has) =
    let same : ending ≡ placed_ending at own.numbers own.run = cc in
    ap (λ (e : PlacedEnding). turns_from e.from e.run) same
    ∙ turns_from-places (at + 1) own.run
    ∙ sym (cond-true (has_number own.numbers pass) _ _ (number_tested own.numbers pass (subst (λ (e : PlacedEnding). HasNumber e.numbers pass) same has)))
ending_one pass at (own ∷ rest) _ _ some is (later ending endings play not following) =
    let same : ending ≡ placed_ending at own.numbers own.run = cc in
    let more : endings ≡ all_placed (at + 1 + length own.run) rest = cc in
    ending_one pass (at + 1 + length own.run) rest endings play some more following
    ∙ sym (cond-false (has_number own.numbers pass) _ _ (unnamed own.numbers pass (subst (λ (e : PlacedEnding). ¬ HasNumber e.numbers pass) same not) some))

-- passes
passes_played : (at : ℕ) (strain : Strain) (n : ℕ) → PlaysPasses (turns_from at strain.common) (all_placed (at + length strain.common) strain.endings) n (passes_to at strain n)
passes_played at strain zero = not_yet
passes_played at strain (suc n) =
    let next : n + 1 ≡ suc n = omega arith in
    let ending = first_ending (suc n) (at + length strain.common) strain.endings in
    let Played : ℕ → List ℕ → Type 0 = PlaysPasses (turns_from at strain.common) (all_placed (at + length strain.common) strain.endings) in
    subst (Played (suc n))
    (ap (λ l. passes_to at strain n ++ (l ++ ending)) (turns_from-places at strain.common) ∙ sym (passes_more at strain n))
    (subst (λ k. Played k (passes_to at strain n ++ (turns_from at strain.common ++ ending))) next
    (once_more n (passes_to at strain n) ending (passes_played at strain n)
    (subst (λ k. PlaysEnding k (all_placed (at + length strain.common) strain.endings) ending) (sym next)
    (ending_played (suc n) (at + length strain.common) strain.endings (omega arith)))))

passes_one : (at : ℕ) (strain : Strain) (n : ℕ) (play : List ℕ)
    → PlaysPasses (turns_from at strain.common) (all_placed (at + length strain.common) strain.endings) n play → play ≡ passes_to at strain n
passes_one at strain _ _ not_yet = refl
passes_one at strain _ _ (once_more n before ending earlier now) =
    let next : n + 1 ≡ suc n = omega arith in
    let first : before ≡ passes_to at strain n = passes_one at strain n before earlier in
    let second : ending ≡ first_ending (n + 1) (at + length strain.common) strain.endings =
    ending_one (n + 1) (at + length strain.common) strain.endings (all_placed (at + length strain.common) strain.endings) ending (omega arith) refl now in
    (λ i. first i ++ (turns_from-places at strain.common i ++ second i))
    ∙ ap (λ k. passes_to at strain n ++ (places_from at strain.common ++ first_ending k (at + length strain.common) strain.endings)) next
    ∙ sym (passes_more at strain n)
    ∙ ap (passes_to at strain) (sym next)

-- the play of a strain
pub strain_played : (at : ℕ) (text : List Mark) (strain : Strain) → text ≡ text_of strain
    → IsStrainPlay at text strain.common (all_placed (at + length strain.common) strain.endings) (strain_play at strain)
unfolding strain_play
strain_played at text strain is = record {
  passes = most_passes (text_of strain);
  count = subst (λ l. IsPassCount l (most_passes (text_of strain))) (sym is) (most_is_count (text_of strain));
  played = passes_played at strain (most_passes (text_of strain));
}

pub strain_one : (at : ℕ) (text : List Mark) (strain : Strain) (play : List ℕ) → text ≡ text_of strain
    → IsStrainPlay at text strain.common (all_placed (at + length strain.common) strain.endings) play → play ≡ strain_play at strain
unfolding strain_play
strain_one at text strain play is h =
    passes_one at strain h.passes play h.played ∙ ap (passes_to at strain) (count_is_most text h.passes h.count ∙ ap most_passes is)
