-- The passes of a strain, one after another.
use Rattle.std.proofs.Common.{◌≡◌, ℕ, zero, suc, ◌+◌, ◌*◌, ◌<◌, ◌≤◌, Bool, true, false, cond, leb, ◌&&◌, List, [], ◌∷◌, ◌++◌, length, count_by, refl}
use Rattle.std.proofs.Common.{sym, ap, ◌∙◌, ⊎_elim, arith, add-zero, append-nil, length-append}
use Rattle.std.specs.List.{flat_map, range_with_len}
use Rattle.std.proofs.lemmas.Bool.{cases_lt}
use Rattle.std.proofs.lemmas.Bool.Decides.{nat_tests}
use Rattle.std.proofs.lemmas.List.Concat.{flat_map-append}
use Rattle.abc_repeat.specs.declared.mark.Mark.{Mark}
use Rattle.abc_repeat.specs.Mark.{is_play, has_number}
use Rattle.abc_repeat.specs.Strain.{Ending, Strain, text_of}
use Rattle.abc_repeat.specs.Play.{places_from, first_ending, ending_of, pass_of, most_passes, endings_size, strain_play}
use Rattle.abc_repeat.proofs.Places.{length-places}

range_more : (a n : ℕ) → range_with_len a (suc n) ≡ range_with_len a n ++ (a + n) ∷ []
range_more a zero = ap (λ k. k ∷ []) (sym (add-zero a))
range_more a (suc n) =
    let e : a + 1 + n ≡ a + suc n = omega arith in
    ap (λ l. a ∷ l) (range_more (a + 1) n ∙ ap (λ k. range_with_len (a + 1) n ++ k ∷ []) e)

-- the passes up to one, in order
abbrev pub passes_to : ℕ → Strain → ℕ → List ℕ
passes_to at strain n = flat_map (pass_of at strain) (range_with_len 1 n)

-- one pass more
pub passes_more : (at : ℕ) (strain : Strain) (n : ℕ) → passes_to at strain (suc n) ≡ passes_to at strain n ++ pass_of at strain (suc n)
passes_more at strain n =
    let e : 1 + n ≡ suc n = omega arith in
    ap (flat_map (pass_of at strain)) (range_more 1 n) ∙ flat_map-append (pass_of at strain) (range_with_len 1 n) ((1 + n) ∷ [])
    ∙ ap (λ l. passes_to at strain n ++ l) (append-nil (pass_of at strain (1 + n)) ∙ ap (pass_of at strain) e)

and_false : (a b : Bool) → a ≡ false → (a && b) ≡ false
and_false true b e = cc
and_false false b e = refl

late : (numbers pass : ℕ) → 32 < pass → has_number numbers pass ≡ false
unfolding has_number
late numbers pass h = let no : leb pass 32 ≡ false = grind (arith, nat_tests) in and_false (leb pass 32) _ no

-- no ending is for a pass beyond the 32nd
pub late_ending : (pass at : ℕ) (endings : List Ending) → 32 < pass → first_ending pass at endings ≡ []
late_ending pass at [] h = refl
late_ending pass at (ending ∷ endings) h =
    ap (λ b. cond b (places_from (at + 1) ending.run) (first_ending pass (at + 1 + length ending.run) endings)) (late ending.numbers pass h)
    ∙ late_ending pass (at + 1 + length ending.run) endings h

-- the size of the play of an ending does not depend on its place
pub length-first_ending : (pass at other : ℕ) (endings : List Ending) → length (first_ending pass at endings) ≡ length (first_ending pass other endings)
length-first_ending pass at other [] = refl
length-first_ending pass at other (ending ∷ endings) =
    elim (has_number ending.numbers pass) as (λ b. length (cond b (places_from (at + 1) ending.run)
    (first_ending pass (at + 1 + length ending.run) endings)) ≡ length (cond b (places_from (other + 1) ending.run) (first_ending pass (other + 1 + length ending.run) endings))) [
      | true ↦ length-places (at + 1) ending.run ∙ sym (length-places (other + 1) ending.run)
      | false ↦ length-first_ending pass (at + 1 + length ending.run) (other + 1 + length ending.run) endings
    ]

length-passes : (at : ℕ) (strain : Strain) (n : ℕ) → length (passes_to at strain n) ≡ n * count_by is_play strain.common + endings_size strain n
unfolding endings_size
length-passes at strain zero = omega arith
length-passes at strain (suc n) =
    let more : length (passes_to at strain (suc n)) ≡ length (passes_to at strain n) + (length (places_from at strain.common) + length (ending_of at strain (suc n))) =
    ap length (passes_more at strain n) ∙ length-append (passes_to at strain n) (pass_of at strain (suc n))
    ∙ ap (λ k. length (passes_to at strain n) + k) (length-append (places_from at strain.common) (ending_of at strain (suc n))) in
    let common = length-places at strain.common in
    let ending = length-first_ending (suc n) (at + length strain.common) (length strain.common) strain.endings in
    let before = length-passes at strain n in
    omega arith

-- the number of places of the play of a strain, at any place
pub length-strain_play : (at : ℕ) (strain : Strain) → length (strain_play at strain)
    ≡ most_passes (text_of strain) * count_by is_play strain.common + endings_size strain (most_passes (text_of strain))
unfolding strain_play
length-strain_play at strain = length-passes at strain (most_passes (text_of strain))

-- passes beyond the 32nd play no ending
pub endings_size-late : (strain : Strain) (n top : ℕ) → 32 ≤ top → top ≤ n → endings_size strain n ≡ endings_size strain top
unfolding endings_size
endings_size-late strain zero top h k = let e : 0 ≡ top = omega arith in ap (endings_size strain) e
endings_size-late strain (suc n) top h k = ⊎_elim
    (λ less. let e : suc n ≡ top = omega arith in ap (endings_size strain) e)
    (λ more.
    let none = ap length (late_ending (suc n) (length strain.common) strain.endings (omega arith)) in
    let before = endings_size-late strain n top h more in
    omega arith)
    (cases_lt n top)

-- passes beyond the 32nd play nothing if the common part plays nothing
pub passes_to-late : (at : ℕ) (strain : Strain) (n top : ℕ) → places_from at strain.common ≡ [] → 32 ≤ top → top ≤ n → passes_to at strain n ≡ passes_to at strain top
passes_to-late at strain zero top none h k = let e : 0 ≡ top = omega arith in ap (passes_to at strain) e
passes_to-late at strain (suc n) top none h k = ⊎_elim
    (λ less. let e : suc n ≡ top = omega arith in ap (passes_to at strain) e)
    (λ more.
    passes_more at strain n
    ∙ ap (λ l. passes_to at strain n ++ (l ++ ending_of at strain (suc n))) none
    ∙ ap (λ l. passes_to at strain n ++ l) (late_ending (suc n) (at + length strain.common) strain.endings (omega arith))
    ∙ append-nil (passes_to at strain n)
    ∙ passes_to-late at strain n top none h more)
    (cases_lt n top)

-- marks have at least one pass
pub most_passes-some : (ms : List Mark) → 1 ≤ most_passes ms
most_passes-some [] = omega arith
most_passes-some (m ∷ ms) = let h = most_passes-some ms in omega arith
