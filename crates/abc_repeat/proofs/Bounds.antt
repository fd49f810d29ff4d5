-- A play has at most the number of marks times the greatest number of passes that a mark asks for.
use Rattle.std.proofs.Common.{◌≡◌, ℕ, zero, suc, ◌+◌, ◌*◌, ◌<◌, ◌≤◌, min, max, Bool, true, false, cond, ◌||◌, List, [], ◌∷◌, ◌++◌, length, map, refl, ap, subst, ◌∙◌, arith, length-append}
use Rattle.std.proofs.lemmas.Nat.{mul-le}
use Rattle.abc_repeat.specs.declared.mark.Mark.{Mark}
use Rattle.abc_repeat.specs.declared.mark.Mark.TheVariants as marks
use Rattle.abc_repeat.specs.Mark.{is_ending, has_number, opens_next}
use Rattle.abc_repeat.specs.Strain.{Ending, Strain, ends_strain, endings_text, put_first, strain_of, text_of, texts_of}
use Rattle.abc_repeat.specs.Play.{ending_of, first_ending, most_passes, pass_of, places_from, play_of, plays_from, strain_play}
use Rattle.abc_repeat.proofs.Cuts.{text_back}
use Rattle.abc_repeat.proofs.Numbers.{min-product}
use Rattle.abc_repeat.proofs.Passes.{most_passes-some, passes_more, passes_to}

places_within : (at : ℕ) (ms : List Mark) → length (places_from at ms) ≤ length ms
places_within at [] = omega arith
places_within at (marks.Play ∷ ms) = let rest = places_within (at + 1) ms in omega arith
places_within at (marks.Bar closes opens double ∷ ms) = let rest = places_within (at + 1) ms in omega arith
places_within at (marks.Ending numbers ∷ ms) = let rest = places_within (at + 1) ms in omega arith

first_within : (pass at : ℕ) (endings : List Ending) → length (first_ending pass at endings) ≤ length (endings_text endings)
first_within pass at [] = omega arith
first_within pass at (ending ∷ endings) =
    let own = places_within (at + 1) ending.run in
    let rest = first_within pass (at + 1 + length ending.run) endings in
    let long = length-append ending.run (endings_text endings) in
    elim (has_number ending.numbers pass) as (λ b. length (cond b (places_from (at + 1) ending.run)
    (first_ending pass (at + 1 + length ending.run) endings)) ≤ suc (length (ending.run ++ endings_text endings))) [
      | true ↦ omega arith
      | false ↦ omega arith
    ]

pass_within : (at : ℕ) (strain : Strain) (pass : ℕ) → length (pass_of at strain pass) ≤ length (text_of strain)
pass_within at strain pass =
    let common = places_within at strain.common in
    let ending = first_within pass (at + length strain.common) strain.endings in
    let played = length-append (places_from at strain.common) (ending_of at strain pass) in
    let long = length-append strain.common (endings_text strain.endings) in
    omega arith

passes_within : (at : ℕ) (strain : Strain) (n : ℕ) → length (passes_to at strain n) ≤ n * length (text_of strain)
passes_within at strain zero = omega arith
passes_within at strain (suc n) =
    let more : length (passes_to at strain (suc n)) ≡ length (passes_to at strain n) + length (pass_of at strain (suc n)) =
    ap length (passes_more at strain n) ∙ length-append (passes_to at strain n) (pass_of at strain (suc n)) in
    let one = pass_within at strain (suc n) in
    let before = passes_within at strain n in
    omega arith

strain_within : (at : ℕ) (text : List Mark) → length (strain_play at (strain_of text)) ≤ most_passes text * length text
unfolding strain_play
strain_within at text =
    let strain = strain_of text in
    subst (λ (l : List Mark). length (passes_to at strain (most_passes (text_of strain))) ≤ most_passes l * length l) (text_back text)
    (passes_within at strain (most_passes (text_of strain)))

most_append : (a b : List Mark) → most_passes (a ++ b) ≡ max (most_passes a) (most_passes b)
most_append [] b = let some = most_passes-some b in omega arith
most_append (m ∷ a) b = let rest = most_append a b in omega arith

-- the marks of texts, one after another
abbrev marks_in : List (List Mark) → List Mark
marks_in [] = []
marks_in (text ∷ texts) = text ++ marks_in texts

put_back : (m : Mark) (texts : List (List Mark)) → marks_in (put_first m texts) ≡ m ∷ marks_in texts
put_back m [] = refl
put_back m (text ∷ texts) = refl

texts_back : (opened inside : Bool) (ms : List Mark) → marks_in (texts_of opened inside ms) ≡ ms
texts_back opened inside [] = refl
texts_back opened inside (m ∷ rest) =
    elim (ends_strain opened inside m rest) as (λ b. marks_in (cond b ((m ∷ []) ∷ texts_of (opens_next m) false rest) (put_first m (texts_of opened (inside || is_ending m) rest))) ≡ m ∷ rest) [
      | true ↦ ap (λ l. m ∷ l) (texts_back (opens_next m) false rest)
      | false ↦ put_back m (texts_of opened (inside || is_ending m) rest) ∙ ap (λ l. m ∷ l) (texts_back opened (inside || is_ending m) rest)
    ]

texts_within : (most at : ℕ) (texts : List (List Mark)) → most_passes (marks_in texts) ≤ most
    → length (plays_from at (map strain_of texts)) ≤ most * length (marks_in texts)
texts_within most at [] h = omega arith
texts_within most at (text ∷ texts) h =
    let next = at + length (text_of (strain_of text)) in
    let passes = most_append text (marks_in texts) in
    let own = strain_within at text in
    let here : most_passes text * length text ≤ most * length text = mul-le (most_passes text) (length text) most (length text) (omega arith) (omega arith) in
    let rest = texts_within most next texts (omega arith) in
    let played = length-append (strain_play at (strain_of text)) (plays_from next (map strain_of texts)) in
    let long : most * length (text ++ marks_in texts) ≡ most * (length text + length (marks_in texts)) = ap (λ n. most * n) (length-append text (marks_in texts)) in
    omega arith

play_within : (ms : List Mark) → length (play_of ms) ≤ most_passes ms * length ms
unfolding play_of
play_within ms =
    let texts = texts_of false false ms in
    subst (λ (l : List Mark). length (plays_from 0 (map strain_of texts)) ≤ most_passes l * length l) (texts_back false false ms)
    (texts_within (most_passes (marks_in texts)) 0 texts (omega arith))

-- a bound below the greatest value
pub within_bound : (ms : List Mark) (p bound top : ℕ) → p ≡ min (most_passes ms) top → bound ≡ min (p * length ms) top → bound < top
    → length (play_of ms) ≤ bound
within_bound ms p bound top passes is small =
    let times : bound ≡ min (most_passes ms * length ms) top = is ∙ ap (λ q. min (q * length ms) top) passes ∙ min-product (most_passes ms) (length ms) top in
    let most = play_within ms in
    omega arith
