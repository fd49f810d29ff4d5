-- The passes of a strain are appended one after another.
use Rattle.std.proofs.Common.{◌≡◌, ℕ, suc, ◌+◌, ◌-◌, ◌*◌, ◌<◌, ◌≤◌, min, List, [], ◌∷◌, ◌++◌, length, count_by, take, drop, sym, ap, ◌∙◌, ⊎_elim, arith, append_assoc, append-nil}
use Rattle.std.proofs.lemmas.Bool.{cases_lt}
use Rattle.std.proofs.lemmas.Bool.Decides.{nat_tests}
use Rattle.std.proofs.lemmas.Nat.{mul-le}
use Rattle.abc_repeat.specs.declared.mark.Mark.{Mark}
use Rattle.abc_repeat.specs.Mark.{is_play}
use Rattle.abc_repeat.specs.Strain.{Strain, strain_of}
use Rattle.abc_repeat.specs.Play.{places_from, ending_of, run_start, most_passes, endings_size, strain_play, rounds_of}
use Rattle.abc_repeat.proofs.Cuts.{text_back}
use Rattle.abc_repeat.proofs.Passes.{passes_to, passes_more, passes_to-late, late_ending}
use Rattle.abc_repeat.proofs.Places.{length-places}
use Rattle.abc_repeat.proofs.Rests.{rest_of}
use Rattle.abc_repeat.proofs.Runs.{first_ending_at}
use Rattle.abc_repeat.proofs.Sizes.{length-play}

-- a pass beyond the 32nd appends no ending
pub none_put : (items : List ℕ) (at pass : ℕ) (strain : Strain) → 32 < pass → items ≡ items ++ ending_of at strain pass
none_put items at pass strain h = sym (ap (λ l. items ++ l) (late_ending pass (at + length strain.common) strain.endings h) ∙ append-nil items)

-- the run of an ending
pub ending_run : (text run : List Mark) (at pass start : ℕ) → start ≡ run_start pass text → run ≡ (strain_of (take (length text - start) (drop start text))).common
    → places_from (at + start) run ≡ ending_of at (strain_of text) pass
ending_run text run at pass start begins is =
    ap (places_from (at + start)) (is ∙ ap (λ l. (strain_of l).common) (rest_of start text))
    ∙ ap (λ k. places_from (at + k) (strain_of (drop k text)).common) begins
    ∙ sym (first_ending_at pass at text)

-- one pass more
pub put_more : (old items common extended put : List ℕ) (at e : ℕ) (strain : Strain) → items ≡ old ++ passes_to at strain e → common ≡ places_from at strain.common
    → extended ≡ items ++ common → put ≡ extended ++ ending_of at strain (e + 1) → put ≡ old ++ passes_to at strain (e + 1)
put_more old items common extended put at e strain before is first second =
    let one : e + 1 ≡ suc e = omega arith in
    second
    ∙ ap (λ l. l ++ ending_of at strain (e + 1)) (first ∙ ap (λ l. l ++ common) before ∙ ap (λ l. (old ++ passes_to at strain e) ++ l) is)
    ∙ append_assoc (old ++ passes_to at strain e) (places_from at strain.common) (ending_of at strain (e + 1))
    ∙ append_assoc old (passes_to at strain e) (places_from at strain.common ++ ending_of at strain (e + 1))
    ∙ ap (λ k. old ++ (passes_to at strain e ++ (places_from at strain.common ++ ending_of at strain k))) one
    ∙ ap (λ l. old ++ l) (sym (passes_more at strain e) ∙ ap (passes_to at strain) (sym one))

play_is : (at : ℕ) (text : List Mark) → strain_play at (strain_of text) ≡ passes_to at (strain_of text) (most_passes text)
unfolding strain_play
play_is at text = ap (λ l. passes_to at (strain_of text) (most_passes l)) (text_back text)

-- a common part that plays nothing
silent_rounds : (at e p many top : ℕ) (strain : Strain) → places_from at strain.common ≡ [] → 32 ≤ top → p ≡ min many top → e ≡ min p 32 → passes_to at strain e ≡ passes_to at strain many
silent_rounds at e p many top strain none wide is rounds = ⊎_elim
    (λ less. let same : e ≡ many = omega arith in ap (passes_to at strain) same)
    (λ more. let same : e ≡ 32 = omega arith in ap (passes_to at strain) same ∙ sym (passes_to-late at strain many 32 none (omega arith) more))
    (cases_lt many 32)

-- a strain that plays something has no more passes than places
loud_passes : (many c endings total top : ℕ) → 0 < c → total ≡ many * c + endings → total ≤ top → many ≤ top
loud_passes many c endings total top some is small = let h : many * 1 ≤ many * c = mul-le many 1 many c (omega arith) (omega arith) in omega arith

some_rounds : (n p : ℕ) → rounds_of (suc n) p ≡ p
some_rounds n p = grind (arith, nat_tests)

-- after all passes the strain is appended
pub rounds_end : (at e p rounds top : ℕ) (text : List Mark) (common : List ℕ) → 32 ≤ top → p ≡ min (most_passes text) top → common ≡ places_from at (strain_of text).common
    → rounds ≡ rounds_of (length common) p → e ≡ rounds → length (strain_play at (strain_of text)) ≤ top → passes_to at (strain_of text) e ≡ strain_play at (strain_of text)
rounds_end at e p rounds top text [] wide passes is turns done short =
    silent_rounds at e p (most_passes text) top (strain_of text) (sym is) wide passes (done ∙ turns) ∙ sym (play_is at text)
rounds_end at e p rounds top text (x ∷ xs) wide passes is turns done short =
    let count : length (x ∷ xs) ≡ count_by is_play (strain_of text).common = ap length is ∙ length-places at (strain_of text).common in
    let many : most_passes text ≤ top = loud_passes (most_passes text) (count_by is_play (strain_of text).common)
    (endings_size (strain_of text) (most_passes text)) (length (strain_play at (strain_of text))) top (omega arith) (length-play at text) short in
    let turned : rounds ≡ p = turns ∙ some_rounds (length xs) p in
    let same : e ≡ most_passes text = omega arith in
    ap (passes_to at (strain_of text)) same ∙ sym (play_is at text)
