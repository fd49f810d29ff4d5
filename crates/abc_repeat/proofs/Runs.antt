-- The place of the run of an ending in a strain.
use Rattle.std.proofs.Common.{◌≡◌, ℕ, suc, ◌+◌, true, false, cond, List, [], ◌∷◌, length, drop, refl, ap, ◌∙◌, arith}
use Rattle.abc_repeat.specs.declared.mark.Mark.{Mark}
use Rattle.abc_repeat.specs.declared.mark.Mark.TheVariants as marks
use Rattle.abc_repeat.specs.Mark.{has_number}
use Rattle.abc_repeat.specs.Strain.{strain_of}
use Rattle.abc_repeat.specs.Play.{places_from, first_ending, run_start}

-- the places of the run that begins after `n` marks
abbrev run_at : ℕ → ℕ → List Mark → List ℕ
run_at at start ms = places_from (at + start) (strain_of (drop start ms)).common

run_more : (at start : ℕ) (m : Mark) (ms : List Mark) → run_at (at + 1) start ms ≡ run_at at (1 + start) (m ∷ ms)
run_more at start m ms =
    let place : at + 1 + start ≡ at + (1 + start) = omega arith in
    let one : suc start ≡ 1 + start = omega arith in
    ap (λ k. places_from k (strain_of (drop start ms)).common) place
    ∙ ap (λ k. places_from (at + (1 + start)) (strain_of (drop k (m ∷ ms))).common) one

-- the first ending for a pass is the run that begins there
pub first_ending_at : (pass at : ℕ) (ms : List Mark) → first_ending pass (at + length (strain_of ms).common) (strain_of ms).endings ≡ run_at at (run_start pass ms) ms
first_ending_at pass at [] = refl
first_ending_at pass at (marks.Play ∷ ms) =
    let place : at + suc (length (strain_of ms).common) ≡ at + 1 + length (strain_of ms).common = omega arith in
    ap (λ k. first_ending pass k (strain_of ms).endings) place ∙ first_ending_at pass (at + 1) ms ∙ run_more at (run_start pass ms) marks.Play ms
first_ending_at pass at (marks.Bar closes opens double ∷ ms) =
    let place : at + suc (length (strain_of ms).common) ≡ at + 1 + length (strain_of ms).common = omega arith in
    ap (λ k. first_ending pass k (strain_of ms).endings) place ∙ first_ending_at pass (at + 1) ms
    ∙ run_more at (run_start pass ms) (marks.Bar closes opens double) ms
first_ending_at pass at (marks.Ending numbers ∷ ms) =
    let strain = strain_of ms in
    let here : at + 0 + 1 ≡ at + 1 = omega arith in
    let there : at + 0 + 1 + length strain.common ≡ at + 1 + length strain.common = omega arith in
    elim (has_number numbers pass) as (λ b. cond b (places_from (at + 0 + 1) strain.common)
    (first_ending pass (at + 0 + 1 + length strain.common) strain.endings) ≡ run_at at (cond b 1 (1 + run_start pass ms)) (marks.Ending numbers ∷ ms)) [
      | true ↦ ap (λ k. places_from k strain.common) here
      | false ↦
          ap (λ k. first_ending pass k strain.endings) there ∙ first_ending_at pass (at + 1) ms ∙ run_more at (run_start pass ms) (marks.Ending numbers) ms
    ]
