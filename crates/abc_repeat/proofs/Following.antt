-- A strain after its common part.
use Rattle.std.proofs.Common.{◌≡◌, ℕ, zero, suc, ◌+◌, ◌-◌, List, [], ◌∷◌, length, take, drop, refl, ap, ◌∙◌, arith}
use Rattle.abc_repeat.specs.declared.mark.Mark.{Mark}
use Rattle.abc_repeat.specs.declared.mark.Mark.TheVariants as marks
use Rattle.abc_repeat.specs.Strain.{Strain, strain_of}
use Rattle.abc_repeat.specs.Play.{first_ending, ending_of, endings_size}
use Rattle.abc_repeat.proofs.Passes.{length-first_ending}
use Rattle.abc_repeat.proofs.Rests.{rest_of}

-- a strain of the same endings alone
abbrev bare : Strain → Strain
bare strain = record { common = []; endings = strain.endings }

without_common : (text : List Mark) → strain_of (drop (length (strain_of text).common) text) ≡ bare (strain_of text)
without_common [] = refl
without_common (marks.Play ∷ text) = without_common text
without_common (marks.Bar closes opens double ∷ text) = without_common text
without_common (marks.Ending numbers ∷ text) = refl

after_front : (text front : List Mark) (n : ℕ) → front ≡ (strain_of text).common → n ≡ length front
    → strain_of (take (length text - n) (drop n text)) ≡ bare (strain_of text)
after_front text front n is long =
    ap strain_of (rest_of n text) ∙ ap (λ k. strain_of (drop k text)) (long ∙ ap length is) ∙ without_common text

-- the ending of a pass is found after the common part as in the whole
pub ending_after : (text front : List Mark) (at n pass : ℕ) → front ≡ (strain_of text).common → n ≡ length front
    → ending_of (at + n) (strain_of (take (length text - n) (drop n text))) pass ≡ ending_of at (strain_of text) pass
ending_after text front at n pass is long =
    let endings = (strain_of text).endings in
    let here : at + n + 0 ≡ at + n = omega arith in
    ap (λ strain. ending_of (at + n) strain pass) (after_front text front n is long)
    ∙ ap (λ k. first_ending pass k endings) here
    ∙ ap (λ k. first_ending pass (at + k) endings) (long ∙ ap length is)

bare_size : (strain : Strain) (passes : ℕ) → endings_size (bare strain) passes ≡ endings_size strain passes
unfolding endings_size
bare_size strain zero = refl
bare_size strain (suc passes) =
    ap (λ k. k + length (first_ending (suc passes) 0 strain.endings)) (bare_size strain passes)
    ∙ ap (λ k. endings_size strain passes + k) (length-first_ending (suc passes) 0 (length strain.common) strain.endings)

-- its endings play as many places there
pub endings_after : (text front : List Mark) (n passes : ℕ) → front ≡ (strain_of text).common → n ≡ length front
    → endings_size (strain_of (take (length text - n) (drop n text))) passes ≡ endings_size (strain_of text) passes
endings_after text front n passes is long =
    ap (λ strain. endings_size strain passes) (after_front text front n is long) ∙ bare_size (strain_of text) passes
