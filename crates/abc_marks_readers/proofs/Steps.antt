-- The steps of a pattern, one after another.
use Rattle.std.proofs.Common.{◌≡◌, ℕ, zero, suc, ◌-◌, ◌≤◌, true, List, [], ◌∷◌, ◌++◌, length, Option, Some, None, codes, refl, sym, ap, ◌∙◌, arith, append_assoc, append-nil}
use Rattle.std.specs.Prelude.{is_some}
use Rattle.std.specs.Option.{option_map, option_and_then}
use Rattle.std.specs.Str.{bytes_eq}
use Rattle.std.proofs.lemmas.Bool.{cond-true}
use Rattle.abc_marks.specs.declared.directive.Step.{Step}
use Rattle.abc_marks.specs.declared.directive.PlayingDirective.TheVariants as directives
use Rattle.abc_marks_readers.specs.Directive.{directive_named}
use Rattle.abc_marks_readers.specs.Pattern.{pattern_of, step_at, steps_of}

abbrev With : ℕ → Step × List ℕ → Option (List Step)
With left first = option_map (λ more. first.0 ∷ more) (steps_of left first.1)

-- no step may follow the last one
pub none_left : (rest : List ℕ) → 1 ≤ length rest → steps_of 0 rest ≡ None
none_left [] some = absurd (omega arith)
none_left (b ∷ bs) some = refl

-- a text that begins with no step has none
pub none_read : (left : ℕ) (rest : List ℕ) → 1 ≤ length rest → step_at rest ≡ None → steps_of left rest ≡ None
none_read left [] some e = absurd (omega arith)
none_read zero (b ∷ bs) some e = refl
none_read (suc left) (b ∷ bs) some e = ap (option_and_then (With left)) e

-- the first step, and those after it
next_read : (left : ℕ) (rest : List ℕ) (first : Step × List ℕ) → 1 ≤ left → step_at rest ≡ Some first → steps_of left rest ≡ With (left - 1) first
next_read left [] first some e = cc
next_read zero (b ∷ bs) first some e = absurd (omega arith)
next_read (suc left) (b ∷ bs) first some e =
    let less : left ≡ suc left - 1 = omega arith in
    ap (option_and_then (With left)) e ∙ ap (λ n. With n first) less

fused : (steps : List Step) (step : Step) (o : Option (List Step)) → option_map (λ more. (steps ++ step ∷ []) ++ more) o ≡ option_map (λ more. steps ++ more) (option_map (λ more. step ∷ more) o)
fused steps step None = refl
fused steps step (Some more) = ap Some (append_assoc steps (step ∷ []) more)

pub step_added : (steps : List Step) (left : ℕ) (rest : List ℕ) (step : Step) (following : List ℕ) → 1 ≤ left → step_at rest ≡ Some (step, following)
    → option_map (λ more. (steps ++ step ∷ []) ++ more) (steps_of (left - 1) following) ≡ option_map (λ more. steps ++ more) (steps_of left rest)
step_added steps left rest step following some e =
    fused steps step (steps_of (left - 1) following) ∙ ap (option_map (λ more. steps ++ more)) (sym (next_read left rest (step, following) some e))

same_some : (step : Step) (o : Option (List Step)) → is_some (option_map (λ more. step ∷ more) o) ≡ is_some o
same_some step None = refl
same_some step (Some more) = refl

pub one_read : (left : ℕ) (rest : List ℕ) (step : Step) (following : List ℕ) → 1 ≤ left → step_at rest ≡ Some (step, following)
    → is_some (steps_of (left - 1) following) ≡ is_some (steps_of left rest)
one_read left rest step following some e =
    sym (ap is_some (next_read left rest (step, following) some e) ∙ same_some step (steps_of (left - 1) following))

-- nothing is read before the first step
pub none_before : (steps : List Step) (o : Option (List Step)) → steps ≡ [] → option_map (λ more. steps ++ more) o ≡ o
none_before steps None e = refl
none_before steps (Some more) e = ap (λ s. Some (s ++ more)) e

-- nothing is left
pub all_read : (steps : List Step) (left : ℕ) (rest : List ℕ) → length rest ≡ 0 → option_map (λ more. steps ++ more) (steps_of left rest) ≡ Some steps
all_read steps left [] none = ap Some (append-nil steps)
all_read steps left (b ∷ bs) none = absurd (omega (arith, none))

same_map : (o : Option (List Step)) → is_some (option_map directives.Pattern o) ≡ is_some o
same_map None = refl
same_map (Some steps) = refl

-- a directive of a pattern is there if the pattern is
pub pattern_named : (name value : List ℕ) → bytes_eq name (codes "gchord") ≡ true → is_some (directive_named (name, value)) ≡ is_some (pattern_of value)
pattern_named name value e = ap is_some (cond-true _ _ _ e) ∙ same_map (pattern_of value)
