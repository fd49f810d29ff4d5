-- What is played of runs without the bar lines that are passed.
use Rattle.std.proofs.Common.{◌≡◌, ◌≤◌, ℕ, max, Bool, true, false, cond, ◌||◌, List, [], ◌∷◌, ◌++◌, map, refl, sym, ap, ◌∙◌, arith}
use Rattle.std.specs.List.{flat_map, range_with_len}
use Rattle.std.proofs.lemmas.List.Elements.{filter-append}
use Rattle.abc_repeat.specs.declared.mark.Mark.{Mark}
use Rattle.abc_repeat.specs.declared.mark.Mark.TheVariants as marks
use Rattle.abc_repeat.specs.Mark.{is_ending, has_number, opens_next}
use Rattle.abc_repeat.specs.Runs.{Run, items_played, marks_in}
use Rattle.abc_repeat.specs.Strain.{ends_strain}
use Rattle.abc_repeat.proofs.StrainParts.{StrainParts, nothing, parts_with, parts_first, parts_of_runs, ending_by_parts, pass_by_parts, play_by_parts, items_played-by_parts}
use Rattle.abc_play_sections.specs.declared.step.PlayStep.{PlayStep}
use Rattle.abc_play_sections.specs.declared.step.PlayStep.TheVariants as steps
use Rattle.abc_play_sections.specs.Step.{is_item, mark, without_bar_lines}
use Rattle.abc_play_sections.proofs.OneByOne.{one_run, runs_of, run_marks}
use Rattle.abc_play_sections.proofs.Settled.{IsSettled}

-- a strain without bar lines
abbrev kept_ending : ℕ × List PlayStep → ℕ × List PlayStep
kept_ending ending = (ending.0, without_bar_lines ending.1)

abbrev kept : StrainParts PlayStep → StrainParts PlayStep
kept parts = record { passes = parts.passes; common = without_bar_lines parts.common; endings = map kept_ending parts.endings }

ending_kept : (pass : ℕ) (endings : List (ℕ × List PlayStep)) → without_bar_lines (ending_by_parts pass endings) ≡ ending_by_parts pass (map kept_ending endings)
ending_kept pass [] = refl
ending_kept pass (ending ∷ endings) =
    elim (has_number ending.0 pass) as (λ b. without_bar_lines (cond b ending.1 (ending_by_parts pass endings)) ≡ cond b (without_bar_lines ending.1) (ending_by_parts pass (map kept_ending endings))) [
      | true ↦ refl
      | false ↦ ending_kept pass endings
    ]

pass_kept : (parts : StrainParts PlayStep) (pass : ℕ) → without_bar_lines (pass_by_parts parts pass) ≡ pass_by_parts (kept parts) pass
pass_kept parts pass =
    filter-append is_item parts.common (ending_by_parts pass parts.endings)
    ∙ ap (λ l. without_bar_lines parts.common ++ l) (ending_kept pass parts.endings)

passes_kept : (parts : StrainParts PlayStep) (passes : List ℕ) → without_bar_lines (flat_map (pass_by_parts parts) passes) ≡ flat_map (pass_by_parts (kept parts)) passes
passes_kept parts [] = refl
passes_kept parts (pass ∷ passes) =
    filter-append is_item (pass_by_parts parts pass) (flat_map (pass_by_parts parts) passes)
    ∙ (λ i. pass_kept parts pass i ++ passes_kept parts passes i)

plays_kept : (strains : List (StrainParts PlayStep)) → without_bar_lines (flat_map play_by_parts strains) ≡ flat_map play_by_parts (map kept strains)
plays_kept [] = refl
plays_kept (parts ∷ strains) =
    filter-append is_item (play_by_parts parts) (flat_map play_by_parts strains)
    ∙ (λ i. passes_kept parts (range_with_len 1 parts.passes) i ++ plays_kept strains i)

-- an item before a strain
item_with : (step : PlayStep) (mark : Mark) (parts : StrainParts PlayStep) → is_item step ≡ true → kept (parts_with (step ∷ []) mark parts) ≡ parts_with (step ∷ []) mark (kept parts)
item_with step marks.Play parts h =
    ap (λ (b : Bool). record { passes = max 1 parts.passes; common = cond b (step ∷ without_bar_lines parts.common) (without_bar_lines parts.common); endings = map kept_ending parts.endings }) h
item_with step (marks.Bar closes opens double) parts h = refl
item_with step (marks.Ending numbers) parts h = refl

item_first : (step : PlayStep) (strains : List (StrainParts PlayStep)) → is_item step ≡ true → map kept (parts_first (one_run step) strains) ≡ parts_first (one_run step) (map kept strains)
item_first step [] h = ap (λ parts. parts ∷ []) (item_with step (mark step) nothing h)
item_first step (parts ∷ strains) h = ap (λ one. one ∷ map kept strains) (item_with step (mark step) parts h)

-- there is a strain, and it is played at least once
abbrev IsBegun : List (StrainParts PlayStep) → Type 0
IsBegun [] = ⊥
IsBegun (parts ∷ strains) = 1 ≤ parts.passes

some_passes : (items : List PlayStep) (mark : Mark) (parts : StrainParts PlayStep) → 1 ≤ parts.passes → 1 ≤ (parts_with items mark parts).passes
some_passes items marks.Play parts h = omega arith
some_passes items (marks.Bar closes opens double) parts h = omega arith
some_passes items (marks.Ending numbers) parts h = omega arith

begun_first : (run : Run PlayStep) (strains : List (StrainParts PlayStep)) → IsBegun strains → IsBegun (parts_first run strains)
begun_first run [] h = absurd h
begun_first run (parts ∷ strains) h = some_passes run.items run.mark parts h

begun : (opened inside : Bool) (runs : List (Run PlayStep)) → IsBegun (parts_of_runs opened inside runs)
begun opened inside [] = omega arith
begun opened inside (run ∷ rest) =
    elim (ends_strain opened inside run.mark (marks_in rest)) as (λ b. IsBegun (cond b (parts_with run.items run.mark nothing ∷ parts_of_runs (opens_next run.mark) false rest)
    (parts_first run (parts_of_runs opened (inside || is_ending run.mark) rest)))) [
      | true ↦ some_passes run.items run.mark nothing (omega arith)
      | false ↦ begun_first run (parts_of_runs opened (inside || is_ending run.mark) rest) (begun opened (inside || is_ending run.mark) rest)
    ]

-- a bar line before a strain
bar_line_first : (place : ℕ) (strains : List (StrainParts PlayStep)) → IsBegun strains → map kept (parts_first (one_run (steps.BarLine place)) strains) ≡ map kept strains
bar_line_first place [] h = absurd h
bar_line_first place (parts ∷ strains) h =
    let same : max 1 parts.passes ≡ parts.passes = omega arith in
    ap (λ (passes : ℕ). record { passes = passes; common = without_bar_lines parts.common; endings = map kept_ending parts.endings } ∷ map kept strains) same

-- the strains of steps without bar lines
abbrev AreAlike : Bool → Bool → List PlayStep → Type 0
AreAlike opened inside own = map kept (parts_of_runs opened inside (runs_of own)) ≡ parts_of_runs opened inside (runs_of (without_bar_lines own))

bar_line_alike : (opened inside : Bool) (place : ℕ) (rest : List PlayStep) → AreAlike opened inside rest → AreAlike opened inside (steps.BarLine place ∷ rest)
bar_line_alike opened true place rest same = bar_line_first place (parts_of_runs opened true (runs_of rest)) (begun opened true (runs_of rest)) ∙ same
bar_line_alike opened false place rest same = bar_line_first place (parts_of_runs opened false (runs_of rest)) (begun opened false (runs_of rest)) ∙ same

item_alike : (opened inside : Bool) (step : PlayStep) (rest : List PlayStep) → is_item step ≡ true → IsSettled inside (step ∷ rest)
    → ((first within : Bool) → IsSettled within rest → AreAlike first within rest)
    → map kept (parts_of_runs opened inside (runs_of (step ∷ rest))) ≡ parts_of_runs opened inside (runs_of (step ∷ without_bar_lines rest))
item_alike opened inside step rest h settled alike =
    let own = mark step in
    let others = without_bar_lines rest in
    let ends = ends_strain opened inside own (run_marks rest) in
    elim ends as (λ b. IsSettled (cond b false (inside || is_ending own)) rest
    → map kept (cond b (parts_with (step ∷ []) own nothing ∷ parts_of_runs (opens_next own) false (runs_of rest))
    (parts_first (one_run step) (parts_of_runs opened (inside || is_ending own) (runs_of rest))))
    ≡ cond b (parts_with (step ∷ []) own nothing ∷ parts_of_runs (opens_next own) false (runs_of others))
    (parts_first (one_run step) (parts_of_runs opened (inside || is_ending own) (runs_of others)))) [
      | true ↦ λ s. (λ i. item_with step own nothing h i ∷ alike (opens_next own) false s i)
      | false ↦ λ s. item_first step (parts_of_runs opened (inside || is_ending own) (runs_of rest)) h ∙ ap (parts_first (one_run step)) (alike opened (inside || is_ending own) s)
    ] (settled.1 opened)
    ∙ ap (λ b. cond b (parts_with (step ∷ []) own nothing ∷ parts_of_runs (opens_next own) false (runs_of others))
    (parts_first (one_run step) (parts_of_runs opened (inside || is_ending own) (runs_of others)))) (settled.0 opened)

bar_line_rest : (inside : Bool) (place : ℕ) (rest : List PlayStep) → IsSettled inside (steps.BarLine place ∷ rest) → IsSettled inside rest
bar_line_rest true place rest settled = settled.1 false
bar_line_rest false place rest settled = settled.1 false

strains_alike : (opened inside : Bool) (own : List PlayStep) → IsSettled inside own → AreAlike opened inside own
strains_alike opened inside [] settled = refl
strains_alike opened inside (steps.Item item place ∷ rest) settled =
    item_alike opened inside (steps.Item item place) rest refl settled (λ first within. strains_alike first within rest)
strains_alike opened inside (steps.BarLine place ∷ rest) settled =
    bar_line_alike opened inside place rest (strains_alike opened inside rest (bar_line_rest inside place rest settled))

-- what is played of settled steps
pub without_bar_lines-played : (own : List PlayStep) → IsSettled false own → without_bar_lines (items_played (runs_of own)) ≡ items_played (runs_of (without_bar_lines own))
without_bar_lines-played own settled =
    ap without_bar_lines (items_played-by_parts (runs_of own))
    ∙ plays_kept (parts_of_runs false false (runs_of own))
    ∙ ap (flat_map play_by_parts) (strains_alike false false own settled)
    ∙ sym (items_played-by_parts (runs_of (without_bar_lines own)))
