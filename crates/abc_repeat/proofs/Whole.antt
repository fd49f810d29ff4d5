-- Runs are played whole, and single bars change nothing.
use Rattle.std.proofs.Common.{◌≡◌, ℕ, ◌+◌, max, Bool, true, false, not, cond, ◌&&◌, ◌||◌, ◌==◌, List, [], ◌∷◌, ◌++◌, refl, sym, ap, ◌∙◌, arith, append_assoc}
use Rattle.std.specs.List.{flat_map}
use Rattle.std.proofs.lemmas.Bool.{and_parts, eqb-true, not-true}
use Rattle.abc_repeat.specs.declared.mark.Mark.{Mark}
use Rattle.abc_repeat.specs.declared.mark.Mark.TheVariants as marks
use Rattle.abc_repeat.specs.Mark.{is_ending, is_single, closes_common, closes_ending, opens_next, greatest_number}
use Rattle.abc_repeat.specs.Strain.{ends_strain, leads_to_ending}
use Rattle.abc_repeat.specs.Runs.{Run, played_run, marks_in, items_played, AreJoined, PassesSingleBars}
use Rattle.abc_repeat.proofs.StrainParts.{StrainParts, nothing, parts_with, parts_first, parts_of_runs, play_by_parts, items_played-by_parts}

-- runs that make the same strains after any runs
record AreAlike {A : Type 0} (runs others : List (Run A)) : Type 0 where
  leads : leads_to_ending (marks_in runs) ≡ leads_to_ending (marks_in others)
  strains : (opened inside : Bool) → parts_of_runs opened inside runs ≡ parts_of_runs opened inside others

-- whether a mark ends its strain, by whether the rest leads to an ending
abbrev ends_by : Bool → Bool → Mark → Bool → Bool
ends_by opened inside mark leads = cond inside (closes_ending mark && not (not (opens_next mark) && leads)) (closes_common opened mark)

one_before : {A : Type 0} (run : Run A) (runs others : List (Run A)) → AreAlike runs others → AreAlike (run ∷ runs) (run ∷ others)
one_before run runs others alike = record {
  leads = ap (λ b. is_ending run.mark || (is_single run.mark && b)) alike.leads;
  strains = λ opened inside.
      λ i. cond (ends_by opened inside run.mark (alike.leads i))
      (parts_with run.items run.mark nothing ∷ alike.strains (opens_next run.mark) false i)
      (parts_first run (alike.strains opened (inside || is_ending run.mark) i));
}

some_before : {A : Type 0} (before runs others : List (Run A)) → AreAlike runs others → AreAlike (before ++ runs) (before ++ others)
some_before [] runs others alike = alike
some_before (run ∷ before) runs others alike = one_before run (before ++ runs) (before ++ others) (some_before before runs others alike)

played_alike : {A : Type 0} (before runs others : List (Run A)) → AreAlike runs others → items_played (before ++ runs) ≡ items_played (before ++ others)
played_alike before runs others alike =
    items_played-by_parts (before ++ runs)
    ∙ ap (flat_map play_by_parts) ((some_before before runs others alike).strains false false)
    ∙ sym (items_played-by_parts (before ++ others))

-- two runs before a strain are one
two_runs_as_one : {A : Type 0} (first second : List A) (parts : StrainParts A)
    → parts_with first marks.Play (parts_with second marks.Play parts) ≡ parts_with (first ++ second) marks.Play parts
two_runs_as_one first second parts =
    let passes : max 1 (max 1 parts.passes) ≡ max 1 parts.passes = omega arith in
    λ i. record { passes = passes i; common = sym (append_assoc first second parts.common) i; endings = parts.endings }

two_first : {A : Type 0} (first second : List A) (strains : List (StrainParts A))
    → parts_first (played_run first) (parts_first (played_run second) strains) ≡ parts_first (played_run (first ++ second)) strains
two_first first second [] = ap (λ parts. parts ∷ []) (two_runs_as_one first second nothing)
two_first first second (parts ∷ others) = ap (λ one. one ∷ others) (two_runs_as_one first second parts)

joined_alike : {A : Type 0} (first second : List A) (following : List (Run A))
    → AreAlike (played_run first ∷ played_run second ∷ following) (played_run (first ++ second) ∷ following)
joined_alike first second following = record {
  leads = refl;
  strains = strains;
}
  where
    strains : (opened inside : Bool) → parts_of_runs opened inside (played_run first ∷ played_run second ∷ following) ≡ parts_of_runs opened inside (played_run (first ++ second) ∷ following)
    strains opened true = two_first first second (parts_of_runs opened true following)
    strains opened false = two_first first second (parts_of_runs opened false following)

pub joined : {A : Type 0} → AreJoined A
joined before following first second =
    played_alike before (played_run first ∷ played_run second ∷ following) (played_run (first ++ second) ∷ following) (joined_alike first second following)

-- a single bar has no colons and is not double
plain : (mark : Mark) → is_single mark ≡ true → mark ≡ marks.Bar 0 0 false
plain (marks.Bar closes opens double) h =
    let both = and_parts ((closes == 0) && (opens == 0)) (not double) h in
    let zeros = and_parts (closes == 0) (opens == 0) both.0 in
    λ i. marks.Bar (eqb-true closes 0 zeros.0 i) (eqb-true opens 0 zeros.1 i) (not-true double both.1 i)
plain _ h = cc

single_bar_before : {A : Type 0} (items own : List A) (mark : Mark) (parts : StrainParts A)
    → parts_with items (marks.Bar 0 0 false) (parts_with own mark parts) ≡ parts_with own mark parts
single_bar_before items own marks.Play parts =
    let passes : max 1 (max 1 parts.passes) ≡ max 1 parts.passes = omega arith in
    ap (λ (k : ℕ). record { passes = k; common = own ++ parts.common; endings = parts.endings }) passes
single_bar_before items own (marks.Bar closes opens double) parts =
    let passes : max 1 (max (1 + closes) parts.passes) ≡ max (1 + closes) parts.passes = omega arith in
    ap (λ (k : ℕ). record { passes = k; common = parts.common; endings = parts.endings }) passes
single_bar_before items own (marks.Ending numbers) parts =
    let passes : max 1 (max 1 (max (greatest_number numbers) parts.passes)) ≡ max 1 (max (greatest_number numbers) parts.passes) = omega arith in
    ap (λ (k : ℕ). record { passes = k; common = []; endings = (numbers, parts.common) ∷ parts.endings }) passes

bar_first : {A : Type 0} (items : List A) (run : Run A) (strains : List (StrainParts A))
    → parts_first (record { mark = marks.Bar 0 0 false; items = items }) (parts_first run strains) ≡ parts_first run strains
bar_first items run [] = ap (λ parts. parts ∷ []) (single_bar_before items run.items run.mark nothing)
bar_first items run (parts ∷ others) = ap (λ one. one ∷ others) (single_bar_before items run.items run.mark parts)

bar_passed : {A : Type 0} (items : List A) (opened inside : Bool) (following : List (Run A))
    → parts_first (record { mark = marks.Bar 0 0 false; items = items }) (parts_of_runs opened inside following) ≡ parts_of_runs opened inside following
bar_passed items opened inside [] = refl
bar_passed {A} items opened inside (run ∷ rest) =
    let bar : Run A = record { mark = marks.Bar 0 0 false; items = items } in
    let ending : List (StrainParts A) = parts_with run.items run.mark nothing ∷ parts_of_runs (opens_next run.mark) false rest in
    let staying : List (StrainParts A) = parts_first run (parts_of_runs opened (inside || is_ending run.mark) rest) in
    elim (ends_strain opened inside run.mark (marks_in rest)) as (λ b. parts_first bar (cond b ending staying) ≡ cond b ending staying) [
      | true ↦ ap (λ parts. parts ∷ parts_of_runs (opens_next run.mark) false rest) (single_bar_before items run.items run.mark nothing)
      | false ↦ bar_first items run (parts_of_runs opened (inside || is_ending run.mark) rest)
    ]

bar_alike : {A : Type 0} (items : List A) (following : List (Run A)) → AreAlike (record { mark = marks.Bar 0 0 false; items = items } ∷ following) following
bar_alike items following = record {
  leads = refl;
  strains = strains;
}
  where
    strains : (opened inside : Bool) → parts_of_runs opened inside (record { mark = marks.Bar 0 0 false; items = items } ∷ following) ≡ parts_of_runs opened inside following
    strains true true = bar_passed items true true following
    strains true false = bar_passed items true false following
    strains false true = bar_passed items false true following
    strains false false = bar_passed items false false following

pub bars_passed : {A : Type 0} → PassesSingleBars A
bars_passed before following bar h =
    ap (λ mark. items_played (before ++ record { mark = mark; items = bar.items } ∷ following)) (plain bar.mark h)
    ∙ played_alike before _ following (bar_alike bar.items following)
