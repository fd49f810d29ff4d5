-- The play of runs, strain by strain.
use Rattle.std.proofs.Common.{◌≡◌, ℕ, suc, ◌+◌, max, Bool, true, false, cond, ◌||◌, List, [], ◌∷◌, ◌++◌, length, map, refl, sym, ap, subst, ◌∙◌, arith}
use Rattle.std.specs.Bool.{⊤}
use Rattle.std.specs.List.{flat_map, range_with_len}
use Rattle.std.proofs.lemmas.List.Concat.{flat_map-append}
use Rattle.abc_repeat.specs.declared.mark.Mark.{Mark}
use Rattle.abc_repeat.specs.declared.mark.Mark.TheVariants as marks
use Rattle.abc_repeat.specs.Mark.{is_ending, has_number, greatest_number, opens_next}
use Rattle.abc_repeat.specs.Strain.{ends_strain, put_first, strain_of, text_of, texts_of}
use Rattle.abc_repeat.specs.Play.{ending_of, first_ending, most_passes, pass_of, places_from, play_of, plays_from, strain_play}
use Rattle.abc_repeat.specs.Runs.{Run, items_at, items_played, marks_in}
use Rattle.abc_repeat.proofs.Cuts.{text_back}
use Rattle.abc_repeat.proofs.Passes.{most_passes-some}

-- a strain by its play: the number of passes, the common part, and the endings with their numbers
pub record StrainParts (A : Type 0) : Type 0 where
  pub passes : ℕ
  pub common : List A
  pub endings : List (ℕ × List A)

-- a strain of nothing
abbrev pub nothing : {A : Type 0} → StrainParts A
nothing = record { passes = 1; common = []; endings = [] }

-- a run before a strain, by its items and its mark
abbrev pub parts_with : {A : Type 0} → List A → Mark → StrainParts A → StrainParts A
parts_with items marks.Play parts = record { passes = max 1 parts.passes; common = items ++ parts.common; endings = parts.endings }
parts_with items (marks.Bar closes opens double) parts =
    record { passes = max (1 + closes) parts.passes; common = parts.common; endings = parts.endings }
parts_with items (marks.Ending numbers) parts =
    record { passes = max 1 (max (greatest_number numbers) parts.passes); common = []; endings = (numbers, parts.common) ∷ parts.endings }

-- a run before the first of some strains
abbrev pub parts_first : {A : Type 0} → Run A → List (StrainParts A) → List (StrainParts A)
parts_first run [] = parts_with run.items run.mark nothing ∷ []
parts_first run (parts ∷ others) = parts_with run.items run.mark parts ∷ others

-- the strains of runs
abbrev pub parts_of_runs : {A : Type 0} → Bool → Bool → List (Run A) → List (StrainParts A)
parts_of_runs opened inside [] = nothing ∷ []
parts_of_runs opened inside (run ∷ rest) =
    cond (ends_strain opened inside run.mark (marks_in rest))
    (parts_with run.items run.mark nothing ∷ parts_of_runs (opens_next run.mark) false rest)
    (parts_first run (parts_of_runs opened (inside || is_ending run.mark) rest))

-- the play of a pass through endings
abbrev pub ending_by_parts : {A : Type 0} → ℕ → List (ℕ × List A) → List A
ending_by_parts pass [] = []
ending_by_parts pass (ending ∷ endings) = cond (has_number ending.0 pass) ending.1 (ending_by_parts pass endings)

-- the play of a pass through a strain
abbrev pub pass_by_parts : {A : Type 0} → StrainParts A → ℕ → List A
pass_by_parts parts pass = parts.common ++ ending_by_parts pass parts.endings

-- the play of a strain
abbrev pub play_by_parts : {A : Type 0} → StrainParts A → List A
play_by_parts parts = flat_map (pass_by_parts parts) (range_with_len 1 parts.passes)

-- the marks from a place on are those of runs
abbrev AreItemsAt : {A : Type 0} → (ℕ → List A) → ℕ → List (Run A) → Type 0
AreItemsAt found at [] = ⊤
AreItemsAt found at (run ∷ rest) = (found at ≡ run.items) × AreItemsAt found (at + 1) rest

-- a text at a place by its play
record HasParts {A : Type 0} (found : ℕ → List A) (at : ℕ) (text : List Mark) (parts : StrainParts A) : Type 0 where
  passes : parts.passes ≡ most_passes text
  common : flat_map found (places_from at (strain_of text).common) ≡ parts.common
  ending : (pass : ℕ) → flat_map found (ending_of at (strain_of text) pass) ≡ ending_by_parts pass parts.endings

-- texts from a place on by their play
data HaveParts {A : Type 0} (found : ℕ → List A) : ℕ → List (List Mark) → List (StrainParts A) → Type 0 where
  none : (at : ℕ) → HaveParts found at [] []
  one : (at : ℕ) (text : List Mark) (texts : List (List Mark)) (parts : StrainParts A) (others : List (StrainParts A))
      → HasParts found at text parts → HaveParts found (at + length text) texts others → HaveParts found at (text ∷ texts) (parts ∷ others)

nothing_has_parts : {A : Type 0} (found : ℕ → List A) (at : ℕ) → HasParts found at [] nothing
nothing_has_parts found at = record { passes = refl; common = refl; ending = λ pass. refl }

-- one more mark
more_has_parts : {A : Type 0} (found : ℕ → List A) (at : ℕ) (items : List A) (mark : Mark) (text : List Mark) (parts : StrainParts A)
    → found at ≡ items → HasParts found (at + 1) text parts → HasParts found at (mark ∷ text) (parts_with items mark parts)
more_has_parts found at items marks.Play text parts here rest =
    let common = (strain_of text).common in
    let next : at + length (marks.Play ∷ common) ≡ at + 1 + length common = omega arith in
    record {
      passes = ap (max 1) rest.passes;
      common = λ i. here i ++ rest.common i;
      ending = λ pass. ap (λ k. flat_map found (first_ending pass k (strain_of text).endings)) next ∙ rest.ending pass;
    }
more_has_parts found at items (marks.Bar closes opens double) text parts here rest =
    let common = (strain_of text).common in
    let next : at + length (marks.Bar closes opens double ∷ common) ≡ at + 1 + length common = omega arith in
    record {
      passes = ap (max (1 + closes)) rest.passes;
      common = rest.common;
      ending = λ pass. ap (λ k. flat_map found (first_ending pass k (strain_of text).endings)) next ∙ rest.ending pass;
    }
more_has_parts found at items (marks.Ending numbers) text parts here rest =
    let own = strain_of text in
    let some = most_passes-some text in
    let begin : at + 0 + 1 ≡ at + 1 = omega arith in
    record {
      passes = omega (arith, rest.passes);
      common = refl;
      ending = λ pass.
          ap (λ k. flat_map found (cond (has_number numbers pass) (places_from k own.common) (first_ending pass (k + length own.common) own.endings))) begin
          ∙ elim (has_number numbers pass) as (λ b. flat_map found
          (cond b (places_from (at + 1) own.common) (first_ending pass (at + 1 + length own.common) own.endings)) ≡ cond b parts.common (ending_by_parts pass parts.endings)) [
            | true ↦ rest.common
            | false ↦ rest.ending pass
          ];
    }

first_has_parts : {A : Type 0} (found : ℕ → List A) (at : ℕ) (run : Run A) (texts : List (List Mark)) (others : List (StrainParts A))
    → found at ≡ run.items → HaveParts found (at + 1) texts others → HaveParts found at (put_first run.mark texts) (parts_first run others)
first_has_parts found at run _ _ here (none next) =
    one at (run.mark ∷ []) [] _ [] (more_has_parts found at run.items run.mark [] nothing here (nothing_has_parts found (at + 1))) (none (at + 1))
first_has_parts found at run _ _ here (one next text texts parts others is rest) =
    let long : at + 1 + length text ≡ at + suc (length text) = omega arith in
    one at (run.mark ∷ text) texts _ others (more_has_parts found at run.items run.mark text parts here is)
    (subst (λ k. HaveParts found k texts others) long rest)

runs_have_parts : {A : Type 0} (found : ℕ → List A) (at : ℕ) (opened inside : Bool) (runs : List (Run A))
    → AreItemsAt found at runs → HaveParts found at (texts_of opened inside (marks_in runs)) (parts_of_runs opened inside runs)
runs_have_parts found at opened inside [] h = one at [] [] nothing [] (nothing_has_parts found at) (none (at + 0))
runs_have_parts found at opened inside (run ∷ rest) h =
    elim (ends_strain opened inside run.mark (marks_in rest)) as (λ b. HaveParts found at
    (cond b ((run.mark ∷ []) ∷ texts_of (opens_next run.mark) false (marks_in rest)) (put_first run.mark (texts_of opened (inside || is_ending run.mark) (marks_in rest))))
    (cond b (parts_with run.items run.mark nothing ∷ parts_of_runs (opens_next run.mark) false rest) (parts_first run (parts_of_runs opened (inside || is_ending run.mark) rest)))) [
      | true ↦ one at (run.mark ∷ []) _ _ _ (more_has_parts found at run.items run.mark [] nothing h.0 (nothing_has_parts found (at + 1)))
          (runs_have_parts found (at + 1) (opens_next run.mark) false rest h.1)
      | false ↦ first_has_parts found at run _ _ h.0 (runs_have_parts found (at + 1) opened (inside || is_ending run.mark) rest h.1)
    ]

passes_by_parts : {A : Type 0} (found : ℕ → List A) (at : ℕ) (text : List Mark) (parts : StrainParts A) (passes : List ℕ)
    → HasParts found at text parts → flat_map found (flat_map (pass_of at (strain_of text)) passes) ≡ flat_map (pass_by_parts parts) passes
passes_by_parts found at text parts [] is = refl
passes_by_parts found at text parts (pass ∷ passes) is =
    let strain = strain_of text in
    flat_map-append found (pass_of at strain pass) (flat_map (pass_of at strain) passes)
    ∙ ap (λ l. l ++ flat_map found (flat_map (pass_of at strain) passes)) (flat_map-append found (places_from at strain.common) (ending_of at strain pass))
    ∙ (λ i. (is.common i ++ is.ending pass i) ++ passes_by_parts found at text parts passes is i)

strain_by_parts : {A : Type 0} (found : ℕ → List A) (at : ℕ) (text : List Mark) (parts : StrainParts A)
    → HasParts found at text parts → flat_map found (strain_play at (strain_of text)) ≡ play_by_parts parts
unfolding strain_play
strain_by_parts found at text parts is =
    passes_by_parts found at text parts (range_with_len 1 (most_passes (text_of (strain_of text)))) is
    ∙ ap (λ k. flat_map (pass_by_parts parts) (range_with_len 1 k)) (ap most_passes (text_back text) ∙ sym is.passes)

plays_by_parts : {A : Type 0} (found : ℕ → List A) (at : ℕ) (texts : List (List Mark)) (others : List (StrainParts A))
    → HaveParts found at texts others → flat_map found (plays_from at (map strain_of texts)) ≡ flat_map play_by_parts others
plays_by_parts found _ _ _ (none at) = refl
plays_by_parts found _ _ _ (one at text texts parts others is rest) =
    flat_map-append found (strain_play at (strain_of text)) (plays_from (at + length (text_of (strain_of text))) (map strain_of texts))
    ∙ (λ i. strain_by_parts found at text parts is i ++ flat_map found (plays_from (at + length (text_back text i)) (map strain_of texts)))
    ∙ ap (λ l. play_by_parts parts ++ l) (plays_by_parts found (at + length text) texts others rest)

-- the marks from the next place on
moved : {A : Type 0} (found other : ℕ → List A) (at : ℕ) (runs : List (Run A))
    → ((k : ℕ) → other (suc k) ≡ found k) → AreItemsAt found at runs → AreItemsAt other (at + 1) runs
moved found other at [] same h = tt
moved found other at (run ∷ rest) same h =
    let next : at + 1 ≡ suc at = omega arith in
    (ap other next ∙ same at ∙ h.0, moved found other (at + 1) rest same h.1)

items_are_at : {A : Type 0} (runs : List (Run A)) → AreItemsAt (items_at runs) 0 runs
items_are_at [] = tt
items_are_at (run ∷ rest) = (refl, moved (items_at rest) (items_at (run ∷ rest)) 0 rest (λ k. refl) (items_are_at rest))

-- the play of runs is that of their strains
pub items_played-by_parts : {A : Type 0} (runs : List (Run A)) → items_played runs ≡ flat_map play_by_parts (parts_of_runs false false runs)
unfolding play_of
items_played-by_parts runs =
    plays_by_parts (items_at runs) 0 (texts_of false false (marks_in runs)) (parts_of_runs false false runs) (runs_have_parts (items_at runs) 0 false false runs (items_are_at runs))
