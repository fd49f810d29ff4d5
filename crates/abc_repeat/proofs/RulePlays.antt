-- The play of a section follows the rules, and no other play does.
use Rattle.std.proofs.Common.{◌≡◌, ℕ, ◌+◌, ltb, Bool, true, false, Option, Some, None, List, [], ◌∷◌, ◌++◌, length, refl, sym, ap, ◌∙◌, subst, append-nil}
use Rattle.std.specs.List.{AllPass}
use Rattle.abc_repeat.specs.declared.mark.Mark.{Mark}
use Rattle.abc_repeat.specs.declared.mark.Mark.TheVariants as marks
use Rattle.abc_repeat.specs.Mark.{is_single, opens_next, closes_common, closes_ending}
use Rattle.abc_repeat.specs.Strain.{Ending, Strain, without_endings, endings_text, text_of, in_common, in_ending, IsInnerRun, without_bar, with_bar}
use Rattle.abc_repeat.specs.Strain.{AreEndings, to_the_end, to_a_bar, another, IsStrains, last_common, last_endings, common_part, with_endings}
use Rattle.abc_repeat.specs.Play.{strain_play, plays_from, play_of}
use Rattle.abc_repeat.specs.PlayLaws.{PlacedEnding, placed_ending, IsEndBar, AreEndingsFrom, until_end, until_bar, until_sign, past_bar, IsStrainPlay}
use Rattle.abc_repeat.specs.PlayLaws.{IsPlayFrom, ends_in_common, ends_in_ending, after_common, after_endings, IsByTheRules, HasNoOtherPlay}
use Rattle.abc_repeat.proofs.Existence.{computed_reading}
use Rattle.abc_repeat.proofs.Readings.{reading_computed}
use Rattle.abc_repeat.proofs.RuleMarks.{test_none, closes_ending-tested, end_by_test, closes_common-tested, common_by_test, goes_on-last, last_by_test, all_inside_by_test}
use Rattle.abc_repeat.proofs.RuleMarks.{all_inside_tested, all_between_by_test, all_between_tested, all_common_by_test, all_common_tested}
use Rattle.abc_repeat.proofs.RulePasses.{all_placed, strain_played, strain_one}

-- an ending with the marks of those after it
abbrev ended : ℕ → List Mark → Ending
ended numbers run = record { numbers = numbers; run = run }

-- an ending over a bar
past : (at numbers : ℕ) (body gap : List Mark) (bar : Mark) (endings : List Ending) (closing : Option Mark)
    → AllPass in_ending body → closes_ending bar ≡ true → opens_next bar ≡ false → AllPass is_single gap
    → AreEndingsFrom (at + 1 + length (body ++ bar ∷ gap)) (all_placed (at + 1 + length (body ++ bar ∷ gap)) endings) (endings_text endings) closing
    → AreEndingsFrom at (all_placed at (ended numbers (body ++ bar ∷ gap) ∷ endings)) (endings_text (ended numbers (body ++ bar ∷ gap) ∷ endings)) closing
past at numbers body gap (marks.Bar c o double) endings closing h closes opens singles following =
    let none : 0 ≡ o = sym (test_none o opens) in
    let Past : ℕ → Type 0 = λ k. IsEndBar (marks.Bar c k double)
    → AreEndingsFrom (at + 1 + length (body ++ marks.Bar c k double ∷ gap)) (all_placed (at + 1 + length (body ++ marks.Bar c k double ∷ gap)) endings) (endings_text endings) closing
    → AreEndingsFrom at (all_placed at (ended numbers (body ++ marks.Bar c k double ∷ gap) ∷ endings)) (endings_text (ended numbers (body ++ marks.Bar c k double ∷ gap) ∷ endings)) closing in
    let zero : Past 0 = λ is more. past_bar at numbers c double body gap (endings_text endings) (all_placed (at + 1 + length (body ++ marks.Bar c 0 double ∷ gap)) endings) closing
    (all_inside_by_test body h) is (all_between_by_test gap singles) more in
    subst Past none zero (end_by_test (marks.Bar c o double) closes) following
past at numbers body gap _ endings closing h closes opens singles following = cc

-- an ending with another one after it
inner_placed : (at numbers : ℕ) {run : List Mark} (endings : List Ending) (closing : Option Mark) → IsInnerRun run
    → ((k : ℕ) → AreEndingsFrom k (all_placed k endings) (endings_text endings) closing)
    → AreEndingsFrom at (all_placed at (ended numbers run ∷ endings)) (endings_text (ended numbers run ∷ endings)) closing
inner_placed at numbers endings closing (without_bar body h) following =
    until_sign at numbers body (endings_text endings) (all_placed (at + 1 + length body) endings) closing (all_inside_by_test body h) (following (at + 1 + length body))
inner_placed at numbers endings closing (with_bar body gap bar h closes opens singles) following =
    past at numbers body gap bar endings closing h closes opens singles (following (at + 1 + length (body ++ bar ∷ gap)))

-- endings have the rules
endings_placed : {endings : List Ending} {closing : Option Mark} → AreEndings endings closing → (at : ℕ) → AreEndingsFrom at (all_placed at endings) (endings_text endings) closing
endings_placed (to_the_end numbers body h) at =
    subst (λ l. AreEndingsFrom at (placed_ending at numbers body ∷ []) (marks.Ending numbers ∷ l) None) (sym (append-nil body)) (until_end at numbers body (all_inside_by_test body h))
endings_placed (to_a_bar numbers body bar h closes) at =
    subst (λ l. AreEndingsFrom at (placed_ending at numbers (body ++ bar ∷ []) ∷ []) (marks.Ending numbers ∷ l) (Some bar)) (sym (append-nil (body ++ bar ∷ [])))
    (until_bar at numbers body bar (all_inside_by_test body h) (end_by_test bar closes))
endings_placed (another numbers run endings closing inner are) at = inner_placed at numbers endings closing inner (endings_placed are)

-- a bar ends the last ending
closing_bar : {endings : List Ending} {closing : Option Mark} → AreEndings endings closing → (bar : Mark) → closing ≡ Some bar → closes_ending bar ≡ true
closing_bar (to_the_end numbers body h) bar is = cc
closing_bar (to_a_bar numbers body own h closes) bar is = let same : own ≡ bar = cc in subst (λ m. closes_ending m ≡ true) same closes
closing_bar (another numbers run endings closing inner are) bar is = closing_bar are bar is

-- a strain of these
abbrev strain_with : List Mark → List Ending → Strain
strain_with common endings = record { common = common; endings = endings }

-- strains play by the rules
plays_ruled : {opened : Bool} {ms : List Mark} {strains : List Strain} → IsStrains opened ms strains → (before at : ℕ) → opened ≡ ltb 0 before → IsPlayFrom before at ms (plays_from at strains)
plays_ruled (last_common opened common h) before at is =
    subst (IsPlayFrom before at common) (sym (append-nil (strain_play at (without_endings common))))
    (ends_in_common before at common (strain_play at (without_endings common)) (all_common_by_test before common (subst (λ b. AllPass (in_common b) common) is h))
    (strain_played at common (without_endings common) (sym (append-nil common))))
plays_ruled (last_endings opened common endings h are) before at is =
    let strain = strain_with common endings in
    subst (IsPlayFrom before at (common ++ endings_text endings)) (sym (append-nil (strain_play at strain)))
    (ends_in_ending before at common (endings_text endings) (all_placed (at + length common) endings) (strain_play at strain)
    (all_common_by_test before common (subst (λ b. AllPass (in_common b) common) is h))
    (endings_placed are (at + length common)) (strain_played at (common ++ endings_text endings) strain refl))
plays_ruled (common_part opened body rest marks.Play strains h closes following) before at is = cc
plays_ruled (common_part opened body rest (marks.Ending numbers) strains h closes following) before at is = cc
plays_ruled (common_part opened body rest (marks.Bar c o double) strains h closes following) before at is =
    let bar = marks.Bar c o double in
    let common = body ++ bar ∷ [] in
    let strain = without_endings common in
    subst (λ k. IsPlayFrom before at (body ++ bar ∷ rest) (strain_play at strain ++ plays_from (at + k) strains)) (ap length (sym (append-nil common)))
    (after_common before at c o double body rest (strain_play at strain) (plays_from (at + length common) strains)
    (all_common_by_test before body (subst (λ b. AllPass (in_common b) body) is h))
    (common_by_test before bar (subst (λ b. closes_common b bar ≡ true) is closes))
    (strain_played at common strain (sym (append-nil common)))
    (plays_ruled following o (at + length common) refl))
plays_ruled (with_endings opened common rest endings marks.Play strains h are stops following) before at is = let no = closing_bar are marks.Play refl in cc
plays_ruled (with_endings opened common rest endings (marks.Ending numbers) strains h are stops following) before at is = let no = closing_bar are (marks.Ending numbers) refl in cc
plays_ruled (with_endings opened common rest endings (marks.Bar c o double) strains h are stops following) before at is =
    let strain = strain_with common endings in
    after_endings before at c o double common (endings_text endings) rest (all_placed (at + length common) endings) (strain_play at strain) (plays_from (at + length (text_of strain)) strains)
    (all_common_by_test before common (subst (λ b. AllPass (in_common b) common) is h))
    (endings_placed are (at + length common))
    (last_by_test c o double rest stops)
    (strain_played at (common ++ endings_text endings) strain refl)
    (plays_ruled following o (at + length (text_of strain)) refl)

pub by_the_rules : IsByTheRules
unfolding play_of
by_the_rules ms = plays_ruled (computed_reading ms) 0 0 refl

-- the endings that are at these places
record ReadEndings (at : ℕ) (others : List PlacedEnding) (text : List Mark) (closing : Option Mark) : Type 0 where
  endings : List Ending
  are : AreEndings endings closing
  places : others ≡ all_placed at endings
  whole : text ≡ endings_text endings

read_endings : {at : ℕ} {others : List PlacedEnding} {text : List Mark} {closing : Option Mark} → AreEndingsFrom at others text closing → ReadEndings at others text closing
read_endings (until_end at numbers body h) = record {
  endings = ended numbers body ∷ [];
  are = to_the_end numbers body (all_inside_tested body h);
  places = refl;
  whole = ap (λ l. marks.Ending numbers ∷ l) (sym (append-nil body));
}
read_endings (until_bar at numbers body bar h closes) = record {
  endings = ended numbers (body ++ bar ∷ []) ∷ [];
  are = to_a_bar numbers body bar (all_inside_tested body h) (closes_ending-tested bar closes);
  places = refl;
  whole = ap (λ l. marks.Ending numbers ∷ l) (sym (append-nil (body ++ bar ∷ [])));
}
read_endings (until_sign at numbers body text endings closing h following) =
    let rest = read_endings following in
    record {
      endings = ended numbers body ∷ rest.endings;
      are = another numbers body rest.endings closing (without_bar body (all_inside_tested body h)) rest.are;
      places = ap (λ l. placed_ending at numbers body ∷ l) rest.places;
      whole = ap (λ l. marks.Ending numbers ∷ (body ++ l)) rest.whole;
    }
read_endings (past_bar at numbers closes double body gap text endings closing h is singles following) =
    let rest = read_endings following in
    let bar = marks.Bar closes 0 double in
    let run = body ++ bar ∷ gap in
    record {
      endings = ended numbers run ∷ rest.endings;
      are = another numbers run rest.endings closing (with_bar body gap bar (all_inside_tested body h) (closes_ending-tested bar is) refl (all_between_tested gap singles)) rest.are;
      places = ap (λ l. placed_ending at numbers run ∷ l) rest.places;
      whole = ap (λ l. marks.Ending numbers ∷ (run ++ l)) rest.whole;
    }

-- the strains that are played so
record ReadPlay (before at : ℕ) (ms : List Mark) (play : List ℕ) : Type 0 where
  strains : List Strain
  are : IsStrains (ltb 0 before) ms strains
  is : play ≡ plays_from at strains

read_play : {before at : ℕ} {ms : List Mark} {play : List ℕ} → IsPlayFrom before at ms play → ReadPlay before at ms play
read_play (ends_in_common before at common play h played) = record {
  strains = without_endings common ∷ [];
  are = last_common (ltb 0 before) common (all_common_tested before common h);
  is = strain_one at common (without_endings common) play (sym (append-nil common)) played ∙ sym (append-nil (strain_play at (without_endings common)));
}
read_play (ends_in_ending before at common text endings play h ends played) =
    let own = read_endings ends in
    let strain = strain_with common own.endings in
    let whole = ap (λ l. common ++ l) own.whole in
    record {
      strains = strain ∷ [];
      are = subst (λ l. IsStrains (ltb 0 before) l (strain ∷ [])) (sym whole) (last_endings (ltb 0 before) common own.endings (all_common_tested before common h) own.are);
      is = strain_one at (common ++ text) strain play whole (subst (λ l. IsStrainPlay at (common ++ text) common l play) own.places played) ∙ sym (append-nil (strain_play at strain));
    }
read_play (after_common before at c o double body rest play others h closes played following) =
    let more = read_play following in
    let bar = marks.Bar c o double in
    let common = body ++ bar ∷ [] in
    record {
      strains = without_endings common ∷ more.strains;
      are = common_part (ltb 0 before) body rest bar more.strains (all_common_tested before body h) (closes_common-tested before bar closes) more.are;
      is = ap (λ l. l ++ others) (strain_one at common (without_endings common) play (sym (append-nil common)) played)
          ∙ ap (λ l. strain_play at (without_endings common) ++ l) more.is
          ∙ ap (λ l. strain_play at (without_endings common) ++ plays_from (at + length l) more.strains) (sym (append-nil common));
    }
read_play (after_endings before at c o double common text rest endings play others h ends stops played following) =
    let own = read_endings ends in
    let more = read_play following in
    let strain = strain_with common own.endings in
    let whole = ap (λ l. common ++ l) own.whole in
    record {
      strains = strain ∷ more.strains;
      are = subst (λ l. IsStrains (ltb 0 before) (l ++ rest) (strain ∷ more.strains)) (sym whole)
          (with_endings (ltb 0 before) common rest own.endings (marks.Bar c o double) more.strains (all_common_tested before common h) own.are (goes_on-last c o double rest stops) more.are);
      is = ap (λ l. l ++ others) (strain_one at (common ++ text) strain play whole (subst (λ l. IsStrainPlay at (common ++ text) common l play) own.places played))
          ∙ ap (λ l. strain_play at strain ++ l) more.is
          ∙ ap (λ l. strain_play at strain ++ plays_from (at + length l) more.strains) whole;
    }

pub no_other_play : HasNoOtherPlay
unfolding play_of
no_other_play ms play h = let read = read_play h in read.is ∙ ap (plays_from 0) (sym (reading_computed read.are))
