-- The file of a number is that of the tune that owns it.
use Rattle.std.proofs.Common.{◌≡◌, ℕ, ◌+◌, ◌==◌, ◌&&◌, Bool, true, false, cond, List, [], ◌∷◌, ◌++◌, Option, Some, slice_get, is_some, length, refl, sym, ap, ap₂, ◌∙◌}
use Rattle.std.proofs.Common.{append_assoc, length-append}
use Rattle.std.specs.Prelude.{option_and_then}
use Rattle.abc_fold.specs.Steps.{Steps}
use Rattle.abc_lines.specs.Text.{Text}
use Rattle.abc_live_index.specs.Owners.{owner_by}
use Rattle.abc_live_session.specs.Owner.{owner_of, tune_file}
use Rattle.abc_live_session.proofs.Books.{file_of_first}
use Rattle.abc_tune_compiler.specs.Book.{blocks_in, book_of, compiled_text_of}
use Rattle.abc_tune_compiler.specs.Files.{file_at, first_file}
use Rattle.abc_tune_compiler.specs.Rules.{Rules}
use Rattle.abc_tune_compiler.specs.Tune.{Tune}

-- the first element after others is at their number
at_seam : (before : List Tune) (one : Tune) (rest : List Tune) → slice_get (before ++ one ∷ rest) (length before) ≡ Some one
at_seam [] one rest = refl
at_seam (other ∷ before) one rest = at_seam before one rest

module _ (n : ℕ) where
  abbrev owner_from : ℕ → List Tune → Option ℕ
  owner_from at tunes = owner_by (λ (tune : Tune). tune.number) (λ (tune : Tune). tune.bytes) at tunes n

  by_test : (all rest : List Tune) (at : ℕ) (one : Tune) (owns : Bool) (later : Option ℕ) → slice_get all at ≡ Some one → tune_file all later ≡ first_file rest n
      → tune_file all (cond owns (Some at) later) ≡ cond owns one.bytes (first_file rest n)
  by_test all rest at one true later here is = ap (option_and_then (λ (tune : Tune). tune.bytes)) here
  by_test all rest at one false later here is = is

  -- the first of some tunes that has the file, after tunes without it
  first_owner_file : (before tunes : List Tune) → tune_file (before ++ tunes) (owner_from (length before) tunes) ≡ first_file tunes n
  first_owner_file before [] = refl
  first_owner_file before (one ∷ rest) =
      let later = ap₂ (λ (all : List Tune) (at : ℕ). tune_file all (owner_from at rest)) (sym (append_assoc before (one ∷ []) rest)) (sym (length-append before (one ∷ []))) in
      by_test (before ++ one ∷ rest) rest (length before) one ((one.number == n) && is_some one.bytes) (owner_from (length before + 1) rest) (at_seam before one rest)
      (later ∙ first_owner_file (before ++ one ∷ []) rest)

  -- the file of a number is that of its owner
  pub file_of_owner : {State Cell Items Defaults : Type 0} (steps : Steps State Cell Items) (rules : Rules State Cell Items Defaults) (text : Text)
      → let tunes = (compiled_text_of steps.next steps.gives rules text (blocks_in rules text)).tunes in
      file_at (book_of steps rules text).files n ≡ tune_file tunes (owner_of tunes n)
  file_of_owner steps rules text =
      let tunes = (compiled_text_of steps.next steps.gives rules text (blocks_in rules text)).tunes in
      file_of_first steps rules text n ∙ sym (first_owner_file [] tunes)
