-- The file of a number in the book of a text, the numbers that have one, and the order of its faults.
use Rattle.std.proofs.Common.{◌≡◌, ℕ, ◌++◌, ◌==◌, ◌↔◌, true, Contains, IsSome, arith}
use Rattle.std.specs.Cmp.{IsEquivalence}
use Rattle.std.specs.List.{flat_map}
use Rattle.std.specs.List.Sorted.{IsStrictlySortedBy}
use Rattle.std.specs.Map.{keys_of}
use Rattle.std.proofs.lemmas.Bool.Decides.{nat_tests}
use Rattle.std.proofs.lemmas.Map.Views.{Contains-keys_from_lookup, IsSome-lookup_from_Contains}
use Rattle.abc_fold.specs.Steps.{Steps}
use Rattle.abc_lines.specs.Text.{Text}
use Rattle.abc_tune_compiler.specs.Book.{blocks_in, book_of, compiled_text_of}
use Rattle.abc_tune_compiler.specs.Fault.{fault_cmp}
use Rattle.abc_tune_compiler.specs.Files.{Files, file_at, first_file}
use Rattle.abc_tune_compiler.specs.Rules.{Rules}
use Rattle.abc_tune_compiler.specs.Tune.{Tune}
use Rattle.abc_tune_compiler.proofs.Order.{faults_rise}
use Rattle.abc_tune_compiler.proofs.Owners.{first_owner}

same_number : IsEquivalence (λ (n k : ℕ). k == n)
same_number = record { refl = λ n. grind (arith, nat_tests); symm = λ n k. grind (arith, nat_tests); congr = λ n k m same. grind (arith, nat_tests) }

eq_is_sound : (n k : ℕ) → (k == n) ≡ true → n ≡ k
eq_is_sound n k same = grind (arith, nat_tests)

-- the numbers of files are those that have a file
pub numbers_have_files : (files : Files) (n : ℕ) → Contains (keys_of files) n ↔ IsSome (file_at files n)
numbers_have_files files n = (IsSome-lookup_from_Contains same_number n files, Contains-keys_from_lookup eq_is_sound n files)

module _ {State Cell Items Defaults : Type 0} (steps : Steps State Cell Items) (rules : Rules State Cell Items Defaults) (text : Text) where
  -- it is that of the first tune of the number that has one
  pub file_of_first : (n : ℕ) → file_at (book_of steps rules text).files n ≡ first_file (compiled_text_of steps.next steps.gives rules text (blocks_in rules text)).tunes n
  unfolding book_of
  file_of_first n = first_owner (compiled_text_of steps.next steps.gives rules text (blocks_in rules text)).tunes n

  -- each fault is before those after it
  pub faults_in_order : IsStrictlySortedBy fault_cmp (book_of steps rules text).faults
  unfolding book_of
  faults_in_order =
      let given = compiled_text_of steps.next steps.gives rules text (blocks_in rules text) in
      faults_rise (given.faults ++ flat_map (λ (tune : Tune). tune.faults) given.tunes)
