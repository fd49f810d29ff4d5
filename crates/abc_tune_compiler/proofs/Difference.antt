-- The report on two books lists exactly the numbers whose files differ.
use Rattle.std.proofs.Common.{◌≡◌, ◌≢◌, ℕ, ◌==◌, Bool, true, false, not, cond, List, [], ◌∷◌, Contains, Option, Some, None, IsSome, is_some, ◌↔◌, ◌⊎◌, inl, inr, refl, sym, ap, ◌∙◌, subst, eq-eqb}
use Rattle.std.proofs.lemmas.Bool.{false≢true}
use Rattle.std.specs.Map.{keys_of}
use Rattle.std.specs.Option.{option_eq}
use Rattle.std.specs.Str.{bytes_eq}
use Rattle.std.specs.List.Sorted.{IsStrictlyIncreasing}
use Rattle.std.proofs.lemmas.Slice.Eq.{bytes_eq-Decides}
use Rattle.std.proofs.lemmas.Option.{same_Some}
use Rattle.std.proofs.lemmas.Bool.Decides.{Decides-eqb}
use Rattle.std.proofs.lemmas.List.Kept.{IsStrictlyIncreasing-filter}
use Rattle.abc_tune_compiler.proofs.Members.{contains_cons, contains_head, contains_tail, contains_none, from_filter, to_filter}
use Rattle.abc_tune_compiler.specs.Files.{Files, file_at, written_numbers, removed_numbers, HasNewFile, HasLostFile}
use Rattle.abc_tune_compiler.specs.Report.{Reports}
use Rattle.abc_tune_compiler.specs.declared.report.Report.{Report}

-- the numbers of files are those that have a file
from_numbers_step : (file : ℕ × List ℕ) (files : Files) (n : ℕ) → (Contains (keys_of files) n → IsSome (file_at files n))
    → (b : Bool) → (file.0 == n) ≡ b → (file.0 ≡ n) ⊎ Contains (keys_of files) n → IsSome (cond b (Some file.1) (file_at files n))
from_numbers_step file files n rest true here cases = refl
from_numbers_step file files n rest false here (inl is) = absurd (false≢true (sym here ∙ eq-eqb file.0 n is))
from_numbers_step file files n rest false here (inr later) = rest later

pub from_numbers : (files : Files) (n : ℕ) → Contains (keys_of files) n → IsSome (file_at files n)
from_numbers [] n h = contains_none n h
from_numbers (file ∷ files) n h = from_numbers_step file files n (from_numbers files n) (file.0 == n) refl (contains_cons file.0 (keys_of files) n h)

to_numbers_step : (file : ℕ × List ℕ) (files : Files) (n : ℕ) → (IsSome (file_at files n) → Contains (keys_of files) n) → (b : Bool)
    → (file.0 == n) ≡ b → IsSome (cond b (Some file.1) (file_at files n)) → Contains (keys_of (file ∷ files)) n
to_numbers_step file files n rest true here has = contains_head file.0 (keys_of files) n ((Decides-eqb file.0 n).0 here)
to_numbers_step file files n rest false here has = contains_tail file.0 (keys_of files) n (rest has)

pub to_numbers : (files : Files) (n : ℕ) → IsSome (file_at files n) → Contains (keys_of files) n
to_numbers [] n h = absurd (false≢true h)
to_numbers (file ∷ files) n h = to_numbers_step file files n (to_numbers files n) (file.0 == n) refl h

-- what the tests of `written_numbers` and `removed_numbers` mean
differs : (a b : Option (List ℕ)) → not (option_eq bytes_eq a b) ≡ true → a ≢ b
differs None None t e = absurd (false≢true t)
differs None (Some y) t e = absurd cc
differs (Some x) None t e = absurd cc
differs (Some x) (Some y) t e = false≢true (sym (ap not ((bytes_eq-Decides x y).1 (same_Some x y e))) ∙ t)

tested : (x y : List ℕ) → Some x ≢ Some y → (b : Bool) → bytes_eq x y ≡ b → not b ≡ true
tested x y ne true same = absurd (ne (ap (λ z. Some z) ((bytes_eq-Decides x y).0 same)))
tested x y ne false same = refl

test_differs : (a b : Option (List ℕ)) → a ≢ b → not (option_eq bytes_eq a b) ≡ true
test_differs None None ne = absurd (ne refl)
test_differs None (Some y) ne = refl
test_differs (Some x) None ne = refl
test_differs (Some x) (Some y) ne = tested x y ne (bytes_eq x y) refl

none_from_test : (a : Option (List ℕ)) → not (is_some a) ≡ true → a ≡ None
none_from_test None t = refl
none_from_test (Some x) t = absurd (false≢true t)

-- a number is in `written_numbers` exactly if it has a file that is new or has other bytes
contains_written : (before after : Files) (n : ℕ) → Contains (written_numbers before after) n ↔ HasNewFile before after n
unfolding written_numbers
contains_written before after n = (
  (λ h. let kept = from_filter _ (keys_of after) n h in (from_numbers after n kept.0, differs (file_at before n) (file_at after n) kept.1)),
  λ has. to_filter _ (keys_of after) n (to_numbers after n has.0) (test_differs (file_at before n) (file_at after n) has.1),
)

contains_removed : (before after : Files) (n : ℕ) → Contains (removed_numbers before after) n ↔ HasLostFile before after n
unfolding removed_numbers
contains_removed before after n = (
  (λ h. let kept = from_filter _ (keys_of before) n h in (from_numbers before n kept.0, none_from_test (file_at after n) kept.1)),
  λ has. to_filter _ (keys_of before) n (to_numbers before n has.0) (ap (λ file. not (is_some file)) has.1),
)

-- both lists rise as the numbers of the files do
pub rising_written : (before after : Files) → IsStrictlyIncreasing (keys_of after) → IsStrictlyIncreasing (written_numbers before after)
unfolding written_numbers
rising_written before after rising = IsStrictlyIncreasing-filter _ (keys_of after) rising

pub rising_removed : (before after : Files) → IsStrictlyIncreasing (keys_of before) → IsStrictlyIncreasing (removed_numbers before after)
unfolding removed_numbers
rising_removed before after rising = IsStrictlyIncreasing-filter _ (keys_of before) rising

-- the meaning of the two lists of two books
pub reports : (before after : Files) (report : Report) → IsStrictlyIncreasing (keys_of before)
    → IsStrictlyIncreasing (keys_of after) → report.written.items ≡ written_numbers before after → report.removed.items ≡ removed_numbers before after → Reports before after report
reports before after report early late writes removes = record {
  writes = writes;
  removes = removes;
  new = λ n. subst (λ (numbers : List ℕ). Contains numbers n ↔ HasNewFile before after n) (sym writes) (contains_written before after n);
  lost = λ n. subst (λ (numbers : List ℕ). Contains numbers n ↔ HasLostFile before after n) (sym removes) (contains_removed before after n);
  writes_rise = subst IsStrictlyIncreasing (sym writes) (rising_written before after late);
  removes_rise = subst IsStrictlyIncreasing (sym removes) (rising_removed before after early);
}
