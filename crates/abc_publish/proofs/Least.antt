-- What has neither a slot nor a file is not wanted; the least of rising numbers from one on.
use Rattle.std.proofs.Common.{◌≡◌, ℕ, ◌<◌, ◌≤◌, ◌==◌, cond, true, false, ◌&&◌, List, [], ◌∷◌, Option, Some, None, is_none}
use Rattle.std.proofs.Common.{is_some, true≢false, refl, sym, ap, subst, ◌∙◌, arith, All, ltb, IfSome, MatchOption}
use Rattle.std.specs.Prelude.{⊤, option_copied}
use Rattle.std.specs.Slice.{IsItemAt}
use Rattle.std.proofs.Common.{Bor}
use Rattle.std.proofs.lemmas.List.Sorted.{IsNonDecreasingBy-from_all_adjacent}
use Rattle.std.proofs.lemmas.Grind.{elements}
use Rattle.std.proofs.lemmas.Bool.Decides.{nat_tests}
use Rattle.std.proofs.lemmas.List.Elements.{All-head, All-tail}
use Rattle.std.specs.List.Sorted.{IsNonDecreasingBy, IsPartitionPoint, IsStrictlyIncreasing}
use Rattle.std.specs.Map.{keys_of}
use Rattle.abc_publish.specs.Publisher.{SlotView, Slots, differs, slot_at, stored_of, job_bytes_of, maps_of, is_wanted}
use Rattle.abc_tune_compiler.specs.Files.{Files, file_at}

pub no_file : (files : Files) (n : ℕ) → All (λ m. (m == n) ≡ false) (keys_of files) → file_at files n ≡ None
no_file [] n other = refl
no_file (file ∷ files) n other =
    let rest = no_file files n (All-tail (λ m. (m == n) ≡ false) file.0 (keys_of files) other) in
    ap (λ b. cond b (Some file.1) (file_at files n)) (All-head (λ m. (m == n) ≡ false) file.0 (keys_of files) other) ∙ rest

unwanted : (slot : Option SlotView) (file : Option (List ℕ)) → slot ≡ None → file ≡ None → (differs (stored_of slot) file && is_none (job_bytes_of slot)) ≡ false
unwanted None None s f = refl
unwanted None (Some file) s f = absurd (true≢false (ap is_some f))
unwanted (Some slot) file s f = absurd (true≢false (ap is_some s))

pub nothing_there : (slots : Slots) (files : Files) (numbers : List ℕ) (n : ℕ) → numbers ≡ keys_of files → slot_at slots n ≡ None
    → All (λ m. (m == n) ≡ false) numbers → is_wanted (maps_of slots) files n ≡ false
nothing_there slots files numbers n are slot other =
    unwanted (slot_at slots n) (file_at files n) slot (no_file files n (subst (All (λ m. (m == n) ≡ false)) are other))

-- rising numbers do not fall
pub rising : (xs : List ℕ) → IsStrictlyIncreasing xs → IsNonDecreasingBy (λ x. x) xs
rising xs rise = IsNonDecreasingBy-from_all_adjacent (λ x. x) xs (λ k d inside. let r = rise k inside in grind (arith, elements))

-- the number that is where those below at end is the least from at on
pub reached : (xs : List ℕ) (at i : ℕ) (r : Option (Bor ℕ)) (m : Option ℕ)
    → IsPartitionPoint (λ y. ltb y at ≡ true) (λ y. ltb y at ≡ false) xs i → IsItemAt xs i r → m ≡ option_copied r → IfSome m (λ m. at ≤ m)
reached xs at i None m point item is = subst (λ m. IfSome m (λ m. at ≤ m)) (sym is) tt
reached xs at i (Some r) m point item is =
    let f = point.1 i r.now in
    let e : at ≤ r.now = grind (arith, elements, nat_tests) in
    subst (λ m. IfSome m (λ m. at ≤ m)) (sym is) e

passed_at : (xs : List ℕ) (at i : ℕ) (r : Option (Bor ℕ)) → IsNonDecreasingBy (λ x. x) xs → IsPartitionPoint (λ y. ltb y at ≡ true) (λ y. ltb y at ≡ false) xs i → IsItemAt xs i r
    → (n : ℕ) → at ≤ n → MatchOption (option_copied r) ⊤ (λ m. n < m) → All (λ m. (m == n) ≡ false) xs
passed_at xs at i None rise point item n from below k d inside = let f = point.0 k d in grind (arith, elements, nat_tests)
passed_at xs at i (Some r) rise point item n from below k d inside = let f = point.0 k d in let g = rise i k d in grind (arith, elements, nat_tests)

pub passed : (xs : List ℕ) (at i : ℕ) (r : Option (Bor ℕ)) (m : Option ℕ) → IsNonDecreasingBy (λ x. x) xs
    → IsPartitionPoint (λ y. ltb y at ≡ true) (λ y. ltb y at ≡ false) xs i → IsItemAt xs i r → m ≡ option_copied r
    → (n : ℕ) → at ≤ n → MatchOption m ⊤ (λ m. n < m) → All (λ m. (m == n) ≡ false) xs
passed xs at i r m rise point item is n from below = passed_at xs at i r rise point item n from (subst (λ m. MatchOption m ⊤ (λ m. n < m)) is below)
