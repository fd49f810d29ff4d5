-- Lemmas that the readers of numbers, bar lines, endings and marks share.
use Rattle.std.proofs.Common.{◌≡◌, ℕ, suc, ◌+◌, Bool, true, List, [], ◌∷◌, ◌++◌, length, take, drop, replicate, refl, sym, ap, ◌∙◌, inl, inr, ⊎_elim, arith, take-add, drop-drop, append_assoc}
use Rattle.std.proofs.Common.{length-take-le}
use Rattle.std.specs.Prelude.{◌==◌, ◌||◌, ◌⊎◌}
use Rattle.std.specs.List.{prefix_len, AllPass}
use Rattle.std.proofs.lemmas.Bool.{eqb-true, eq-eqb, or_cases, or_left, or_right}
use Rattle.std.proofs.lemmas.List.{length-replicate}
use Rattle.std.proofs.lemmas.List.Elements.{All-head, All-tail, All-replicate}
use Rattle.std.proofs.lemmas.List.Sums.{prefix_len-le-length}
use Rattle.abc_text.proofs.Fronts.{front_passes, front_append, take_exact}
use Rattle.abc_scan.proofs.Readings.{Covers}

pub one_more : (n : ℕ) → 1 + n ≡ suc n
one_more n = omega arith

pub take_one_more : (n b : ℕ) (bs : List ℕ) → take (1 + n) (b ∷ bs) ≡ b ∷ take n bs
take_one_more n b bs = ap (λ k. take k (b ∷ bs)) (one_more n)

-- one of two bytes
pub two_tested : (b m n : ℕ) → (b ≡ m) ⊎ (b ≡ n) → ((b == m) || (b == n)) ≡ true
two_tested b m n is = ⊎_elim (λ e. or_left (b == m) (b == n) (eq-eqb b m e)) (λ e. or_right (b == m) (b == n) (eq-eqb b n e)) is

pub two_known : (b m n : ℕ) → ((b == m) || (b == n)) ≡ true → (b ≡ m) ⊎ (b ≡ n)
two_known b m n tested = ⊎_elim (λ e. inl (eqb-true b m e)) (λ e. inr (eqb-true b n e)) (or_cases (b == m) (b == n) tested)

-- a front in three parts
pub cut_in_three : (a b c : ℕ) (xs : List ℕ) → take (a + b + c) xs ≡ take a xs ++ (take b (drop a xs) ++ take c (drop b (drop a xs)))
cut_in_three a b c xs =
    take-add (a + b) c xs ∙ (λ i. take-add a b xs i ++ take c (sym (drop-drop b a xs) i)) ∙ append_assoc (take a xs) (take b (drop a xs)) (take c (drop b (drop a xs)))

-- a list of the same byte
pub all_same : (byte : ℕ) (xs : List ℕ) → AllPass (λ b. b == byte) xs → xs ≡ replicate (length xs) byte
all_same byte [] all = refl
all_same byte (x ∷ xs) all = λ i. eqb-true x byte (All-head (λ b. (b == byte) ≡ true) x xs all) i ∷ all_same byte xs (All-tail (λ b. (b == byte) ≡ true) x xs all) i

pub same_pass : (n byte : ℕ) → AllPass (λ b. b == byte) (replicate n byte)
same_pass n byte = All-replicate (λ b. (b == byte) ≡ true) n byte (eq-eqb byte byte refl)

pub same_text : (byte : ℕ) (xs : List ℕ) → take (prefix_len (λ b. b == byte) xs) xs ≡ replicate (prefix_len (λ b. b == byte) xs) byte
same_text byte xs =
    let n = prefix_len (λ b. b == byte) xs in
    all_same byte (take n xs) (front_passes (λ b. b == byte) xs) ∙ ap (λ k. replicate k byte) (length-take-le n xs (prefix_len-le-length (λ b. b == byte) xs))

-- a front that passes a test is covered by the longest one
pub run_covers : (p : ℕ → Bool) (xs rest : List ℕ) → AllPass p xs → Covers (take (prefix_len p (xs ++ rest)) (xs ++ rest), prefix_len p (xs ++ rest)) xs xs
run_covers p xs rest all = let count = front_append p xs rest all in (omega (arith, count), λ e. sym (take_exact (prefix_len p (xs ++ rest)) xs rest (sym e)))

pub same_covers : (byte n : ℕ) (rest : List ℕ)
    → Covers (prefix_len (λ b. b == byte) (replicate n byte ++ rest), prefix_len (λ b. b == byte) (replicate n byte ++ rest)) (replicate n byte) n
same_covers byte n rest = let count = front_append (λ b. b == byte) (replicate n byte) rest (same_pass n byte) in (omega (arith, count), λ e. sym (length-replicate n byte) ∙ e)
