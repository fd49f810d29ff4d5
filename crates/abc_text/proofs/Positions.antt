-- The first byte that bstr finds is at the position of std.
use Rattle.std.proofs.Common.{◌≡◌, ℕ, ◌<◌, ◌≤◌, Bool, true, false, ◌==◌, List, length, slice_index, get_or, Option, Some, None, refl, sym, ap, ◌∙◌, arith}
use Rattle.std.specs.List.{position, position_or_len}
use Rattle.std.proofs.lemmas.Bool.{cond-true, cond-false, lt-ltb, le-ltb}
use Rattle.std.proofs.lemmas.List.Sums.{position_or_len_is}
use Rattle.std.proofs.lemmas.Grind.{get_or_default_zero}
use Rattle.bstr.specs.Find.{IsFirstByte, Nowhere, Passes, is_byte}

not_true : (b : Bool) → ¬ (b ≡ true) → b ≡ false
not_true true e = absurd (e refl)
not_true false e = refl

-- Before a place up to which the byte has not come, no byte passes.
none_before : (byte at : ℕ) (text : List ℕ) → Nowhere (Passes (is_byte byte) text) 0 at → at ≤ length text → (k : ℕ) → k < at → (get_or text k 0 == byte) ≡ false
none_before byte at text before inside k below =
    ap (λ b. b == byte) (get_or_default_zero text k 0 (omega (arith, below, inside)))
    ∙ not_true (slice_index text k == byte) (before k (omega arith) below)

position_found : (byte at : ℕ) (text : List ℕ) → IsFirstByte (is_byte byte) text (Some at) → Some at ≡ position (λ b. b == byte) text
position_found byte at text is =
    let inside : at < length text = omega (arith, is.0.high) in
    let place : position_or_len (λ b. b == byte) text ≡ at =
    position_or_len_is (λ b. b == byte) text at 0 (omega (arith, inside)) (none_before byte at text is.0.before (omega (arith, inside)))
    (λ _. ap (λ b. b == byte) (get_or_default_zero text at 0 inside) ∙ is.1) in
    let within : position_or_len (λ b. b == byte) text < length text = omega (arith, place, inside) in
    ap Some (sym place) ∙ sym (cond-true _ _ _ (lt-ltb _ _ within))

position_none : (byte : ℕ) (text : List ℕ) → IsFirstByte (is_byte byte) text None → None ≡ position (λ b. b == byte) text
position_none byte text is =
    let place : position_or_len (λ b. b == byte) text ≡ length text =
    position_or_len_is (λ b. b == byte) text (length text) 0 (omega arith) (none_before byte (length text) text is (omega arith))
    (λ within. absurd (omega (arith, within))) in
    let past : length text ≤ position_or_len (λ b. b == byte) text = omega (arith, place) in
    sym (cond-false _ _ _ (le-ltb _ _ past))

-- What bstr answers for a byte is its position.
pub position_of : (byte : ℕ) (text : List ℕ) (found : Option ℕ) → IsFirstByte (is_byte byte) text found → found ≡ position (λ b. b == byte) text
position_of byte text None is = position_none byte text is
position_of byte text (Some at) is = position_found byte at text is
