-- Copies of the end of a list, put after it.
use Rattle.std.proofs.Common.{◌≡◌, ℕ, zero, suc, ◌+◌, ◌-◌, ◌<◌, ◌≤◌, List, [], ◌++◌, length, take, drop, replicate, refl, sym, ap, ◌∙◌, arith, length-append, length-drop, append_assoc, append-nil}
use Rattle.std.specs.List.{concat, slice_range}
use Rattle.std.proofs.lemmas.List.{take-append-drop, take_all, take_at, drop_all, drop-append-le}

-- one copy of the end
pub copies_once : (begin : ℕ) (xs : List ℕ) → xs ≡ take begin xs ++ (drop begin xs ++ [])
copies_once begin xs = sym (take-append-drop begin xs) ∙ ap (λ l. take begin xs ++ l) (sym (append-nil (drop begin xs)))

-- no copy
nothing_copied : (n : ℕ) → concat (replicate n []) ≡ []
nothing_copied zero = refl
nothing_copied (suc n) = nothing_copied n

pub copies_none : (begin n : ℕ) (xs : List ℕ) → length xs ≤ begin → xs ≡ take begin xs ++ concat (replicate n (drop begin xs))
copies_none begin n xs past =
    sym (ap (λ l. take begin xs ++ concat (replicate n l)) (drop_all begin xs past) ∙ ap (λ l. take begin xs ++ l) (nothing_copied n) ∙ append-nil (take begin xs) ∙ take_all begin xs past)

-- some copies begin with the list
copies_front : (begin n : ℕ) (xs : List ℕ) → take begin xs ++ concat (replicate (suc n) (drop begin xs)) ≡ xs ++ concat (replicate n (drop begin xs))
copies_front begin n xs =
    sym (append_assoc (take begin xs) (drop begin xs) (concat (replicate n (drop begin xs)))) ∙ ap (λ l. l ++ concat (replicate n (drop begin xs))) (take-append-drop begin xs)

pub copies_long : (begin n : ℕ) (xs items : List ℕ) → 0 < n → items ≡ take begin xs ++ concat (replicate n (drop begin xs)) → length xs ≤ length items
copies_long begin zero xs items some is = absurd (omega arith)
copies_long begin (suc n) xs items some is =
    omega (arith, ap length (is ∙ copies_front begin n xs), length-append xs (concat (replicate n (drop begin xs))))

-- one copy more
copy_after : (n : ℕ) (end : List ℕ) → concat (replicate (suc n) end) ≡ concat (replicate n end) ++ end
copy_after zero end = append-nil end
copy_after (suc n) end = ap (λ l. end ++ l) (copy_after n end) ∙ sym (append_assoc end (concat (replicate n end)) end)

end_range : (begin : ℕ) (xs more : List ℕ) → begin ≤ length xs → slice_range (xs ++ more) begin (length xs) ≡ drop begin xs
end_range begin xs more inside =
    ap (take (length xs - begin)) (drop-append-le begin xs more inside) ∙ take_at (drop begin xs) more (length xs - begin) (length-drop begin xs)

pub copies_more : (begin end n : ℕ) (xs items : List ℕ) → begin ≤ length xs → end ≡ length xs → 0 < n → items ≡ take begin xs ++ concat (replicate n (drop begin xs))
    → items ++ slice_range items begin end ≡ take begin xs ++ concat (replicate (n + 1) (drop begin xs))
copies_more begin end zero xs items inside ends some is = absurd (omega arith)
copies_more begin end (suc n) xs items inside ends some is =
    let whole = is ∙ copies_front begin n xs in
    let range : slice_range items begin end ≡ drop begin xs =
    ap (slice_range items begin) ends ∙ ap (λ l. slice_range l begin (length xs)) whole ∙ end_range begin xs (concat (replicate n (drop begin xs))) inside in
    let one : suc (suc n) ≡ suc n + 1 = omega arith in
    ap (λ l. items ++ l) range
    ∙ ap (λ l. l ++ drop begin xs) is
    ∙ append_assoc (take begin xs) (concat (replicate (suc n) (drop begin xs))) (drop begin xs)
    ∙ ap (λ l. take begin xs ++ l) (sym (copy_after (suc n) (drop begin xs)) ∙ ap (λ k. concat (replicate k (drop begin xs))) one)
