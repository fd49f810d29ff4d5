-- Edits that leave one line too many are refused by their lines alone.
use Rattle.std.proofs.Common.{◌≡◌, ℕ, ◌+◌, [], ◌∷◌, ◌++◌, Bool, true, false, not, length, cond, nat_le, Result, Ok, Err, codes}
use Rattle.std.proofs.Common.{ap, ap₂, ◌∙◌, length-append}
use Rattle.std.specs.List.{list_all}
use Rattle.abc_lines.specs.Text.{Text, is_line, spliced}
use Rattle.abc_lines.specs.Edits.{edited, insertion, replaced}
use Rattle.abc_lines.specs.declared.edit_error.EditError.{EditError}
use Rattle.abc_lines.specs.declared.edit_error.EditError.TheVariants.{BadLine, TooLarge}

-- lines before the one line of a text, judged by whether they are lines and by how many there are then
judged : Bool → ℕ → Text → Result Text EditError
judged proper count text = cond (not proper) (Err BadLine) (cond (not (nat_le count 1048576)) (Err TooLarge) (Ok text))

-- with the one line there is one more
one_more : (lines : Text) (n : ℕ) → length lines ≡ n → length (lines ++ codes "a" ∷ []) ≡ n + 1
one_more lines n count = length-append lines (codes "a" ∷ []) ∙ ap (λ k. k + 1) count

-- one line too many
pub edited-too_many : (lines : Text) → list_all is_line lines ≡ true → length lines ≡ 1048576 → edited (codes "a" ∷ []) (insertion 1 lines) ≡ Err TooLarge
unfolding edited replaced spliced judged
edited-too_many lines proper count =
    ap₂ (λ p n. judged p n (lines ++ codes "a" ∷ [])) proper (one_more lines 1048576 count)

-- as many lines as a text may have
pub edited-not_too_many : (lines : Text) → list_all is_line lines ≡ true → length lines ≡ 1048575 → edited (codes "a" ∷ []) (insertion 1 lines) ≡ Ok (lines ++ codes "a" ∷ [])
unfolding edited replaced spliced judged
edited-not_too_many lines proper count =
    ap₂ (λ p n. judged p n (lines ++ codes "a" ∷ [])) proper (one_more lines 1048575 count)

-- bytes that are no line are refused first, however many lines there are
pub edited-too_many_and_bad : (lines : Text) → list_all is_line lines ≡ false → edited (codes "a" ∷ []) (insertion 1 lines) ≡ Err BadLine
unfolding edited replaced spliced judged
edited-too_many_and_bad lines improper =
    ap (λ p. judged p (length (lines ++ codes "a" ∷ [])) (lines ++ codes "a" ∷ [])) improper

-- all three, for the example of large texts
pub ruleset large_texts = (edited-too_many, edited-not_too_many, edited-too_many_and_bad)
