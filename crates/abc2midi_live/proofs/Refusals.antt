-- Laws of lines that are no text.
use Rattle.std.proofs.Common.{◌≡◌, ◌+◌, Bool, true, false, not, cond, nat_le, []}
use Rattle.std.proofs.Common.{◌++◌, Some, None, Ok, Err, length, refl, sym, ap, ◌∙◌, arith, append-nil}
use Rattle.std.specs.List.{list_all}
use Rattle.std.specs.Result.{result_err}
use Rattle.abc_lines.specs.declared.limits.TheConstants.{MOST_LINES}
use Rattle.abc_lines.specs.Text.{Text, is_line, spliced}
use Rattle.abc_lines.specs.Limits.{limit_error}
use Rattle.abc_lines.specs.Edits.{edited, insertion, replaced}
use Rattle.abc_lines.specs.declared.edit_error.EditError.TheVariants.{BadLine, TooLarge}

-- An insertion into a text without lines is refused if the lines are no text.
same_refusal : (proper few : Bool) (text : Text) → cond (not proper) (Some BadLine) (cond (not few) (Some TooLarge) None)
    ≡ result_err (cond (not proper) (Err BadLine) (cond (not few) (Err TooLarge) (Ok text)))
same_refusal false few text = refl
same_refusal true false text = refl
same_refusal true true text = refl

pub refused_book : (lines : Text) → limit_error (list_all is_line lines) (0 + length lines) ≡ result_err (edited [] (insertion 1 lines))
unfolding limit_error edited replaced spliced
refused_book lines =
    let counts : 0 + length lines ≡ length lines = omega arith in
    ap (limit_error (list_all is_line lines)) counts
    ∙ ap (λ t. limit_error (list_all is_line lines) (length t)) (sym (append-nil lines))
    ∙ same_refusal (list_all is_line lines) (nat_le (length (lines ++ [])) MOST_LINES) (lines ++ [])
