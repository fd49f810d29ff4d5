-- Laws of lines that cannot be in a text.
use Rattle.std.proofs.Common.{◌≡◌, ◌≢◌, ℕ, ◌+◌, ◌-◌, ◌<◌, ◌≤◌, ◌&&◌, ◌==◌, Bool, true, false, not, cond, nat_le, ◌++◌}
use Rattle.std.proofs.Common.{Some, None, Ok, Err, inl, inr, length, take, drop, refl, sym, ap, ◌∙◌, subst, arith, length-append, length-take}
use Rattle.std.specs.Option.{unwrap_or}
use Rattle.std.specs.Prelude.{◌⊎◌}
use Rattle.std.proofs.lemmas.List.{length-drop}
use Rattle.std.specs.List.{list_all}
use Rattle.std.proofs.lemmas.Bool.Decides.{nat_tests}
use Rattle.abc_lines.specs.declared.limits.TheConstants.{MOST_LINES}
use Rattle.abc_lines.specs.Edits.{Refuses, edited, insertion, replaced, replacement}
use Rattle.abc_lines.specs.Text.{Splice, Text, is_line, spliced}
use Rattle.abc_lines.specs.declared.edit_error.EditError.TheVariants.{BadLine, BadRange, OutOfMemory, TooLarge}
use Rattle.abc_lines.specs.Limits.{limit_error}

-- lines that are not in the text
pub outside : (text : Text) (s : Splice) → length text < s.at + s.removed → replaced text s ≡ Err BadRange
unfolding replaced
outside text s beyond =
    let fails : nat_le (s.at + s.removed) (length text) ≡ false = grind (arith, nat_tests) in
    ap (λ b. cond (not b) (Err BadRange) (cond (not (list_all is_line s.lines)) (Err BadLine) (cond (not (nat_le (length (spliced text s)) MOST_LINES)) (Err TooLarge) (Ok (spliced text s))))) fails

-- the reason by the two tests
by_tests : (proper few : Bool) (text : Text)
    → Refuses (unwrap_or (cond (not proper) (Some BadLine) (cond (not few) (Some TooLarge) None)) OutOfMemory) (cond (not proper) (Err BadLine) (cond (not few) (Err TooLarge) (Ok text)))
by_tests false few text = inl refl
by_tests true false text = inl refl
by_tests true true text = inr (refl, refl)

length_spliced : (text : Text) (s : Splice) → s.at + s.removed ≤ length text → length (spliced text s) ≡ length text - s.removed + length s.lines
unfolding spliced
length_spliced text s inside =
    let whole = length-append (take s.at text ++ s.lines) (drop (s.at + s.removed) text) in
    let rest = length-append (take s.at text) s.lines in
    let front = length-take s.at text in
    let after = length-drop (s.at + s.removed) text in
    let sum : length (take s.at text ++ s.lines) + length (drop (s.at + s.removed) text) ≡ length text - s.removed + length s.lines = omega (arith, rest, front, after, inside) in
    whole ∙ sum

-- the reason of lines that are in the text
pub refuses_lines : (text : Text) (s : Splice) → s.at + s.removed ≤ length text
    → Refuses (unwrap_or (limit_error (list_all is_line s.lines) (length text - s.removed + length s.lines)) OutOfMemory) (replaced text s)
unfolding limit_error replaced
refuses_lines text s inside =
    let holds : nat_le (s.at + s.removed) (length text) ≡ true = grind (arith, nat_tests) in
    let proper = list_all is_line s.lines in
    subst
    (λ (t : Bool × ℕ). Refuses (unwrap_or (cond (not proper) (Some BadLine) (cond (not (nat_le t.1 MOST_LINES)) (Some TooLarge) None)) OutOfMemory)
    (cond (not t.0) (Err BadRange) (cond (not proper) (Err BadLine) (cond (not (nat_le (length (spliced text s)) MOST_LINES)) (Err TooLarge) (Ok (spliced text s))))))
    (λ i. (sym holds i, length_spliced text s inside i))
    (by_tests proper (nat_le (length (spliced text s)) MOST_LINES) (spliced text s))

-- The splices that edits name.
pub insertion_none : (text : Text) (at : ℕ) (lines : Text) → at ≡ 0 → edited text (insertion at lines) ≡ Err BadRange
unfolding edited
insertion_none text at lines first = ap (λ n. edited text (insertion n lines)) first

pub insertion_at : (text : Text) (at : ℕ) (lines : Text) → at ≢ 0 → edited text (insertion at lines) ≡ replaced text (record { at = at - 1; removed = 0; lines = lines })
unfolding edited
insertion_at text at lines later =
    let counted : (at == 0) ≡ false = grind (arith, nat_tests) in
    ap (λ b. edited text (cond b None (Some (record { at = at - 1; removed = 0; lines = lines })))) counted

pub replacement_none : (text : Text) (from to : ℕ) (lines : Text) → (nat_le 1 from && nat_le from to) ≡ false → edited text (replacement from to lines) ≡ Err BadRange
unfolding edited
replacement_none text from to lines none = ap (λ b. edited text (cond b (Some (record { at = from - 1; removed = to + 1 - from; lines = lines })) None)) none

pub replacement_at : (text : Text) (from to : ℕ) (lines : Text) → (nat_le 1 from && nat_le from to) ≡ true
    → edited text (replacement from to lines) ≡ replaced text (record { at = from - 1; removed = to + 1 - from; lines = lines })
unfolding edited
replacement_at text from to lines some = ap (λ b. edited text (cond b (Some (record { at = from - 1; removed = to + 1 - from; lines = lines })) None)) some

both_false : (b : Bool) → (b && false) ≡ false
both_false true = refl
both_false false = refl

-- a range that names no lines
pub no_range : (from to : ℕ) → (from ≡ 0) ⊎ ((from ≡ 0 → ⊥) × (to < from)) → (nat_le 1 from && nat_le from to) ≡ false
no_range from to (inl first) =
    let none : nat_le 1 from ≡ false = grind (arith, nat_tests, first) in
    ap (λ b. b && nat_le from to) none
no_range from to (inr (counted, backwards)) =
    let none : nat_le from to ≡ false = grind (arith, nat_tests, backwards) in
    ap (λ b. nat_le 1 from && b) none ∙ both_false (nat_le 1 from)
