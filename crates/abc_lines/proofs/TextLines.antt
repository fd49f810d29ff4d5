-- Laws of the lines of a text, and of lines that cannot be in one.
use Rattle.std.proofs.Common.{◌≡◌, ◌≢◌, ℕ, ◌+◌, ◌<◌, ◌≤◌, ◌&&◌, ◌==◌, Bool, true, false, not, cond, nat_le, List, [], ◌∷◌, ◌++◌}
use Rattle.std.proofs.Common.{Option, Some, length, map, All, refl, ap, ap₂, ◌∙◌, arith}
use Rattle.std.specs.List.{list_all, list_any, onto_first, slice_split}
use Rattle.std.specs.Global.{Vec}
use Rattle.std.proofs.lemmas.List.{map-append}
use Rattle.std.proofs.lemmas.List.Folds.{list_any_none}
use Rattle.std.proofs.lemmas.List.Splits.{slice_split_at, slice_split_none}
use Rattle.std.proofs.lemmas.Bool.Decides.{nat_tests}
use Rattle.abc_lines.specs.declared.limits.TheConstants.{LONGEST_LINE}
use Rattle.abc_lines.specs.declared.edit_error.EditError.{EditError}
use Rattle.abc_lines.specs.declared.edit_error.EditError.TheVariants.{BadLine}
use Rattle.abc_lines.specs.Text.{Text, is_line, text_of}
use Rattle.abc_lines.specs.Limits.{limit_error}
use Rattle.abc_lines.specs.TextLines.{lines_in, whole_lines}
use Rattle.abc_text.specs.Cut.{HasNoByte}

abbrev is_feed : ℕ → Bool
is_feed byte = byte == 10

not_true : (b : Bool) → not b ≡ true → b ≡ false
not_true true e = cc
not_true false e = refl

-- no byte of a line is a line feed
pub has_no_feed : (line : List ℕ) → HasNoByte 10 line → All (λ byte. is_feed byte ≡ false) line
has_no_feed line without = λ k d below. not_true _ (without k d below)

some_parts : (b : Bool) (x : ℕ) (parts : List (List ℕ)) → cond b ([] ∷ parts) (onto_first x parts) ≢ []
some_parts true x parts e = cc
some_parts false x [] e = cc
some_parts false x (part ∷ parts) e = cc

pub split_some : (bytes : List ℕ) → slice_split is_feed bytes ≢ []
split_some [] e = cc
split_some (b ∷ bytes) e = some_parts (is_feed b) b (slice_split is_feed bytes) e

pub whole_lines-more : (ended : Bool) (line : List ℕ) (parts : List (List ℕ)) → parts ≢ [] → whole_lines ended (line ∷ parts) ≡ line ∷ whole_lines ended parts
whole_lines-more ended line [] some = absurd (some refl)
whole_lines-more ended line (next ∷ more) some = refl

-- a line with its line feed, and the lines after it
pub lines_in-more : (bytes line rest : List ℕ) → HasNoByte 10 line → bytes ≡ line ++ 10 ∷ rest → lines_in bytes ≡ line ∷ lines_in rest
unfolding lines_in
lines_in-more bytes line rest without e =
    ap lines_in e
    ∙ ap (whole_lines true) (slice_split_at is_feed line 10 rest (has_no_feed line without) refl)
    ∙ whole_lines-more true line (slice_split is_feed rest) (split_some rest)

-- the last line
pub lines_in-last : (bytes : List ℕ) → HasNoByte 10 bytes → lines_in bytes ≡ whole_lines true (bytes ∷ [])
unfolding lines_in
lines_in-last bytes without = ap (whole_lines true) (slice_split_none is_feed bytes (has_no_feed bytes without))

-- the lines after one more came
pub text_of-push : (old new : Vec (Vec ℕ)) (line : Vec ℕ) → new.items ≡ old.items ++ line ∷ [] → text_of new ≡ text_of old ++ line.items ∷ []
text_of-push old new line e = ap (map (λ l. l.items)) e ∙ map-append (λ l. l.items) old.items (line ∷ [])

short_line : (line : List ℕ) → HasNoByte 10 line → length line ≤ LONGEST_LINE → is_line line ≡ true
short_line line without short =
    let fits : nat_le (length line) LONGEST_LINE ≡ true = grind (arith, nat_tests) in
    ap₂ (λ a b. a && not b) fits (list_any_none (λ b. b == 10) line (has_no_feed line without))

long_line : (line : List ℕ) → LONGEST_LINE < length line → is_line line ≡ false
long_line line long =
    let fails : nat_le (length line) LONGEST_LINE ≡ false = grind (arith, nat_tests) in
    ap (λ a. a && not (list_any (λ b. b == 10) line)) fails

last_line : (line : List ℕ) → 0 < length line → whole_lines true (line ∷ []) ≡ line ∷ []
last_line line some =
    let there : nat_le 1 (length line) ≡ true = grind (arith, nat_tests) in
    ap (λ b. cond b (line ∷ []) []) there

limit_error_of : ℕ → Text → Option EditError
limit_error_of count lines = limit_error (list_all is_line lines) (count + length lines)

-- a last line
pub refused_long : (count : ℕ) (line : List ℕ) → LONGEST_LINE < length line
    → limit_error (list_all is_line (whole_lines true (line ∷ []))) (count + length (whole_lines true (line ∷ []))) ≡ Some BadLine
unfolding limit_error limit_error_of
refused_long count line long =
    let some : 0 < length line = omega arith in
    ap (limit_error_of count) (last_line line some) ∙ ap (λ b. limit_error (b && true) (count + 1)) (long_line line long)

pub refused_short : (count : ℕ) (line : List ℕ) → HasNoByte 10 line → 0 < length line → length line ≤ LONGEST_LINE
    → limit_error (list_all is_line (whole_lines true (line ∷ []))) (count + length (whole_lines true (line ∷ []))) ≡ limit_error true (count + 1)
unfolding limit_error_of
refused_short count line without some short =
    ap (limit_error_of count) (last_line line some) ∙ ap (λ b. limit_error (b && true) (count + 1)) (short_line line without short)

-- the first of some lines
pub refused_first_long : (count : ℕ) (line : List ℕ) (more lines : Text) → lines ≡ line ∷ more → LONGEST_LINE < length line → limit_error (list_all is_line lines) (count + length lines) ≡ Some BadLine
unfolding limit_error limit_error_of
refused_first_long count line more lines e long =
    ap (limit_error_of count) e ∙ ap (λ b. limit_error (b && list_all is_line more) (count + length (line ∷ more))) (long_line line long)

pub refused_first_short : (count : ℕ) (line : List ℕ) (more lines : Text) → lines ≡ line ∷ more → HasNoByte 10 line → length line ≤ LONGEST_LINE
    → limit_error (list_all is_line lines) (count + length lines) ≡ limit_error (list_all is_line more) (count + 1 + length more)
unfolding limit_error_of
refused_first_short count line more lines e without short =
    let counts : count + length (line ∷ more) ≡ count + 1 + length more = omega arith in
    ap (limit_error_of count) e
    ∙ ap (λ b. limit_error (b && list_all is_line more) (count + length (line ∷ more))) (short_line line without short)
    ∙ ap (limit_error (list_all is_line more)) counts
