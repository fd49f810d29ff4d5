-- The cells of a tune in the lines of its text.
use Rattle.std.proofs.Common.{◌≡◌, ℕ, zero, suc, ◌+◌, ◌-◌, ◌<◌, ◌≤◌, List, [], ◌∷◌, ◌++◌, length, drop, take, map, Option, Some, None, slice_get, refl, sym}
use Rattle.std.proofs.Common.{ap, ◌∙◌, arith}
use Rattle.std.specs.List.{cons_option}
use Rattle.std.specs.Option.{option_map}
use Rattle.std.proofs.lemmas.List.{drop_all, length-map, take_all}
use Rattle.std.proofs.lemmas.Option.{none-some, same_Some, slice_get-map, slice_get_within}
use Rattle.abc_lines.specs.Text.{Text}
use Rattle.abc_live_index.proofs.Lists.{one_on, past}
use Rattle.abc_live_text.specs.KeptText.{AreRows}
use Rattle.abc_live_text.specs.Row.{Row, row_cells}
use Rattle.abc_scan.specs.declared.spanned.Spanned.{Spanned}
use Rattle.abc_scan.specs.declared.token.TokenKind.{TokenKind}
use Rattle.abc_tune.specs.Abc.{cells_in, rules_of_abc}
use Rattle.abc_tune_compiler.specs.Placed.{Placed, cells_from, placed_at}
use Rattle.abc_play.specs.Places.{row_places}

-- the cells of the lines from one to another
abbrev pub cells_along : Text → ℕ → ℕ → List (Placed (List (Spanned TokenKind)))
cells_along text at to = cells_from cells_in (at + 1) (take (to - at) (drop at text))

take_one : {X : Type 0} (n m : ℕ) (x : X) (xs : List X) → n ≡ suc m → take n (x ∷ xs) ≡ x ∷ take m xs
take_one n m x xs is = ap (λ k. take k (x ∷ xs)) is

-- those of one more line
cells_along-line : (text : Text) (at to : ℕ) (line : List ℕ) → at < to → slice_get text at ≡ Some line
    → cells_along text at to ≡ map (placed_at (at + 1)) (cells_in line) ++ cells_along text (at + 1) to
cells_along-line text at to line before is =
    ap (λ l. cells_from cells_in (at + 1) (take (to - at) l)) (one_on text at line is)
    ∙ ap (cells_from cells_in (at + 1)) (take_one (to - at) (to - (at + 1)) line (drop (at + 1) text) (omega (arith, before)))

pub cells_along-none : (text : Text) (at to : ℕ) → length text ≤ at → cells_along text at to ≡ []
cells_along-none text at to over =
    ap (λ l. cells_from cells_in (at + 1) (take (to - at) l)) (drop_all at text over)
    ∙ ap (cells_from cells_in (at + 1)) (take_all (to - at) [] (omega arith))

pub cells_along-end : (text : Text) (at to : ℕ) → to ≤ at → cells_along text at to ≡ []
cells_along-end text at to over =
    let none : to - at ≡ 0 = omega (arith, over) in
    ap (λ n. cells_from cells_in (at + 1) (take n (drop at text))) none

pub mapped : {A B : Type 0} (f : A → B) (o : Option A) (y : B) → option_map f o ≡ Some y → (x : A) × (o ≡ Some x) × (y ≡ f x)
mapped f None y e = absurd (none-some y e)
mapped f (Some x) y e = (x, refl, sym (same_Some (f x) y e))

module _ (text : Text) (rows : List (Row (List (Spanned TokenKind)))) (are : AreRows rules_of_abc text rows) where
  -- a row has the cells of its line
  row_is : (at : ℕ) (row : Row (List (Spanned TokenKind))) → slice_get rows at ≡ Some row
      → (line : List ℕ) × (slice_get text at ≡ Some line) × (row.cells ≡ cells_in line)
  row_is at row is =
      mapped cells_in (slice_get text at) row.cells (sym (slice_get-map cells_in text at)
      ∙ sym (ap (λ l. slice_get l at) are.cells) ∙ slice_get-map row_cells rows at ∙ ap (option_map row_cells) is)

  -- after a row, the cells are those of one more line
  on_row : (at to : ℕ) (row : Row (List (Spanned TokenKind))) → at < to → slice_get rows at ≡ Some row
      → cells_along text at to ≡ map (placed_at (at + 1)) row.cells ++ cells_along text (at + 1) to
  on_row at to row before is =
      let line = row_is at row is in
      cells_along-line text at to line.0 before line.1
      ∙ ap (λ cells. map (placed_at (at + 1)) cells ++ cells_along text (at + 1) to) (sym line.2)

  same_length : length rows ≡ length text
  same_length = sym (length-map rows row_cells) ∙ ap length are.cells ∙ length-map text cells_in

  -- there are no more rows than lines
  pub few_rows : length rows ≤ length text
  few_rows = let same = same_length in omega (arith, same)

  -- after the last row there are none
  no_row : (at : ℕ) → slice_get rows at ≡ None → length text ≤ at
  no_row at is = let over = past rows at is in omega (arith, over, same_length)

  by_row : (at to : ℕ) (found : Option (Row (List (Spanned TokenKind)))) → at < to → slice_get rows at ≡ found
      → cells_along text at to ≡ row_places (at + 1) found ++ cells_along text (at + 1) to
  by_row at to None before is =
      let over = no_row at is in
      cells_along-none text at to over ∙ sym (cells_along-none text (at + 1) to (omega (arith, over)))
  by_row at to (Some row) before is = on_row at to row before is

  -- the cells of the line at a place, and of those after it
  pub cells_along-one : (at to : ℕ) → at < to → cells_along text at to ≡ row_places (at + 1) (slice_get rows at) ++ cells_along text (at + 1) to
  cells_along-one at to before = by_row at to (slice_get rows at) before refl

-- a row is at a place before the end
pub row_within : (rows : List (Row (List (Spanned TokenKind)))) (at : ℕ) (row : Row (List (Spanned TokenKind))) → Some row ≡ slice_get rows at → at < length rows
row_within rows at row is = slice_get_within rows at row (sym is)

from_here : {X : Type 0} (xs : List X) (i : ℕ) → drop i xs ≡ cons_option (slice_get xs i) [] ++ drop (suc i) xs
from_here [] zero = refl
from_here [] (suc i) = refl
from_here (x ∷ xs) zero = refl
from_here (x ∷ xs) (suc i) = from_here xs i

-- the element at a place, and those after it
pub drop-one : {X : Type 0} (xs : List X) (i : ℕ) → drop i xs ≡ cons_option (slice_get xs i) [] ++ drop (i + 1) xs
drop-one xs i =
    let next : suc i ≡ i + 1 = omega arith in
    from_here xs i ∙ ap (λ (n : ℕ). cons_option (slice_get xs i) [] ++ drop n xs) next
