-- Places one by one.
use Rattle.std.proofs.Common.{◌≡◌, ℕ, zero, suc, ◌+◌, ◌<◌, List, [], ◌∷◌, ◌++◌, drop, get_or, length, map, take, Option, Some, slice_get, refl, sym, ap, ◌∙◌, arith}
use Rattle.std.specs.Borrow.{Bor}
use Rattle.std.specs.Prelude.{filter_map}
use Rattle.std.proofs.lemmas.List.{take_more}
use Rattle.std.proofs.lemmas.List.Elements.{filter_map-append}
use Rattle.std.proofs.lemmas.Option.{none-some, same_Some}
use Rattle.abc_bars_items.specs.Item.{Items}
use Rattle.abc_scan.specs.declared.spanned.Spanned.{Spanned}
use Rattle.abc_scan.specs.declared.token.TokenKind.{TokenKind}
use Rattle.abc_tune_compiler.specs.Placed.{Placed}
use Rattle.abc_play.specs.declared.cells.LineCell.{LineCell}
use Rattle.abc_play.specs.Places.{cell_places, given_places, placed_cell, tune_places}

-- what is found at one element more
pub filter_map-one : {X Y : Type 0} (h : X → Option Y) (xs : List X) (i : ℕ) (x : X) → i < length xs
    → filter_map h (take (i + 1) xs) ≡ filter_map h (take i xs) ++ filter_map h (get_or xs i x ∷ [])
filter_map-one h xs i x within = ap (filter_map h) (take_more xs i x within) ∙ filter_map-append h (take i xs) (get_or xs i x ∷ [])

nothing_given : (cells : List (Placed (List (Spanned TokenKind)))) → tune_places cells [] ≡ []
nothing_given [] = refl
nothing_given (cell ∷ cells) = refl

after : (cells : List LineCell) (given : List (Bor Items)) (at : ℕ) (cell : LineCell) → slice_get cells at ≡ Some cell
    → tune_places (map placed_cell (drop at cells)) (map (λ (one : Bor Items). one.now) (drop at given))
    ≡ given_places (placed_cell cell) (slice_get given at) ++ tune_places (map placed_cell (drop (suc at) cells)) (map (λ (one : Bor Items). one.now) (drop (suc at) given))
after [] given at cell is = absurd (none-some cell is)
after (first ∷ cells) [] zero cell is = sym (nothing_given (map placed_cell cells))
after (first ∷ cells) (one ∷ given) zero cell is =
    ap (λ (own : LineCell). cell_places own.line own.cell.now one.now.items ++ tune_places (map placed_cell cells) (map (λ (other : Bor Items). other.now) given)) (same_Some first cell is)
after (first ∷ cells) [] (suc at) cell is = nothing_given (map placed_cell (drop at cells)) ∙ sym (nothing_given (map placed_cell (drop (suc at) cells)))
after (first ∷ cells) (one ∷ given) (suc at) cell is = after cells given at cell is

-- the places of the items of one cell, and of those after it
pub tune_places-one : (cells : List LineCell) (given : List (Bor Items)) (at : ℕ) (cell : LineCell) → slice_get cells at ≡ Some cell
    → tune_places (map placed_cell (drop at cells)) (map (λ (one : Bor Items). one.now) (drop at given))
    ≡ given_places (placed_cell cell) (slice_get given at) ++ tune_places (map placed_cell (drop (at + 1) cells)) (map (λ (one : Bor Items). one.now) (drop (at + 1) given))
tune_places-one cells given at cell is =
    let next : suc at ≡ at + 1 = omega arith in
    after cells given at cell is
    ∙ ap (λ (n : ℕ). given_places (placed_cell cell) (slice_get given at) ++ tune_places (map placed_cell (drop n cells)) (map (λ (one : Bor Items). one.now) (drop n given))) next
