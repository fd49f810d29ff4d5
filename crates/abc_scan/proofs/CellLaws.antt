-- The cells of a line are its tokens, cut exactly after each bar line.
use Rattle.std.proofs.Common.{◌≡◌, ℕ, Bool, cond, suc, ◌-◌, ◌<◌, true, false, List, [], ◌∷◌, ◌++◌, length, take, drop, refl, sym, ap, ◌∙◌, subst, arith, append_assoc, append-nil}
use Rattle.std.specs.Prelude.{All, slice_range, ◌==◌}
use Rattle.std.proofs.lemmas.List.{take_all}
use Rattle.std.proofs.lemmas.Bool.{cond_both, eqb-true, false≢true}
use Rattle.std.proofs.lemmas.List.Elements.{All-nil, All-cons, All-head, All-tail}
use Rattle.abc_scan.specs.declared.line_class.LineClass.{LineClass}
use Rattle.abc_scan.specs.declared.line_class.LineClass.TheVariants as classes
use Rattle.abc_scan.specs.declared.spanned.Spanned.{Spanned}
use Rattle.abc_scan.specs.declared.token.TokenKind.{TokenKind}
use Rattle.abc_scan.specs.Cell.{ends_cell, IsCell, EndsWithBar, but_last, AreCells, put_first, cells_of, first_size}
use Rattle.abc_scan.specs.Line.{has_tokens, tokens_in}

abbrev pub Tokens : Type 0
Tokens = List (Spanned TokenKind)

-- one token alone
alone : (t : Spanned TokenKind) → IsCell (t ∷ [])
alone t = record { front = []; last = t; spelling = refl; no_bar_inside = All-nil (λ u. ends_cell u ≡ false) }

-- a token that is no bar line before a cell
longer : (t : Spanned TokenKind) (cell : Tokens) → ends_cell t ≡ false → IsCell cell → IsCell (t ∷ cell)
longer t cell plain is = record {
  front = t ∷ is.front;
  last = is.last;
  spelling = ap (λ l. t ∷ l) is.spelling;
  no_bar_inside = All-cons (λ u. ends_cell u ≡ false) t is.front plain is.no_bar_inside;
}

still_closed : (t : Spanned TokenKind) (cell : Tokens) → EndsWithBar cell → EndsWithBar (t ∷ cell)
still_closed t cell is = record { front = t ∷ is.front; bar = is.bar; spelling = ap (λ l. t ∷ l) is.spelling; is_bar_line = is.is_bar_line }

-- all cells but the last, of one cell more
but_last-cons : (cell next : Tokens) (cells : List Tokens) → but_last (cell ∷ next ∷ cells) ≡ cell ∷ but_last (next ∷ cells)
but_last-cons cell next cells =
    let n : length (cell ∷ next ∷ cells) - 1 ≡ suc (length (next ∷ cells) - 1) = omega arith in
    ap (λ k. take k (cell ∷ next ∷ cells)) n

put_cells : (t : Spanned TokenKind) (tokens : Tokens) (cells : List Tokens) → ends_cell t ≡ false → AreCells tokens cells → AreCells (t ∷ tokens) (put_first t cells)
put_cells t tokens [] plain are = record {
  whole = ap (λ l. t ∷ l) are.whole;
  each = All-cons IsCell (t ∷ []) [] (alone t) (All-nil IsCell);
  closed = All-nil EndsWithBar;
}
put_cells t tokens (cell ∷ []) plain are = record {
  whole = ap (λ l. t ∷ l) are.whole;
  each = All-cons IsCell (t ∷ cell) [] (longer t cell plain (All-head IsCell cell [] are.each)) (All-nil IsCell);
  closed = All-nil EndsWithBar;
}
put_cells t tokens (cell ∷ next ∷ cells) plain are =
    let closed : All EndsWithBar (cell ∷ but_last (next ∷ cells)) = subst (All EndsWithBar) (but_last-cons cell next cells) are.closed in
    record {
      whole = ap (λ l. t ∷ l) are.whole;
      each = All-cons IsCell (t ∷ cell) (next ∷ cells) (longer t cell plain (All-head IsCell cell (next ∷ cells) are.each)) (All-tail IsCell cell (next ∷ cells) are.each);
      closed = subst (All EndsWithBar) (sym (but_last-cons (t ∷ cell) next cells)) (All-cons EndsWithBar (t ∷ cell) (but_last (next ∷ cells))
          (still_closed t cell (All-head EndsWithBar cell (but_last (next ∷ cells)) closed)) (All-tail EndsWithBar cell (but_last (next ∷ cells)) closed));
    }

bar_cells : (t : Spanned TokenKind) (tokens : Tokens) (cells : List Tokens) → ends_cell t ≡ true → AreCells tokens cells → AreCells (t ∷ tokens) ((t ∷ []) ∷ cells)
bar_cells t tokens [] bar are = record {
  whole = ap (λ l. t ∷ l) are.whole;
  each = All-cons IsCell (t ∷ []) [] (alone t) are.each;
  closed = All-nil EndsWithBar;
}
bar_cells t tokens (next ∷ cells) bar are =
    let own : EndsWithBar (t ∷ []) = record { front = []; bar = t; spelling = refl; is_bar_line = bar } in
    record {
      whole = ap (λ l. t ∷ l) are.whole;
      each = All-cons IsCell (t ∷ []) (next ∷ cells) (alone t) are.each;
      closed = subst (All EndsWithBar) (sym (but_last-cons (t ∷ []) next cells)) (All-cons EndsWithBar (t ∷ []) (but_last (next ∷ cells)) own are.closed);
    }

pub are_cells : (tokens : Tokens) → AreCells tokens (cells_of tokens)
are_cells [] = record { whole = refl; each = All-nil IsCell; closed = All-nil EndsWithBar }
are_cells (t ∷ ts) = cond_both (ends_cell t) ((t ∷ []) ∷ cells_of ts) (put_first t (cells_of ts)) (AreCells (t ∷ ts))
    (λ bar. bar_cells t ts (cells_of ts) bar (are_cells ts))
    (λ plain. put_cells t ts (cells_of ts) plain (are_cells ts))

-- the first cell, and those after it
either_cell : (bar : Bool) (t : Spanned TokenKind) (ts : Tokens) → put_first t (cells_of ts) ≡ take (suc (first_size ts)) (t ∷ ts) ∷ cells_of (drop (suc (first_size ts)) (t ∷ ts))
    → cond bar ((t ∷ []) ∷ cells_of ts) (put_first t (cells_of ts)) ≡ take (cond bar 1 (suc (first_size ts))) (t ∷ ts) ∷ cells_of (drop (cond bar 1 (suc (first_size ts))) (t ∷ ts))
either_cell true t ts more = refl
either_cell false t ts more = more

first_cell : (t : Spanned TokenKind) (ts : Tokens) → cells_of (t ∷ ts) ≡ take (first_size (t ∷ ts)) (t ∷ ts) ∷ cells_of (drop (first_size (t ∷ ts)) (t ∷ ts))
first_cell t [] = either_cell (ends_cell t) t [] refl
first_cell t (u ∷ us) = either_cell (ends_cell t) t (u ∷ us) (ap (put_first t) (first_cell u us))

pub first-some : (ts : Tokens) → 0 < length ts → 0 < first_size ts
first-some [] h = absurd (omega arith)
first-some (t ∷ ts) h = cond_both (ends_cell t) 1 (suc (first_size ts)) (λ n. 0 < n) (λ _. omega arith) (λ _. omega arith)

pub is_some : (ts : Tokens) → (length ts == 0) ≡ false → 0 < length ts
is_some [] e = cc
is_some (t ∷ ts) e = omega arith

-- one cell more
pub next_cell : (done all : List Tokens) (rest : Tokens) → 0 < length rest → done ++ cells_of rest ≡ all → (done ++ take (first_size rest) rest ∷ []) ++ cells_of (drop (first_size rest) rest) ≡ all
next_cell done all [] h e = absurd (omega arith)
next_cell done all (t ∷ ts) h e =
    let rest = t ∷ ts in
    append_assoc done (take (first_size rest) rest ∷ []) (cells_of (drop (first_size rest) rest)) ∙ ap (λ l. done ++ l) (sym (first_cell t ts)) ∙ e

pub no_more : (done all : List Tokens) (rest : Tokens) → (length rest == 0) ≡ true → done ++ cells_of rest ≡ all → done ≡ all
no_more done all [] none e = sym (append-nil done) ∙ e
no_more done all (t ∷ ts) none e = let n = eqb-true (length (t ∷ ts)) 0 none in absurd (omega (arith, n))

-- a line of a class without tokens has none
pub none_in : (class : LineClass) (text : List ℕ) → has_tokens class ≡ false → tokens_in class text ≡ []
none_in classes.Blank text none = refl
none_in classes.Comment text none = refl
none_in _ text none = absurd (false≢true (sym none))

-- all tokens of a line
pub whole_range : (tokens : Tokens) → slice_range tokens 0 (length tokens) ≡ tokens
whole_range tokens = take_all (length tokens - 0) tokens (omega arith)
