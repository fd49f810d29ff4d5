-- Items are matched with the tokens that give them.
use Rattle.std.proofs.Common.{◌≡◌, ◌≤◌, ℕ, zero, suc, ◌+◌, ◌-◌, min, Bool, true, false, cond, List, [], ◌∷◌, ◌++◌, length, drop, refl, sym, ap, subst, ◌∙◌, arith, append_assoc, append-nil, length-append}
use Rattle.std.specs.List.{AllZip}
use Rattle.std.specs.Prelude.{Option, Some, None, replicate, slice_get}
use Rattle.std.proofs.lemmas.Bool.{false≢true}
use Rattle.std.proofs.lemmas.List.{drop_more}
use Rattle.abc_bars_body.specs.declared.body.Body.{Body}
use Rattle.abc_bars_body.specs.declared.cell.CellResult.{CellResult}
use Rattle.abc_bars_body.specs.Cell.{cell_result, cell_result_from, empty_cell_result, with_token}
use Rattle.abc_bars_items.specs.declared.item.Item.{Item}
use Rattle.abc_scan.specs.declared.spanned.Spanned.{Spanned}
use Rattle.abc_scan.specs.declared.token.TokenKind.{TokenKind}
use Rattle.abc_play_places.specs.Givers.{added, first_giver, giver_at, givers, givers_from, gives_place, has_place, matched, placed}
use Rattle.abc_play_places.proofs.Adding.{Adds, GivesItem, NonePlaced, token_adds}

abbrev pub Tokens : Type 0
Tokens = List (Spanned TokenKind)

-- what is given after tokens of a cell, with the others of the cell after them
abbrev pub after_front : CellResult → Tokens → Tokens → CellResult
after_front given [] rest = given
after_front given (token ∷ front) rest = after_front (with_token given token (front ++ rest)) front rest

after_one : (given : CellResult) (front : Tokens) (token : Spanned TokenKind) (ahead : Tokens)
    → after_front given (front ++ token ∷ []) ahead ≡ with_token (after_front given front (token ∷ ahead)) token ahead
after_one given [] token ahead = refl
after_one given (first ∷ front) token ahead =
    ap (λ l. after_front (with_token given first l) (front ++ token ∷ []) ahead) (append_assoc front (token ∷ []) ahead)
    ∙ after_one (with_token given first (front ++ token ∷ ahead)) front token ahead

-- the token at an index of a cell, which a body enters in this state, adds an item
pub record IsGiven (body : Body) (cell : Tokens) (item : Item) (giver : Option ℕ) : Type 0 where
  pub at : ℕ
  pub front : Tokens
  pub token : Spanned TokenKind
  pub ahead : Tokens
  pub is : giver ≡ Some at
  pub here : slice_get cell at ≡ Some token
  pub split : cell ≡ front ++ token ∷ ahead
  pub placed : gives_place token.kind ≡ true
  pub adds : (with_token (after_front (empty_cell_result body) front (token ∷ ahead)) token ahead).items.items
      ≡ (after_front (empty_cell_result body) front (token ∷ ahead)).items.items ++ item ∷ []
  pub fits : GivesItem token.kind item

-- if the item has a place
abbrev pub MayBeGiven : Body → Tokens → Item → Option ℕ → Type 0
MayBeGiven body cell item giver = has_place item ≡ true → IsGiven body cell item giver

-- items without a place
matched_none : (cell : Tokens) (next : ℕ) (more others : List Item) → NonePlaced more → matched cell next (more ++ others) ≡ placed more [] ++ matched cell next others
matched_none cell next [] others none = refl
matched_none cell next (item ∷ more) others none =
    ap (λ b. cond b (Some (giver_at cell next) ∷ matched cell (giver_at cell next + 1) (more ++ others)) (None ∷ matched cell next (more ++ others))) none.0
    ∙ ap (λ l. None ∷ l) (matched_none cell next more others none.1)

pub given_none : (body : Body) (cell : Tokens) (next : ℕ) (more others : List Item) → NonePlaced more → AllZip (MayBeGiven body cell) others (matched cell next others)
    → AllZip (MayBeGiven body cell) (more ++ others) (matched cell next (more ++ others))
given_none body cell next [] others none all = all
given_none body cell next (item ∷ more) others none all =
    subst (λ b. AllZip (MayBeGiven body cell) (item ∷ (more ++ others))
    (cond b (Some (giver_at cell next) ∷ matched cell (giver_at cell next + 1) (more ++ others)) (None ∷ matched cell next (more ++ others)))) (sym none.0)
    ((λ yes. absurd (false≢true (sym none.0 ∙ yes))), given_none body cell next more others none.1 all)

placed_none : (more others : List Item) (at : ℕ) (own : List ℕ) → NonePlaced more → placed (more ++ others) (replicate (length more) at ++ own) ≡ placed more [] ++ placed others own
placed_none [] others at own none = refl
placed_none (item ∷ more) others at own none =
    ap (λ b. cond b (Some at) None ∷ placed (more ++ others) (replicate (length more) at ++ own)) none.0
    ∙ ap (λ l. None ∷ l) (placed_none more others at own none.1)

-- a token that gives no item with a place is passed over
passed : (cell : Tokens) (next : ℕ) (others : List Item) → giver_at cell next ≡ giver_at cell (next + 1) → matched cell next others ≡ matched cell (next + 1) others
passed cell next [] same = refl
passed cell next (item ∷ others) same =
    λ i. cond (has_place item) (Some (same i) ∷ matched cell (same i + 1) others) (None ∷ passed cell next others same i)

-- the tokens from an index on
record IsAt (cell : Tokens) (at : ℕ) (left : Tokens) : Type 0 where
  within : at + length left ≡ length cell
  rest : drop at cell ≡ left

next_at : (cell : Tokens) (at : ℕ) (token : Spanned TokenKind) (ahead : Tokens) → IsAt cell at (token ∷ ahead) → IsAt cell (at + 1) ahead
next_at cell at token ahead is =
    let inside : suc at ≤ length cell = omega (arith, is.within) in
    let more = drop_more cell at token inside in
    let tail : drop (at + 1) cell ≡ ahead = let both = sym more ∙ is.rest in cc in
    record { within = omega (arith, is.within); rest = tail }

first_left : {X : Type 0} (xs : List X) (i : ℕ) (x : X) (left : List X) → drop i xs ≡ x ∷ left → slice_get xs i ≡ Some x
first_left [] zero x left is = cc
first_left [] (suc i) x left is = cc
first_left (y ∷ xs) zero x left is = cc
first_left (y ∷ xs) (suc i) x left is = first_left xs i x left is

giver_here : (cell : Tokens) (at : ℕ) (left : Tokens) → IsAt cell at left → giver_at cell at ≡ at + first_giver left
giver_here cell at left is =
    let inside : min at (length cell) ≡ at = omega (arith, is.within) in
    ap (λ k. k + first_giver (drop k cell)) inside ∙ ap (λ l. at + first_giver l) is.rest

-- the items that the rest of a cell gives, and the tokens that give them
record AreMatched (body : Body) (cell : Tokens) (at : ℕ) (given : CellResult) (left : Tokens) : Type 0 where
  more : List Item
  grown : (cell_result_from given left).items.items ≡ given.items.items ++ more
  same : matched cell at more ≡ placed more (givers_from given at left)
  each : AllZip (MayBeGiven body cell) more (matched cell at more)

size_is : (old new more : List Item) → new ≡ old ++ more → length new - length old ≡ length more
size_is old new more is = let size = ap length is ∙ length-append old more in omega arith

-- what was given before the rest of a cell
record IsAfter (body : Body) (cell front : Tokens) (given : CellResult) (left : Tokens) : Type 0 where
  split : cell ≡ front ++ left
  same : given ≡ after_front (empty_cell_result body) front left

next_after : (body : Body) (cell front : Tokens) (given : CellResult) (token : Spanned TokenKind) (ahead : Tokens) → IsAfter body cell front given (token ∷ ahead)
    → IsAfter body cell (front ++ token ∷ []) (with_token given token ahead) ahead
next_after body cell front given token ahead is = record {
  split = is.split ∙ sym (append_assoc front (token ∷ []) ahead);
  same = ap (λ (one : CellResult). with_token one token ahead) is.same ∙ sym (after_one (empty_cell_result body) front token ahead);
}

one_matched : (body : Body) (cell : Tokens) (at : ℕ) (front : Tokens) (given : CellResult) (token : Spanned TokenKind) (ahead : Tokens) (gives : Bool) → gives_place token.kind ≡ gives
    → IsAt cell at (token ∷ ahead) → IsAfter body cell front given (token ∷ ahead) → (adds : Adds token.kind gives given.items.items (with_token given token ahead).items.items)
    → AreMatched body cell (at + 1) (with_token given token ahead) ahead → AreMatched body cell at given (token ∷ ahead)
one_matched body cell at front given token ahead true h is after adds are =
    let own = adds.fits in
    let item = own.0 in
    let size : added given token ahead ≡ 1 = size_is given.items.items _ adds.more adds.grown ∙ ap length own.1 in
    let here : giver_at cell at ≡ at = giver_here cell at (token ∷ ahead) is ∙ ap (λ b. at + cond b 0 (suc (first_giver ahead))) h ∙ omega arith in
    let later = givers_from (with_token given token ahead) (at + 1) ahead in
    let one = adds.grown ∙ ap (λ l. given.items.items ++ l) own.1 in
    record {
      more = item ∷ are.more;
      grown = are.grown ∙ ap (λ l. l ++ are.more) one ∙ append_assoc given.items.items (item ∷ []) are.more;
      same =
          ap (λ b. cond b (Some (giver_at cell at) ∷ matched cell (giver_at cell at + 1) are.more) (None ∷ matched cell at are.more)) own.2
          ∙ ap (λ k. Some k ∷ matched cell (k + 1) are.more) here
          ∙ ap (λ l. Some at ∷ l) are.same
          ∙ ap (λ b. cond b (Some at) None ∷ placed are.more later) (sym own.2)
          ∙ ap (λ n. placed (item ∷ are.more) (replicate n at ++ later)) (sym size);
      each = subst (λ b. AllZip (MayBeGiven body cell) (item ∷ are.more) (cond b (Some (giver_at cell at) ∷ matched cell (giver_at cell at + 1) are.more) (None ∷ matched cell at are.more))) (sym own.2)
          (subst (λ k. AllZip (MayBeGiven body cell) (item ∷ are.more) (Some k ∷ matched cell (k + 1) are.more)) (sym here) (
            (λ _. record {
              at = at;
              front = front;
              token = token;
              ahead = ahead;
              is = refl;
              here = first_left cell at token ahead is.rest;
              split = after.split;
              placed = h;
              adds = subst (λ (old : CellResult). (with_token old token ahead).items.items ≡ old.items.items ++ item ∷ []) after.same one;
              fits = own.3;
            }),
            are.each,
          ));
    }
one_matched body cell at front given token ahead false h is after adds are =
    let size : added given token ahead ≡ length adds.more = size_is given.items.items _ adds.more adds.grown in
    let next = next_at cell at token ahead is in
    let skip : giver_at cell at ≡ giver_at cell (at + 1) =
    giver_here cell at (token ∷ ahead) is ∙ ap (λ b. at + cond b 0 (suc (first_giver ahead))) h
    ∙ omega arith ∙ sym (giver_here cell (at + 1) ahead next) in
    let later = givers_from (with_token given token ahead) (at + 1) ahead in
    record {
      more = adds.more ++ are.more;
      grown = are.grown ∙ ap (λ l. l ++ are.more) adds.grown ∙ append_assoc given.items.items adds.more are.more;
      same =
          matched_none cell at adds.more are.more adds.fits
          ∙ ap (λ l. placed adds.more [] ++ l) (passed cell at are.more skip ∙ are.same)
          ∙ sym (placed_none adds.more are.more at later adds.fits)
          ∙ ap (λ n. placed (adds.more ++ are.more) (replicate n at ++ later)) (sym size);
      each = given_none body cell at adds.more are.more adds.fits (subst (AllZip (MayBeGiven body cell) are.more) (sym (passed cell at are.more skip)) are.each);
    }

all_matched : (body : Body) (cell : Tokens) (at : ℕ) (front : Tokens) (given : CellResult) (left : Tokens) → IsAt cell at left → IsAfter body cell front given left
    → AreMatched body cell at given left
all_matched body cell at front given [] is after = record { more = []; grown = sym (append-nil given.items.items); same = refl; each = tt }
all_matched body cell at front given (token ∷ ahead) is after =
    one_matched body cell at front given token ahead (gives_place token.kind) refl is after (token_adds given token ahead)
    (all_matched body cell (at + 1) (front ++ token ∷ []) (with_token given token ahead) ahead (next_at cell at token ahead is) (next_after body cell front given token ahead after))

cell_matched : (body : Body) (cell : Tokens) → AreMatched body cell 0 (empty_cell_result body) cell
cell_matched body cell =
    all_matched body cell 0 [] (empty_cell_result body) cell (record { within = omega arith; rest = refl }) (record { split = refl; same = refl })

-- the items of a cell
pub matched-cell : (body : Body) (cell : Tokens) → matched cell 0 (cell_result body cell).items.items ≡ placed (cell_result body cell).items.items (givers body cell)
matched-cell body cell =
    let are = cell_matched body cell in
    subst (λ l. matched cell 0 l ≡ placed l (givers body cell)) (sym are.grown) are.same

-- each item of a cell that has a place is given by a token of its kind
pub given-cell : (body : Body) (cell : Tokens) → AllZip (MayBeGiven body cell) (cell_result body cell).items.items (matched cell 0 (cell_result body cell).items.items)
given-cell body cell =
    let are = cell_matched body cell in
    subst (λ l. AllZip (MayBeGiven body cell) l (matched cell 0 l)) (sym are.grown) are.each
