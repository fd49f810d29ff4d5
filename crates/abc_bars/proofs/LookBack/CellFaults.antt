-- The faults of the tokens of a cell, token by token.
use Rattle.std.proofs.Common.{◌≡◌, ◌∙◌, Bool, false, List, [], ◌∷◌, ◌++◌, refl, sym, ap, subst, append-nil, append_assoc}
use Rattle.std.specs.List.{list_any}
use Rattle.std.proofs.lemmas.List.Elements.{filter-append}
use Rattle.abc_fields.specs.declared.fault_code.FaultCode.{FaultCode}
use Rattle.abc_scan.specs.declared.spanned.Spanned.{Spanned}
use Rattle.abc_scan.specs.declared.token.TokenKind.{TokenKind}
use Rattle.abc_bars_notes.specs.declared.broken.Preceding.{Preceding}
use Rattle.abc_bars_notes.specs.declared.broken.Preceding.TheVariants.{Nothing}
use Rattle.abc_bars_notes.specs.Broken.{preceding_after, preceding_from}
use Rattle.abc_bars_body.specs.declared.body.Body.{Body}
use Rattle.abc_bars_body.specs.declared.cell.CellResult.{CellResult}
use Rattle.abc_bars_body.specs.Cell.{is_tie_token, may_be_tied, empty_cell_result, tie_ahead}
use Rattle.abc_bars_body.specs.Cell.{with_token}
use Rattle.abc_bars.specs.LookBack.CellFaults.{AreFaultsAfter, AreFaultsOfCells, CellStart, Faults, place_in}
use Rattle.abc_bars.specs.LookBack.CellPlace.{CellPlace, before_place}
use Rattle.abc_bars.specs.LookBack.Cells.{after_tokens, look_back}
use Rattle.abc_bars.specs.LookBack.Element.{Element}
use Rattle.abc_bars.specs.LookBack.BodyState.{body_at}
use Rattle.abc_bars.specs.LookBack.Place.{opening_at}
use Rattle.abc_bars.proofs.LookBack.CellPlace.{tie-next}
use Rattle.abc_bars.proofs.LookBack.TokenFaults.{Passing, codes_of, Passing-token_faults}
use Rattle.abc_bars.proofs.LookBack.TokenResults.{faults_added, token_faults}

-- The faults of the tokens of a cell, by what holds before them.
unfoldable pub rest_faults : Body → List Element → Preceding → Bool → List (Spanned TokenKind) → Faults
rest_faults opening before preceding after [] = []
rest_faults opening before preceding after (token ∷ ahead) =
    token_faults (body_at opening before) preceding after token.from token.kind ahead
    ++ rest_faults opening (record { kind = token.kind; tied = tie_ahead ahead } ∷ before) (preceding_after preceding token.kind) (may_be_tied token.kind) ahead

from-here : (opening : Body) (before : List Element) (given : CellResult) (cell : List (Spanned TokenKind))
    → (look_back opening before given cell).items.faults ≡ given.items.faults ++ rest_faults opening before given.preceding given.after_note cell
unfolding rest_faults
from-here opening before given [] = sym (append-nil _)
from-here opening before given (token ∷ ahead) =
    let start : CellResult = record given { body = body_at opening before } in
    let next : List Element = record { kind = token.kind; tied = tie_ahead ahead } ∷ before in
    from-here opening next (with_token start token ahead) ahead
    ∙ ap (λ l. l ++ rest_faults opening next (preceding_after given.preceding token.kind) (may_be_tied token.kind) ahead) (faults_added start token.from token.kind ahead)
    ∙ append_assoc given.items.faults _ _

-- The faults of a cell.
pub look_back-faults : (opening : Body) (before : List Element) (cell : List (Spanned TokenKind))
    → (look_back opening before (empty_cell_result opening) cell).items.faults ≡ rest_faults opening before Nothing false cell
look_back-faults opening before cell = from-here opening before (empty_cell_result opening) cell

-- What precedes the rest of a cell: these tokens of it, and what precedes the cell.
abbrev after_front : List (Spanned TokenKind) → List (Spanned TokenKind) → List Element → List Element
after_front [] rest before = before
after_front (token ∷ front) rest before = after_front front rest (record { kind = token.kind; tied = tie_ahead (front ++ rest) } ∷ before)

one-more : (front ahead : List (Spanned TokenKind)) (token : Spanned TokenKind) (before : List Element)
    → after_front (front ++ token ∷ []) ahead before ≡ record { kind = token.kind; tied = tie_ahead ahead } ∷ after_front front (token ∷ ahead) before
one-more [] ahead token before = refl
one-more (first ∷ front) ahead token before =
    ap (λ l. after_front (front ++ token ∷ []) ahead (record { kind = first.kind; tied = tie_ahead l } ∷ before)) (append_assoc front (token ∷ []) ahead)
    ∙ one-more front ahead token (record { kind = first.kind; tied = tie_ahead (front ++ token ∷ ahead) } ∷ before)

no-tie : (front ahead : List (Spanned TokenKind)) (token : Spanned TokenKind) (before : List Element) → is_tie_token token.kind ≡ false
    → after_front front (token ∷ ahead) before ≡ after_tokens front before
no-tie [] ahead token before e = refl
no-tie (first ∷ front) ahead token before e =
    ap (λ b. after_front front (token ∷ ahead) (record { kind = first.kind; tied = b } ∷ before)) (tie-next front ahead token e)
    ∙ no-tie front ahead token (record { kind = first.kind; tied = tie_ahead front } ∷ before) e

pub preceding_from-more : (preceding : Preceding) (front : List (Spanned TokenKind)) (token : Spanned TokenKind)
    → preceding_from preceding (front ++ token ∷ []) ≡ preceding_after (preceding_from preceding front) token.kind
preceding_from-more preceding [] token = refl
preceding_from-more preceding (first ∷ front) token = preceding_from-more (preceding_after preceding first.kind) front token

-- The opening of the body of a place.
abbrev pub opening : CellPlace → Body
opening place = opening_at place.values place.fields place.key

-- Each token has the faults that a relation says.
abbrev pub EachHas : (FaultCode → Bool) → (CellPlace → TokenKind → Faults → Type 0) → Type 0
EachHas test Has =
    (place : CellPlace) (kind : TokenKind) (now : List Element) (after : Bool) → (is_tie_token kind ≡ false → now ≡ before_place place)
    → Has place kind (Passing test (token_faults (body_at (opening place) now) (preceding_from Nothing place.front) after place.from kind place.ahead))

-- A token has none if no code of its faults passes.
pub Passing-none_at : (test : FaultCode → Bool) (place : CellPlace) (kind : TokenKind) (now : List Element) (after : Bool) → list_any test (codes_of kind) ≡ false
    → Passing test (token_faults (body_at (opening place) now) (preceding_from Nothing place.front) after place.from kind place.ahead) ≡ []
Passing-none_at test place kind now after none = Passing-token_faults test (body_at (opening place) now) (preceding_from Nothing place.front) after place.from kind place.ahead none

module _ (test : FaultCode → Bool) (Has : CellPlace → TokenKind → Faults → Type 0) (each : EachHas test Has) (start : CellStart) where
  abbrev begin : Body
  begin = opening_at start.values start.fields start.key

  are : (front cell : List (Spanned TokenKind)) (after : Bool)
      → AreFaultsAfter Has start front cell (Passing test (rest_faults begin (after_front front cell start.before) (preceding_from Nothing front) after cell))
  unfolding rest_faults
  are front [] after = refl
  are front (token ∷ ahead) after =
      let now : List Element = after_front front (token ∷ ahead) start.before in
      let own : Faults = token_faults (body_at begin now) (preceding_from Nothing front) after token.from token.kind ahead in
      let later : Faults =
      rest_faults begin (record { kind = token.kind; tied = tie_ahead ahead } ∷ now) (preceding_after (preceding_from Nothing front) token.kind) (may_be_tied token.kind) ahead in (
        Passing test own,
        Passing test later,
        filter-append (λ fault. test fault.1) own later,
        each (place_in start front token ahead) token.kind now after (no-tie front ahead token start.before),
        subst (AreFaultsAfter Has start (front ++ token ∷ []) ahead)
            (λ i. Passing test (rest_faults begin (one-more front ahead token start.before i) (preceding_from-more Nothing front token i) (may_be_tied token.kind) ahead))
            (are (front ++ token ∷ []) ahead (may_be_tied token.kind)),
      )

  faults_are : (cell : List (Spanned TokenKind)) → AreFaultsAfter Has start [] cell (Passing test (look_back begin start.before (empty_cell_result begin) cell).items.faults)
  faults_are cell =
      subst (λ l. AreFaultsAfter Has start [] cell (Passing test l)) (sym (look_back-faults begin start.before cell)) (are [] cell false)

pub faults_of_cells : (test : FaultCode → Bool) (Has : CellPlace → TokenKind → Faults → Type 0) → EachHas test Has → AreFaultsOfCells test Has
faults_of_cells test Has each start cell = faults_are test Has each start cell
