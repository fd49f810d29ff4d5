-- The pieces of a line, and what they hold.
use Rattle.std.proofs.Common.{◌≡◌, ℕ, zero, suc, ◌+◌, ◌-◌, ◌<◌, ◌≤◌, List, [], ◌∷◌, ◌++◌, map, Option, Some, None, Result, Ok}
use Rattle.std.proofs.Common.{Err, IfOk, slice_get, length, take, drop, get_or, refl, sym, ◌∙◌, ap, subst, arith, add-one}
use Rattle.std.proofs.Common.{append_assoc, ⊎_elim}
use Rattle.std.proofs.lemmas.List.{take_more, map-append}
use Rattle.std.proofs.lemmas.Option.{slice_get_within, get_or_from_slice_get}
use Rattle.std.proofs.lemmas.Grind.{flat_map-append}
use Rattle.std.proofs.lemmas.List.Concat.{flat_map-cons}
use Rattle.std.specs.List.{flat_map}
use Rattle.abc_fold.specs.declared.piece.Piece.{Piece}
use Rattle.abc_fold.specs.declared.piece.Piece.TheVariants.{New, Kept}
use Rattle.abc_fold.specs.Chain.{ChainView, Folds, IsKeptAt, no_cells}
use Rattle.abc_fold.specs.Piece.{IsKept, cell_of, cells_of}
use Rattle.abc_fold.specs.Steps.{Steps}
use Rattle.abc_fold.proofs.Kept.{kept_cell, one_more}
use Rattle.abc_live_cost.specs.Origin.{Origin, addresses, addresses_from}
use Rattle.abc_live_cost.specs.KeptState.{KeptState, kept_state_at, both_kept}
use Rattle.abc_live_text.specs.Pieces.{IsFolded, IsCarriedAt, address_from, cells_at, entries_at, kept_state_in, kept_states_in}
use Rattle.abc_live_text.specs.Pieces.{kept_states_at}
use Rattle.abc_live_text.specs.Row.{CarriedRow}

pub some_at : {X : Type 0} (xs : List X) (k : ℕ) → k < length xs → (x : X) × (slice_get xs k ≡ Some x)
some_at [] k h = absurd (omega arith)
some_at (x ∷ xs) zero h = (x, refl)
some_at (x ∷ xs) (suc k) h = some_at xs k (omega arith)

-- Where the cells of a row are, seen as it is now.
pub origin_seen : {Cell : Type 0} {was now : CarriedRow Cell} (view : was ≡ now) {origin own : Origin} → was.origin ≡ Some origin → own ≡ origin → now.origin ≡ Some own
origin_seen {Cell = Cell} view is v = ap (λ (row : CarriedRow Cell). row.origin) (sym view) ∙ (is ∙ ap (λ x. Some x) (sym v))

module _ {State Cell Items : Type 0} where
  held_cell : (chains : List (ChainView State Cell Items)) (row : List Cell) (o : Option Origin) (own : Origin) (k : ℕ)
      → o ≡ Some own → IsCarriedAt chains row o → k < length row → slice_get (cells_at chains own.source) (own.first + k) ≡ slice_get row k
  held_cell chains row o own k e carried inside = (subst (IsCarriedAt chains row) e carried) k inside

  pub source_within : (chains : List (ChainView State Cell Items)) (source i : ℕ) (x : Cell) → slice_get (cells_at chains source) i ≡ Some x → source < length chains
  source_within [] source i x e = absurd (cc)
  source_within (chain ∷ chains) zero i x e = omega arith
  source_within (chain ∷ chains) (suc source) i x e = let h = source_within chains source i x e in omega arith

  pub cells_get : (chains : List (ChainView State Cell Items)) (source : ℕ) (d : ChainView State Cell Items) → source < length chains → cells_at chains source ≡ (get_or chains source d).cells
  cells_get [] source d h = absurd (omega arith)
  cells_get (chain ∷ chains) zero d h = refl
  cells_get (chain ∷ chains) (suc source) d h = cells_get chains source d (omega arith)

  pub entries_get : (chains : List (ChainView State Cell Items)) (source : ℕ) (d : ChainView State Cell Items) → source < length chains → entries_at chains source ≡ (get_or chains source d).entries
  entries_get [] source d h = absurd (omega arith)
  entries_get (chain ∷ chains) zero d h = refl
  entries_get (chain ∷ chains) (suc source) d h = entries_get chains source d (omega arith)

  -- The chain of a line's origin is there.
  pub source_there : (chains : List (ChainView State Cell Items)) (row : List Cell) (o : Option Origin) (own : Origin) (k : ℕ)
      → o ≡ Some own → IsCarriedAt chains row o → k < length row → own.source < length chains
  source_there chains row o own k e carried inside =
      let cell = some_at row k inside in
      source_within chains own.source (own.first + k) cell.0 (held_cell chains row o own k e carried inside ∙ cell.1)

  -- The chain has the cell at index `k` of a line, and the states around it.
  pub record IsPlaced (chains : List (ChainView State Cell Items)) (row : List Cell) (o : Option Origin) (k : ℕ) (chain : ChainView State Cell Items) (source i : ℕ) : Type 0 where
    pub address : address_from k o ≡ Some (source, i)
    pub there : source < length chains
    pub cell : slice_get chain.cells i ≡ slice_get row k
    pub within : i < length chain.cells
    pub entries : entries_at chains source ≡ chain.entries

  pub place_facts : (chains : List (ChainView State Cell Items)) (row : List Cell) (o : Option Origin) (own : Origin) (k : ℕ) (chain : ChainView State Cell Items)
      → o ≡ Some own → IsCarriedAt chains row o → k < length row → chain ≡ get_or chains own.source chain → IsPlaced chains row o k chain own.source (own.first + k)
  place_facts chains row o own k chain e carried inside is =
      let there = source_there chains row o own k e carried inside in
      let some = some_at row k inside in
      let cell : slice_get chain.cells (own.first + k) ≡ slice_get row k =
      ap (λ (c : ChainView State Cell Items). slice_get c.cells (own.first + k)) is
      ∙ (ap (λ cells. slice_get cells (own.first + k)) (sym (cells_get chains own.source chain there)) ∙ held_cell chains row o own k e carried inside) in
      record {
        address = ap (address_from k) e;
        there = there;
        cell = cell;
        within = slice_get_within chain.cells (own.first + k) some.0 (cell ∙ some.1);
        entries = entries_get chains own.source chain there ∙ ap (λ (c : ChainView State Cell Items). c.entries) (sym is);
      }

  -- The cell of a kept piece.
  pub own_cell : {F Work E : Type 0} {chains : List (ChainView State Cell Items)} {row : List Cell} {o : Option Origin} {k : ℕ} {chain : ChainView State Cell Items} {source i : ℕ}
      (result : Result (Piece F State Cell Items Work) E) → IsPlaced chains row o k chain source i → IfOk result (λ piece. IsKeptAt chain i piece)
      → IfOk result (λ piece. slice_get row k ≡ Some (cell_of piece))
  own_cell {chain = chain} {i = i} (Ok piece) here at = sym here.cell ∙ kept_cell chain i piece at
  own_cell (Err error) here at = tt

  held_piece : {F Work : Type 0} (chains : List (ChainView State Cell Items)) (source i : ℕ) (chain : ChainView State Cell Items) (piece : Piece F State Cell Items Work)
      → entries_at chains source ≡ chain.entries → IsKeptAt chain i piece → kept_state_in piece ≡ kept_state_at (entries_at chains) (Some (source, i))
  held_piece chains source i chain (New cell) e at = absurd at
  held_piece chains source i chain (Kept cell entered left items) e at =
      let here : slice_get (entries_at chains source) i ≡ Some entered = ap (λ l. slice_get l i) e ∙ at.own_entry in
      let next : slice_get (entries_at chains source) (i + 1) ≡ Some left = ap (λ l. slice_get l (i + 1)) e ∙ at.next_entry in
      sym (λ j. both_kept (here j) (next j))

  pub own_held : {F Work E : Type 0} {chains : List (ChainView State Cell Items)} {row : List Cell} {o : Option Origin} {k : ℕ} {chain : ChainView State Cell Items} {source i : ℕ}
      (result : Result (Piece F State Cell Items Work) E) → IsPlaced chains row o k chain source i → IfOk result (λ piece. IsKeptAt chain i piece)
      → IfOk result (λ piece. kept_state_in piece ≡ kept_state_at (entries_at chains) (address_from k o))
  own_held (Err error) here at = tt
  own_held {chains = chains} {chain = chain} {source = source} {i = i} (Ok piece) here at =
      held_piece chains source i chain piece here.entries at ∙ ap (kept_state_at (entries_at chains)) (sym here.address)

-- One more cell of a line.
take_next : {X : Type 0} (xs : List X) (k : ℕ) (x : X) → slice_get xs k ≡ Some x → take (k + 1) xs ≡ take k xs ++ x ∷ []
take_next xs k x e =
    take_more xs k x (slice_get_within xs k x e) ∙ ap (λ y. take k xs ++ y ∷ []) (get_or_from_slice_get xs k x x e)

numbered_next : {Cell : Type 0} (source place : ℕ) (cells : List Cell) (k : ℕ) (cell : Cell) → slice_get cells k ≡ Some cell
    → addresses_from source place (take (suc k) cells) ≡ addresses_from source place (take k cells) ++ Some (source, place + k) ∷ []
numbered_next source place [] k cell e = absurd (cc)
numbered_next source place (c ∷ cells) zero cell e = let h : place ≡ place + 0 = omega arith in ap (λ n. Some (source, n) ∷ []) h
numbered_next source place (c ∷ cells) (suc k) cell e =
    let more = numbered_next source (place + 1) cells k cell e in
    let h : place + 1 + k ≡ place + suc k = omega arith in
    ap (λ l. Some (source, place) ∷ l) (more ∙ ap (λ n. addresses_from source (place + 1) (take k cells) ++ Some (source, n) ∷ []) h)

none_next : {Cell : Type 0} (cells : List Cell) (k : ℕ) (cell : Cell) → slice_get cells k ≡ Some cell
    → addresses None (take (suc k) cells) ≡ addresses None (take k cells) ++ None ∷ []
none_next [] k cell e = absurd (cc)
none_next (c ∷ cells) zero cell e = refl
none_next (c ∷ cells) (suc k) cell e = ap (λ l. None ∷ l) (none_next cells k cell e)

addresses_next : {Cell : Type 0} (o : Option Origin) (cells : List Cell) (k : ℕ) (cell : Cell) → slice_get cells k ≡ Some cell
    → addresses o (take (k + 1) cells) ≡ addresses o (take k cells) ++ address_from k o ∷ []
addresses_next None cells k cell e = ap (λ n. addresses None (take n cells)) (add-one k) ∙ none_next cells k cell e
addresses_next (Some origin) cells k cell e = ap (λ n. addresses (Some origin) (take n cells)) (add-one k) ∙ numbered_next origin.source origin.first cells k cell e

pub cells_next : {F State Cell Items Work : Type 0} (old pieces : List (Piece F State Cell Items Work)) (row : List Cell) (k : ℕ) (piece : Piece F State Cell Items Work)
    → cells_of pieces ≡ cells_of old ++ take k row → slice_get row k ≡ Some (cell_of piece)
    → cells_of (pieces ++ piece ∷ []) ≡ cells_of old ++ take (k + 1) row
cells_next old pieces row k piece e at =
    map-append cell_of pieces (piece ∷ []) ∙ (ap (λ l. l ++ cell_of piece ∷ []) e
    ∙ (append_assoc (cells_of old) (take k row) (cell_of piece ∷ []) ∙ ap (λ l. cells_of old ++ l) (sym (take_next row k (cell_of piece) at))))

pub helds_next : {F State Cell Items Work : Type 0} (chains : List (ChainView State Cell Items)) (o : Option Origin)
    (old pieces : List (Piece F State Cell Items Work)) (row : List Cell) (k : ℕ) (piece : Piece F State Cell Items Work)
    → kept_states_in pieces ≡ kept_states_in old ++ kept_states_at chains o (take k row) → slice_get row k ≡ Some (cell_of piece)
    → kept_state_in piece ≡ kept_state_at (entries_at chains) (address_from k o)
    → kept_states_in (pieces ++ piece ∷ []) ≡ kept_states_in old ++ kept_states_at chains o (take (k + 1) row)
helds_next {F = F} {State = State} {Cell = Cell} {Items = Items} {Work = Work} chains o old pieces row k piece e at own =
    let hold : Option (ℕ × ℕ) → Option (KeptState State) = kept_state_at (entries_at chains) in
    let here : kept_states_at chains o (take (k + 1) row) ≡ kept_states_at chains o (take k row) ++ kept_state_in piece ∷ [] =
    ap (map hold) (addresses_next o row k (cell_of piece) at)
    ∙ (map-append hold (addresses o (take k row)) (address_from k o ∷ []) ∙ ap (λ h. kept_states_at chains o (take k row) ++ h ∷ []) (sym own)) in
    map-append kept_state_in pieces (piece ∷ []) ∙ (ap (λ l. l ++ kept_state_in piece ∷ []) e
    ∙ (append_assoc (kept_states_in old) (kept_states_at chains o (take k row)) (kept_state_in piece ∷ []) ∙ ap (λ l. kept_states_in old ++ l) (sym here)))

-- One more line of a range.
pub over_next : {X A : Type 0} (g : X → List A) (xs : List X) (from i : ℕ) (x : X) → from ≤ i → slice_get xs i ≡ Some x
    → flat_map g (take (i + 1 - from) (drop from xs)) ≡ flat_map g (take (i - from) (drop from xs)) ++ g x
over_next g xs from i x order e =
    ap (flat_map g) (one_more xs from i x order e) ∙ (flat_map-append g (take (i - from) (drop from xs)) (x ∷ [])
    ∙ ap (λ l. flat_map g (take (i - from) (drop from xs)) ++ l) (flat_map_one g x))
  where
    flat_map_one : {X A : Type 0} (g : X → List A) (x : X) → flat_map g (x ∷ []) ≡ g x
    flat_map_one g x = flat_map-cons g x [] ∙ nil (g x)
      where
        nil : {A : Type 0} (as' : List A) → as' ++ [] ≡ as'
        nil [] = refl
        nil (a ∷ as') = ap (λ l. a ∷ l) (nil as')

-- A piece of a chain that is a fold.
pub kept_there : {F State Cell Items Work E : Type 0} (steps : Steps State Cell Items) (chain : ChainView State Cell Items) (i : ℕ) (result : Result (Piece F State Cell Items Work) E)
    → IsFolded steps chain → i < length chain.cells → ((opening : State) → Folds steps opening chain → IfOk result (λ piece. IsKept steps piece))
    → IfOk result (λ piece. IsKept steps piece)
kept_there {State = State} {Cell = Cell} {Items = Items} steps chain i result folded inside each = ⊎_elim
    (λ (e : chain ≡ no_cells). let count = ap (λ (c : ChainView State Cell Items). length c.cells) e in absurd (let h : ⊥ = omega (arith, inside, count) in h))
    (λ (own : (opening : State) × Folds steps opening chain). each own.0 own.1)
    folded
