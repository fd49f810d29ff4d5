-- The places of the items of a tune are those of tokens of its text.
use Rattle.std.proofs.Common.{◌≡◌, ℕ, zero, suc, ◌+◌, ◌-◌, ◌==◌, true, false, cond, List, [], ◌∷◌, ◌++◌, drop, map, Option, Some, None}
use Rattle.std.proofs.Common.{refl, sym, ap, subst, ◌∙◌, append_assoc, arith}
use Rattle.std.specs.List.{AllZip, flat_map}
use Rattle.std.specs.Option.{option_map}
use Rattle.std.specs.Prelude.{All, Contains, slice_get}
use Rattle.std.proofs.lemmas.Bool.{ne_eqb}
use Rattle.std.proofs.lemmas.List.{take-append-drop}
use Rattle.std.proofs.lemmas.List.Elements.{All-append, All-contains_itself, All-head, All-map, All-nil, All-tail, All-weaker}
use Rattle.std.proofs.lemmas.Option.{get_or_from_slice_get, none-some, same_Some, slice_get_within}
use Rattle.abc_bars.proofs.LookBack.Along.{tune_looked_back}
use Rattle.abc_bars.proofs.LookBack.BodyState.{body_at_nil}
use Rattle.abc_bars.proofs.LookBack.Places.{stepped_back}
use Rattle.abc_bars.proofs.LookBack.TunePlaces.{places_kept}
use Rattle.abc_bars.specs.LookBack.Along.{place_after, tune_beginning, values_of_header}
use Rattle.abc_bars.specs.LookBack.BodyState.{body_at}
use Rattle.abc_bars.specs.LookBack.CellPlace.{CellPlace}
use Rattle.abc_bars.specs.LookBack.Element.{Element}
use Rattle.abc_bars.specs.LookBack.Place.{Place as TunePlace, InFileHeader, InHeader, InBody, opening_at, place_following, view}
use Rattle.abc_bars.specs.LookBack.TunePlaces.{IsOfTune}
use Rattle.abc_bars_body.specs.Cell.{empty_cell_result, with_token}
use Rattle.abc_bars_body.specs.declared.cell.CellResult.{CellResult}
use Rattle.abc_bars_body.specs.declared.entry.Entry.{Entry}
use Rattle.abc_bars_header.specs.Defaults.{no_defaults}
use Rattle.abc_bars_header.specs.HeaderLine.{HeaderLine}
use Rattle.abc_bars_header.specs.declared.defaults.Defaults.{Defaults}
use Rattle.abc_bars_items.specs.Item.{Items}
use Rattle.abc_bars_items.specs.declared.item.Item.{Item}
use Rattle.abc_book.specs.declared.block.Block.{Block}
use Rattle.abc_fields.specs.Key.{empty_key}
use Rattle.abc_fields.specs.declared.key.Key.{Key}
use Rattle.abc_fold.specs.Steps.{items_from, state_after}
use Rattle.abc_lines.specs.Text.{Text}
use Rattle.abc_live_session.specs.Edit.{line_at}
use Rattle.abc_scan.specs.declared.spanned.Spanned.{Spanned}
use Rattle.abc_scan.specs.declared.token.TokenKind.{TokenKind}
use Rattle.abc_scan.specs.declared.token.TokenKind.TheVariants as tokens
use Rattle.abc_tune.specs.Abc.{rules_of_abc, steps_of_abc}
use Rattle.abc_tune_compiler.specs.Book.{blocks_in, header_in, state_after_header}
use Rattle.abc_tune_compiler.specs.Placed.{Placed, cells_from, placed_at, placed_values, state_along}
use Rattle.abc_tune_compiler.specs.Tune.{cells_in, lines_in}
use Rattle.abc_voices.specs.Layout.{items_in}
use Rattle.abc_play_places.specs.Givers.{gives_place, has_place, matched}
use Rattle.abc_play_places.proofs.Adding.{GivesItem}
use Rattle.abc_play_places.proofs.Matched.{MayBeGiven, Tokens, after_front}
use Rattle.abc_play.specs.Laws.{IsIn, IsTokenOf, header_cells}
use Rattle.abc_play.specs.Places.{cell_places, giver_places, some_places, token_places, tune_places}
use Rattle.abc_play.specs.Play.{block_items, opening_in}
use Rattle.abc_play.specs.declared.place.Place.{Place}
use Rattle.abc_play.proofs.EntryItems.{first_at, rest_at}
use Rattle.abc_play.proofs.Heard.{Heard, chord_heard, front_body, note_heard}
use Rattle.abc_play.proofs.HeaderItems.{body_in, cell_given}

-- what is at a place is in the list
pub is_in : {X : Type 0} (xs : List X) (i : ℕ) (x : X) → slice_get xs i ≡ Some x → Contains xs x
is_in xs i x is = (i, slice_get_within xs i x is, get_or_from_slice_get xs i x x is)

-- two lists, element by element
zip_append : {A B : Type 0} (R : A → B → Type 0) (xs others : List A) (ys more : List B) → AllZip R xs ys → AllZip R others more → AllZip R (xs ++ others) (ys ++ more)
zip_append R [] others [] more all rest = rest
zip_append R [] others (y ∷ ys) more all rest = absurd all
zip_append R (x ∷ xs) others [] more all rest = absurd all
zip_append R (x ∷ xs) others (y ∷ ys) more all rest = (all.0, zip_append R xs others ys more all.1 rest)

zip_map : {A B C : Type 0} (R : A → B → Type 0) (S : A → C → Type 0) (f : B → C) (xs : List A) (ys : List B) → ((x : A) (y : B) → R x y → S x (f y)) → AllZip R xs ys
    → AllZip S xs (map f ys)
zip_map R S f [] [] each all = tt
zip_map R S f [] (y ∷ ys) each all = absurd all
zip_map R S f (x ∷ xs) [] each all = absurd all
zip_map R S f (x ∷ xs) (y ∷ ys) each all = (each x y all.0, zip_map R S f xs ys each all.1)

pub zip_here : {A B : Type 0} (R : A → B → Type 0) (xs : List A) (ys : List B) (i : ℕ) (x : A) → AllZip R xs ys → slice_get xs i ≡ Some x
    → (y : B) × (slice_get ys i ≡ Some y) × R x y
zip_here R [] ys i x all here = absurd (none-some x here)
zip_here R (one ∷ xs) [] i x all here = absurd all
zip_here R (one ∷ xs) (y ∷ ys) zero x all here = (y, refl, subst (λ a. R a y) (same_Some one x here) all.0)
zip_here R (one ∷ xs) (y ∷ ys) (suc i) x all here = zip_here R xs ys i x all.1 here

-- the line of a number
line_here : (text : Text) (at : ℕ) → line_at text (at + 1) ≡ slice_get text at
line_here text at =
    let some : ((at + 1) == 0) ≡ false = ne_eqb (at + 1) 0 (λ none. omega (arith, none)) in
    let same : at + 1 - 1 ≡ at = omega arith in
    ap (λ b. cond b None (slice_get text (at + 1 - 1))) some ∙ ap (slice_get text) same

-- the place of a token after what is before its cell, and the tokens in front of it there
abbrev values_in : TunePlace → Defaults
values_in (InFileHeader before) = no_defaults
values_in (InHeader values fields) = values
values_in (InBody values fields key before) = values

abbrev fields_in : TunePlace → List HeaderLine
fields_in (InFileHeader before) = []
fields_in (InHeader values fields) = fields
fields_in (InBody values fields key before) = fields

abbrev key_in : TunePlace → Key
key_in (InFileHeader before) = empty_key
key_in (InHeader values fields) = empty_key
key_in (InBody values fields key before) = key

abbrev before_in : TunePlace → List Element
before_in (InFileHeader before) = []
before_in (InHeader values fields) = []
before_in (InBody values fields key before) = before

abbrev place_in : TunePlace → Tokens → ℕ → ℕ → Tokens → CellPlace
place_in at front from to ahead = record {
  values = values_in at;
  fields = fields_in at;
  key = key_in at;
  before = before_in at;
  front = front;
  from = from;
  to = to;
  ahead = ahead;
}

is_in_place : (values : Defaults) (at : TunePlace) (front : Tokens) (from to : ℕ) (ahead : Tokens) → IsOfTune values at → IsIn at (place_in at front from to ahead)
is_in_place values (InFileHeader before) front from to ahead is = absurd is
is_in_place values (InHeader own fields) front from to ahead is = (refl, refl, refl, refl)
is_in_place values (InBody own fields key before) front from to ahead is = (refl, refl, refl, refl)

state_in : (values : Defaults) (at : TunePlace) → IsOfTune values at
    → body_in (view at) ≡ body_at (opening_at (values_in at) (fields_in at) (key_in at)) (before_in at)
state_in values (InFileHeader before) is = absurd is
state_in values (InHeader own []) is = sym (body_at_nil own [] empty_key)
state_in values (InHeader own (line ∷ fields)) is = sym (body_at_nil own (line ∷ fields) empty_key)
state_in values (InBody own fields key before) is = refl

-- the item of a token there has the keys of its place
abbrev start_of : TunePlace → Tokens → Tokens → CellResult
start_of at front rest = after_front (empty_cell_result (body_in (view at))) front rest

item_heard : (values : Defaults) (at : TunePlace) (front : Tokens) (from to : ℕ) (ahead : Tokens) (kind : TokenKind) (item : Item) → IsOfTune values at → gives_place kind ≡ true
    → (with_token (start_of at front (record { kind = kind; from = from; to = to } ∷ ahead)) (record { kind = kind; from = from; to = to }) ahead).items.items
    ≡ (start_of at front (record { kind = kind; from = from; to = to } ∷ ahead)).items.items ++ item ∷ []
    → Heard (place_in at front from to ahead) kind item
item_heard values at front from to ahead (tokens.Note note) item is placed adds =
    let token : Spanned TokenKind = record { kind = tokens.Note note; from = from; to = to } in
    note_heard (place_in at front from to ahead) (start_of at front (token ∷ ahead))
    (front_body (values_in at) (fields_in at) (key_in at) token ahead refl (empty_cell_result (body_in (view at))) (before_in at) front (state_in values at is)) item note adds
item_heard values at front from to ahead (tokens.Chord chord) item is placed adds =
    let token : Spanned TokenKind = record { kind = tokens.Chord chord; from = from; to = to } in
    chord_heard (place_in at front from to ahead) (start_of at front (token ∷ ahead))
    (front_body (values_in at) (fields_in at) (key_in at) token ahead refl (empty_cell_result (body_in (view at))) (before_in at) front (state_in values at is)) item chord placed adds
item_heard values at front from to ahead _ item is placed adds = tt

-- the place after one more cell
along_one : (place : TunePlace) (cells : List Tokens) (cell : Tokens) → place_after place (cells ++ cell ∷ []) ≡ place_following (place_after place cells) cell
along_one place [] cell = refl
along_one place (first ∷ cells) cell = along_one (place_following place first) cells cell

-- the state in which the tunes of a text begin is the view of their beginning
state_values : (state : Entry) (cells : List (Placed Tokens)) → state_along steps_of_abc.next state cells ≡ state_after steps_of_abc.next state (placed_values cells)
state_values state [] = refl
state_values state (one ∷ cells) = state_values (steps_of_abc.next state one.here) cells

opened_by : (text : Text) (header : Option Block)
    → rules_of_abc.tune (state_after_header steps_of_abc.next rules_of_abc text header)
    ≡ view (tune_beginning (option_map (λ (block : Block). placed_values (cells_in rules_of_abc text block)) header))
opened_by text None = (tune_looked_back None).following []
opened_by text (Some block) =
    ap (λ (state : Entry). rules_of_abc.tune (Some state)) (state_values rules_of_abc.header (cells_in rules_of_abc text block))
    ∙ (tune_looked_back (Some (placed_values (cells_in rules_of_abc text block)))).following []

opened : (text : Text) → opening_in text ≡ view (tune_beginning (header_cells text))
opened text = opened_by text (header_in (blocks_in rules_of_abc text))

-- the cells without their lines
values_append : (some others : List (Placed Tokens)) → placed_values (some ++ others) ≡ placed_values some ++ placed_values others
values_append [] others = refl
values_append (one ∷ some) others = ap (λ l. one.here ∷ l) (values_append some others)

values_line : (number : ℕ) (cells : List Tokens) → placed_values (map (placed_at number) cells) ≡ cells
values_line number [] = refl
values_line number (cell ∷ cells) = ap (λ l. cell ∷ l) (values_line number cells)

pub values_from : (number : ℕ) (lines : Text) → placed_values (cells_from rules_of_abc.cells number lines) ≡ flat_map rules_of_abc.cells lines
values_from number [] = refl
values_from number (line ∷ lines) =
    values_append (map (placed_at number) (rules_of_abc.cells line)) (cells_from rules_of_abc.cells (number + 1) lines)
    ∙ (λ i. values_line number (rules_of_abc.cells line) i ++ values_from (number + 1) lines i)

-- a token by its kind and its place
abbrev pub token_at : CellPlace → TokenKind → Spanned TokenKind
token_at place kind = record { kind = kind; from = place.from; to = place.to }

module _ (text : Text) where
  -- a cell of a line of the text
  record IsCellOf (one : Placed Tokens) : Type 0 where
    line : List ℕ
    at_line : line_at text one.line ≡ Some line
    in_line : Contains (rules_of_abc.cells line) one.here

  line_cells : (number : ℕ) (line : List ℕ) → line_at text number ≡ Some line → All IsCellOf (map (placed_at number) (rules_of_abc.cells line))
  line_cells number line is =
      All-map IsCellOf (placed_at number) (rules_of_abc.cells line)
      (All-weaker (Contains (rules_of_abc.cells line)) (λ cell. IsCellOf (placed_at number cell)) (λ cell inside. record { line = line; at_line = is; in_line = inside })
      (rules_of_abc.cells line) (All-contains_itself (rules_of_abc.cells line)))

  lines_cells : (at : ℕ) (lines after : Text) → drop at text ≡ lines ++ after → All IsCellOf (cells_from rules_of_abc.cells (at + 1) lines)
  lines_cells at [] after is = All-nil IsCellOf
  lines_cells at (line ∷ lines) after is =
      All-append IsCellOf (map (placed_at (at + 1)) (rules_of_abc.cells line)) (cells_from rules_of_abc.cells (at + 1 + 1) lines)
      (line_cells (at + 1) line (line_here text at ∙ first_at text at line (lines ++ after) is))
      (lines_cells (at + 1) lines after (rest_at text at line (lines ++ after) is))

  block_cells : (block : Block) → All IsCellOf (cells_in rules_of_abc text block)
  block_cells block =
      let rest = drop block.from text in
      lines_cells block.from (lines_in text block) (drop (block.to - block.from) rest) (sym (take-append-drop (block.to - block.from) rest))

module _ (text : Text) (block : Block) where
  -- a token of a line of a tune gives an item, which has its places
  pub record IsPlaced (item : Item) (own : List Place) : Type 0 where
    pub number : ℕ
    pub line : List ℕ
    pub cell : Tokens
    pub place : CellPlace
    pub kind : TokenKind
    pub at_line : line_at text number ≡ Some line
    pub in_line : Contains (rules_of_abc.cells line) cell
    pub in_cell : Contains cell (token_at place kind)
    pub of_tune : IsTokenOf text block number place kind
    pub places : own ≡ token_places number (token_at place kind)
    pub fits : GivesItem kind item
    pub heard : Heard place kind item

  abbrev pub MayBePlaced : Item → List Place → Type 0
  MayBePlaced item own = has_place item ≡ true → IsPlaced item own

  abbrev beginning : TunePlace
  beginning = tune_beginning (header_cells text)

  -- the cells of the tune up to a place, this one and those after it
  record IsAfter (earlier : List (Placed Tokens)) (at : TunePlace) (cells : List (Placed Tokens)) : Type 0 where
    split : cells_in rules_of_abc text block ≡ earlier ++ cells
    reached : place_after beginning (placed_values earlier) ≡ at

  of_tune_at : (earlier : List (Placed Tokens)) (at : TunePlace) (cells : List (Placed Tokens)) → IsAfter earlier at cells → IsOfTune (values_of_header (header_cells text)) at
  of_tune_at earlier at cells after =
      subst (IsOfTune (values_of_header (header_cells text))) after.reached (places_kept (header_cells text) (placed_values earlier))

  giver_placed : (earlier : List (Placed Tokens)) (at : TunePlace) (one : Placed Tokens) (later : List (Placed Tokens)) → IsAfter earlier at (one ∷ later) → IsCellOf text one
      → (item : Item) (giver : Option ℕ) → MayBeGiven (body_in (view at)) one.here item giver → MayBePlaced item (giver_places one.line one.here giver)
  giver_placed earlier at one later after own item giver may = λ has.
      let is = may has in
      let values = values_of_header (header_cells text) in
      let of_tune = of_tune_at earlier at (one ∷ later) after in
      let place = place_in at is.front is.token.from is.token.to is.ahead in
      record {
        number = one.line;
        line = own.line;
        cell = one.here;
        place = place;
        kind = is.token.kind;
        at_line = own.at_line;
        in_line = own.in_line;
        in_cell = is_in one.here is.at is.token is.here;
        of_tune = record {
          earlier = earlier;
          later = later;
          split = after.split ∙ ap (λ (cell : Tokens). earlier ++ placed_at one.line cell ∷ later) is.split;
          before = subst (λ (reached : TunePlace). IsIn reached place) (sym after.reached) (is_in_place values at is.front is.token.from is.token.to is.ahead of_tune);
        };
        places = ap (giver_places one.line one.here) is.is ∙ ap (some_places one.line) is.here;
        fits = is.fits;
        heard = item_heard values at is.front is.token.from is.token.to is.ahead is.token.kind item of_tune is.placed is.adds;
      }

  next_cell : (earlier : List (Placed Tokens)) (at : TunePlace) (one : Placed Tokens) (later : List (Placed Tokens)) → IsAfter earlier at (one ∷ later)
      → IsAfter (earlier ++ one ∷ []) (place_following at one.here) later
  next_cell earlier at one later after = record {
    split = after.split ∙ sym (append_assoc earlier (one ∷ []) later);
    reached =
        ap (place_after beginning) (values_append earlier (one ∷ [])) ∙ along_one beginning (placed_values earlier) one.here
        ∙ ap (λ (place : TunePlace). place_following place one.here) after.reached;
  }

  abbrev ArePlaced : Entry → List (Placed Tokens) → Type 0
  ArePlaced state cells =
      AllZip MayBePlaced (items_in (items_from steps_of_abc state (placed_values cells))) (tune_places cells (items_from steps_of_abc state (placed_values cells)))

  tune_placed : (earlier : List (Placed Tokens)) (at : TunePlace) (cells : List (Placed Tokens)) → IsAfter earlier at cells → All (IsCellOf text) cells
      → ArePlaced (view at) cells
  tune_placed earlier at [] after all = tt
  tune_placed earlier at (one ∷ cells) after all =
      let given = steps_of_abc.gives (view at) one.here in
      let next = steps_of_abc.next (view at) one.here in
      let rest = items_from steps_of_abc next (placed_values cells) in
      zip_append MayBePlaced given.items (items_in rest) (cell_places one.line one.here given.items) (tune_places cells rest)
      (zip_map (MayBeGiven (body_in (view at)) one.here) MayBePlaced (giver_places one.line one.here) given.items (matched one.here 0 given.items)
      (giver_placed earlier at one cells after (All-head (IsCellOf text) one cells all)) (cell_given (view at) one.here))
      (subst (λ (state : Entry). ArePlaced state cells) (sym (ap (λ (made : Entry × Items). made.0) (stepped_back at one.here)))
      (tune_placed (earlier ++ one ∷ []) (place_following at one.here) cells (next_cell earlier at one cells after) (All-tail (IsCellOf text) one cells all)))

  -- the items of a tune
  pub block_placed : AllZip MayBePlaced (items_in (block_items text block)) (tune_places (cells_in rules_of_abc text block) (block_items text block))
  block_placed =
      let cells = cells_in rules_of_abc text block in
      subst (λ l. AllZip MayBePlaced (items_in (items_from steps_of_abc (opening_in text) l)) (tune_places cells (items_from steps_of_abc (opening_in text) l)))
      (values_from (block.from + 1) (lines_in text block))
      (subst (λ (state : Entry). ArePlaced state cells) (sym (opened text))
      (tune_placed [] beginning cells (record { split = refl; reached = refl }) (block_cells text block)))
