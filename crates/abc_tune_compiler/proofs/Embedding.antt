-- On lines that two compilers read alike, a compiler inside another one and that one make the same.
use Rattle.std.proofs.Common.{◌≡◌, ℕ, ◌+◌, ◌-◌, List, [], ◌∷◌, ◌++◌, All, map, drop, Option, Some, None, unwrap_or, refl, sym, ap, ◌∙◌}
use Rattle.std.proofs.lemmas.List.{map-append}
use Rattle.std.proofs.lemmas.List.Elements.{All-take, All-drop, All-head, All-tail}
use Rattle.abc_book.specs.Block.{blocks_of}
use Rattle.abc_book.specs.declared.block.Block.{Block}
use Rattle.abc_fields.specs.declared.fault_code.FaultCode.{FaultCode}
use Rattle.abc_fold.specs.Steps.{Steps}
use Rattle.abc_lines.specs.Text.{Text}
use Rattle.abc_tune_compiler.specs.Book.{blocks_in, book_from, book_of, compiled_text, compiled_text_of, header_faults, header_in, opening_of, state_after_header, tunes_in}
use Rattle.abc_tune_compiler.specs.Embedding.{HasSameBook, HasSameTune, IsEmbedded, IsReadAlike}
use Rattle.abc_tune_compiler.specs.Placed.{Placed, placed_at, placed_values, cells_from, items_along, state_along}
use Rattle.abc_tune_compiler.specs.Rules.{Rules}
use Rattle.abc_tune_compiler.specs.Tune.{cells_in, fault_in, fault_of_tune, faults_along, first_of, lines_in, tune_from, tune_of}

module _ {A B : Type 0} (f : A → B) where
  -- A value in a line, taken as another one.
  abbrev placed_as : Placed A → Placed B
  placed_as one = placed_at one.line (f one.here)

  placed_line : (n : ℕ) (xs : List A) → map (placed_at n) (map f xs) ≡ map placed_as (map (placed_at n) xs)
  placed_line n [] = refl
  placed_line n (x ∷ xs) = ap (λ l. placed_at n (f x) ∷ l) (placed_line n xs)

  values_as : (xs : List (Placed A)) → placed_values (map placed_as xs) ≡ map f (placed_values xs)
  values_as [] = refl
  values_as (x ∷ xs) = ap (λ l. f x.here ∷ l) (values_as xs)

  first_as : {V : Type 0} (value : B → Option V) (base : A → Option V) (d : V) → ((a : A) → value (f a) ≡ base a) → (xs : List A)
      → first_of value d (map f xs) ≡ first_of base d xs
  first_as value base d same [] = refl
  first_as value base d same (x ∷ xs) =
      ap (λ v. unwrap_or v (first_of value d (map f xs))) (same x) ∙ ap (unwrap_or (base x)) (first_as value base d same xs)

  faults_as : (value : B → List (ℕ × FaultCode)) (base : A → List (ℕ × FaultCode)) → ((a : A) → value (f a) ≡ base a)
      → (xs : List (Placed A)) → faults_along value (map placed_as xs) ≡ faults_along base xs
  faults_as value base same [] = refl
  faults_as value base same (x ∷ xs) =
      ap (λ v. map (fault_in x.line) v ++ faults_along value (map placed_as xs)) (same x.here)
      ∙ ap (λ l. map (fault_in x.line) (base x.here) ++ l) (faults_as value base same xs)

-- Functions that are equal at each element of a list give the same list.
pub map_same : {A B : Type 0} {P : A → Type 0} (f g : A → B) → ((a : A) → P a → f a ≡ g a) → (xs : List A) → All P xs
    → map f xs ≡ map g xs
map_same f g same [] all = refl
map_same {P = P} f g same (x ∷ xs) all =
    ap (λ y. y ∷ map f xs) (same x (All-head P x xs all)) ∙ ap (λ l. g x ∷ l) (map_same f g same xs (All-tail P x xs all))

module _ {State Cell Items Defaults OuterState OuterCell OuterItems OuterDefaults : Type 0}
    (steps : Steps State Cell Items) (rules : Rules State Cell Items Defaults)
    (outer : Steps OuterState OuterCell OuterItems) (outer_rules : Rules OuterState OuterCell OuterItems OuterDefaults)
    (state : State → OuterState) (cell : Cell → OuterCell) (items : Items → OuterItems)
    (e : IsEmbedded steps rules outer outer_rules state cell items) where
  abbrev IsAlike : List ℕ → Type 0
  IsAlike line = IsReadAlike rules outer_rules cell line

  cells_as : (n : ℕ) (text : Text) → All IsAlike text
      → cells_from outer_rules.cells n text ≡ map (placed_as cell) (cells_from rules.cells n text)
  cells_as n [] all = refl
  cells_as n (line ∷ text) all =
      ap (λ l. map (placed_at n) l ++ cells_from outer_rules.cells (n + 1) text) (All-head IsAlike line text all).cells
      ∙ ap (λ l. l ++ cells_from outer_rules.cells (n + 1) text) (placed_line cell n (rules.cells line))
      ∙ ap (λ l. map (placed_as cell) (map (placed_at n) (rules.cells line)) ++ l)
      (cells_as (n + 1) text (All-tail IsAlike line text all))
      ∙ sym (map-append (placed_as cell) (map (placed_at n) (rules.cells line)) (cells_from rules.cells (n + 1) text))

  items_as : (s : State) (cells : List (Placed Cell)) → items_along outer.next outer.gives (state s) (map (placed_as cell) cells)
      ≡ map (placed_as items) (items_along steps.next steps.gives s cells)
  items_as s [] = refl
  items_as s (c ∷ cells) =
      ap (λ i. placed_at c.line i ∷ items_along outer.next outer.gives (outer.next (state s) (cell c.here)) (map (placed_as cell) cells))
      (e.gives s c.here)
      ∙ ap (λ t. placed_at c.line (items (steps.gives s c.here)) ∷ items_along outer.next outer.gives t (map (placed_as cell) cells))
      (e.next s c.here)
      ∙ ap (λ l. placed_at c.line (items (steps.gives s c.here)) ∷ l) (items_as (steps.next s c.here) cells)

  state_as : (s : State) (cells : List (Placed Cell)) → state_along outer.next (state s) (map (placed_as cell) cells)
      ≡ state (state_along steps.next s cells)
  state_as s [] = refl
  state_as s (c ∷ cells) =
      ap (λ t. state_along outer.next t (map (placed_as cell) cells)) (e.next s c.here) ∙ state_as (steps.next s c.here) cells

  block_cells : (text : Text) (block : Block) → All IsAlike (lines_in text block)
      → cells_in outer_rules text block ≡ map (placed_as cell) (cells_in rules text block)
  block_cells text block all = cells_as (block.from + 1) (lines_in text block) all

  block_lines : (text : Text) → All IsAlike text → (block : Block) → All IsAlike (lines_in text block)
  block_lines text all block = All-take IsAlike (block.to - block.from) (drop block.from text) (All-drop IsAlike block.from text all)

  tune_as : (n : ℕ) (is : List (Placed Items)) → tune_from outer_rules n (map (placed_as items) is) ≡ tune_from rules n is
  tune_as n is =
      let values = values_as items is in
      let number =
      ap (first_of outer_rules.number 0) values
      ∙ first_as items outer_rules.number rules.number 0 e.number (placed_values is) in
      let title =
      ap (first_of outer_rules.title []) values
      ∙ first_as items outer_rules.title rules.title [] e.title (placed_values is) in
      let bytes = ap outer_rules.bytes values ∙ e.bytes (placed_values is) in
      let whole =
      ap (λ l. map (fault_of_tune n) (outer_rules.build_faults l)) values
      ∙ ap (map (fault_of_tune n)) (e.build_faults (placed_values is)) in
      let each = faults_as items outer_rules.faults rules.faults e.faults is in
      λ i. record { number = number i; title = title i; bytes = bytes i; faults = whole i ++ each i }

  pub same_tune : (opening : State) (text : Text) (block : Block) → All IsAlike (lines_in text block)
      → tune_of outer.next outer.gives outer_rules (state opening) text block ≡ tune_of steps.next steps.gives rules opening text block
  unfolding tune_of
  same_tune s text block all =
      ap (λ cells. tune_from outer_rules (block.from + 1) (items_along outer.next outer.gives (state s) cells))
      (block_cells text block all)
      ∙ ap (tune_from outer_rules (block.from + 1)) (items_as s (cells_in rules text block))
      ∙ tune_as (block.from + 1) (items_along steps.next steps.gives s (cells_in rules text block))

  tunes_as : (s : State) (text : Text) → All IsAlike text → (blocks : List Block)
      → map (tune_of outer.next outer.gives outer_rules (state s) text) blocks
      ≡ map (tune_of steps.next steps.gives rules s text) blocks
  tunes_as s text all [] = refl
  tunes_as s text all (block ∷ blocks) =
      ap (λ t. t ∷ map (tune_of outer.next outer.gives outer_rules (state s) text) blocks)
      (same_tune s text block (block_lines text all block))
      ∙ ap (λ l. tune_of steps.next steps.gives rules s text block ∷ l) (tunes_as s text all blocks)

  header_faults_as : (text : Text) → All IsAlike text → (header : Option Block)
      → header_faults outer.next outer.gives outer_rules text header ≡ header_faults steps.next steps.gives rules text header
  header_faults_as text all None = refl
  header_faults_as text all (Some block) =
      let cells = cells_in rules text block in
      ap (λ l. faults_along outer_rules.faults (items_along outer.next outer.gives outer_rules.header l))
      (block_cells text block (block_lines text all block))
      ∙ ap (λ s. faults_along outer_rules.faults (items_along outer.next outer.gives s (map (placed_as cell) cells))) e.header
      ∙ ap (faults_along outer_rules.faults) (items_as rules.header cells)
      ∙ faults_as items outer_rules.faults rules.faults e.faults (items_along steps.next steps.gives rules.header cells)

  opening_as : (text : Text) → All IsAlike text → (header : Option Block)
      → outer_rules.tune (state_after_header outer.next outer_rules text header)
      ≡ state (rules.tune (state_after_header steps.next rules text header))
  opening_as text all None = e.first
  opening_as text all (Some block) =
      let cells = cells_in rules text block in
      ap (λ l. outer_rules.tune (Some (state_along outer.next outer_rules.header l)))
      (block_cells text block (block_lines text all block))
      ∙ ap (λ s. outer_rules.tune (Some (state_along outer.next s (map (placed_as cell) cells)))) e.header
      ∙ ap (λ s. outer_rules.tune (Some s)) (state_as rules.header cells)
      ∙ e.tune (state_along steps.next rules.header cells)

  compiled_as : (text : Text) → All IsAlike text → (blocks : List Block)
      → compiled_text_of outer.next outer.gives outer_rules text blocks ≡ compiled_text_of steps.next steps.gives rules text blocks
  compiled_as text all blocks =
      let faults = header_faults_as text all (header_in blocks) in
      let tunes =
      ap (λ s. map (tune_of outer.next outer.gives outer_rules s text) (tunes_in blocks)) (opening_as text all (header_in blocks))
      ∙ tunes_as (opening_of steps.next rules text blocks) text all (tunes_in blocks) in
      λ i. compiled_text (faults i) (tunes i)

  pub same_book : (text : Text) → All IsAlike text → book_of outer outer_rules text ≡ book_of steps rules text
  unfolding book_of
  same_book text all =
      ap (λ classes. book_from (compiled_text_of outer.next outer.gives outer_rules text (blocks_of classes)))
      (map_same {P = IsAlike} outer_rules.class rules.class (λ line alike. alike.class) text all)
      ∙ ap book_from (compiled_as text all (blocks_in rules text))

pub has_same_tune : {State Cell Items Defaults OuterState OuterCell OuterItems OuterDefaults : Type 0}
    → HasSameTune State Cell Items Defaults OuterState OuterCell OuterItems OuterDefaults
has_same_tune steps rules outer outer_rules state cell items embedded = same_tune steps rules outer outer_rules state cell items embedded

pub has_same_book : {State Cell Items Defaults OuterState OuterCell OuterItems OuterDefaults : Type 0}
    → HasSameBook State Cell Items Defaults OuterState OuterCell OuterItems OuterDefaults
has_same_book steps rules outer outer_rules state cell items embedded = same_book steps rules outer outer_rules state cell items embedded
