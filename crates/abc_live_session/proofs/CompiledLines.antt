-- A line is compiled exactly if the file header or a tune has it.
use Rattle.std.proofs.Common.{◌≡◌, ℕ, zero, suc, ◌<◌, ◌≤◌, Bool, true, false, ◌||◌, List, [], ◌∷◌, ◌++◌, Option, Some, None, map, refl, sym, ap, ◌∙◌, subst, arith, append_assoc, leb, leb-true, length, get_or}
use Rattle.std.specs.Option.{option_copied}
use Rattle.std.specs.Prelude.{slice_get}
use Rattle.std.specs.Slice.{IsItemAt}
use Rattle.std.proofs.Common.{Bor, rules}
use Rattle.std.proofs.lemmas.Grind.{elements}
use Rattle.std.specs.List.{flat_map, list_any}
use Rattle.std.specs.List.Sorted.{IsNonDecreasingBy, IsPartitionPoint}
use Rattle.std.proofs.lemmas.Bool.{cond_both, or_from}
use Rattle.std.proofs.lemmas.Bool.Decides.{nat_tests}
use Rattle.abc_book.specs.Block.{Line, block_of, blocks_of, blocks_of_runs, is_x_line, later_blocks, later_kind, opening_blocks, opening_kind, pieces_of, runs_of}
use Rattle.abc_book.specs.Laws.{RiseFromTo, holds}
use Rattle.abc_book.specs.declared.block.Block.{Block}
use Rattle.abc_book.specs.declared.block.BlockKind.{BlockKind}
use Rattle.abc_book.specs.declared.block.BlockKind.TheVariants.{FileHeader, Tune, Free}
use Rattle.abc_book.proofs.Rising.{blocks_rise}
use Rattle.abc_lines.specs.Text.{Text}
use Rattle.abc_live_text.proofs.Spans.{tunes_strict}
use Rattle.abc_scan.specs.declared.line_class.LineClass.{LineClass}
use Rattle.abc_tune_compiler.specs.Book.{header_in, is_file_header, tunes_in}
use Rattle.abc_live_session.specs.Tokens.{compiles, is_in_block}

-- none of these blocks is a file header
abbrev HaveNoHeader : List Block → Type 0
HaveNoHeader [] = Unit {0}
HaveNoHeader (block ∷ blocks) = (is_file_header block.kind ≡ false) × HaveNoHeader blocks

-- only the first of these blocks may be one
abbrev BeginWithHeader : List Block → Type 0
BeginWithHeader [] = Unit {0}
BeginWithHeader (block ∷ blocks) = HaveNoHeader blocks

no_header-append : (xs ys : List Block) → HaveNoHeader xs → HaveNoHeader ys → HaveNoHeader (xs ++ ys)
no_header-append [] ys h k = k
no_header-append (x ∷ xs) ys h k = (h.0, no_header-append xs ys h.1 k)

later_kind-no_header : (class : LineClass) → is_file_header (later_kind class) ≡ false
later_kind-no_header class = cond_both (is_x_line class) Tune Free (λ kind. is_file_header kind ≡ false) (λ _. refl) (λ _. refl)

later_block-no_header : (piece : List Line) → HaveNoHeader (block_of later_kind piece)
later_block-no_header [] = tt
later_block-no_header (line ∷ lines) = (later_kind-no_header line.class, tt)

later_blocks-no_header : (pieces : List (List Line)) → HaveNoHeader (later_blocks pieces)
later_blocks-no_header [] = tt
later_blocks-no_header (piece ∷ pieces) =
    no_header-append (block_of later_kind piece) (later_blocks pieces) (later_block-no_header piece) (later_blocks-no_header pieces)

later_runs-no_header : (runs : List (List Line)) → HaveNoHeader (flat_map (λ later. later_blocks (pieces_of later)) runs)
later_runs-no_header [] = tt
later_runs-no_header (run ∷ runs) =
    no_header-append (later_blocks (pieces_of run)) (flat_map (λ later. later_blocks (pieces_of later)) runs) (later_blocks-no_header (pieces_of run)) (later_runs-no_header runs)

begins_without : (blocks : List Block) → HaveNoHeader blocks → BeginWithHeader blocks
begins_without [] h = tt
begins_without (block ∷ blocks) h = h.1

begins_with : (piece : List Line) (blocks : List Block) → HaveNoHeader blocks → BeginWithHeader (block_of opening_kind piece ++ blocks)
begins_with [] blocks h = begins_without blocks h
begins_with (line ∷ lines) blocks h = h

opening-begins : (pieces : List (List Line)) (blocks : List Block) → HaveNoHeader blocks → BeginWithHeader (opening_blocks pieces ++ blocks)
opening-begins [] blocks h = begins_without blocks h
opening-begins (piece ∷ pieces) blocks h =
    let rest = no_header-append (later_blocks pieces) blocks (later_blocks-no_header pieces) h in
    subst BeginWithHeader (sym (append_assoc (block_of opening_kind piece) (later_blocks pieces) blocks)) (begins_with piece (later_blocks pieces ++ blocks) rest)

runs-begin : (runs : List (List Line)) → BeginWithHeader (blocks_of_runs runs)
runs-begin [] = tt
runs-begin (run ∷ runs) = opening-begins (pieces_of run) (flat_map (λ later. later_blocks (pieces_of later)) runs) (later_runs-no_header runs)

blocks-begin : (classes : List LineClass) → BeginWithHeader (blocks_of classes)
unfolding blocks_of
blocks-begin classes = runs-begin (runs_of classes)

-- the lines of blocks that are no file headers
in_tunes-step : (line from to : ℕ) (kind : BlockKind) (blocks : List Block) → is_file_header kind ≡ false
    → list_any (compiles line) blocks ≡ list_any (holds line) (tunes_in blocks)
    → list_any (compiles line) (record { kind = kind; from = from; to = to } ∷ blocks) ≡ list_any (holds line) (tunes_in (record { kind = kind; from = from; to = to } ∷ blocks))
in_tunes-step line from to FileHeader blocks other later = absurd (cc)
in_tunes-step line from to Tune blocks other later = ap (λ t. holds line (record { kind = Tune; from = from; to = to }) || t) later
in_tunes-step line from to Free blocks other later = later

in_tunes : (line : ℕ) (blocks : List Block) → HaveNoHeader blocks → list_any (compiles line) blocks ≡ list_any (holds line) (tunes_in blocks)
in_tunes line [] h = refl
in_tunes line (block ∷ blocks) h = in_tunes-step line block.from block.to block.kind blocks h.0 (in_tunes line blocks h.1)

in_blocks-step : (line from to : ℕ) (kind : BlockKind) (blocks : List Block)
    → list_any (compiles line) blocks ≡ list_any (holds line) (tunes_in blocks)
    → list_any (compiles line) (record { kind = kind; from = from; to = to } ∷ blocks)
    ≡ (is_in_block line (header_in (record { kind = kind; from = from; to = to } ∷ blocks)) || list_any (holds line) (tunes_in (record { kind = kind; from = from; to = to } ∷ blocks)))
in_blocks-step line from to FileHeader blocks later = ap (λ t. holds line (record { kind = FileHeader; from = from; to = to }) || t) later
in_blocks-step line from to Tune blocks later = ap (λ t. holds line (record { kind = Tune; from = from; to = to }) || t) later
in_blocks-step line from to Free blocks later = later

pub in_blocks : (line : ℕ) (blocks : List Block) → BeginWithHeader blocks
    → list_any (compiles line) blocks ≡ (is_in_block line (header_in blocks) || list_any (holds line) (tunes_in blocks))
in_blocks line [] h = refl
in_blocks line (block ∷ blocks) h = in_blocks-step line block.from block.to block.kind blocks (in_tunes line blocks h)

-- a line before all these blocks is in none
before_all : (line first last : ℕ) (blocks : List Block) → line < first → RiseFromTo first blocks last → list_any (holds line) blocks ≡ false
before_all line first last [] before rise = refl
before_all line first last (block ∷ blocks) before rise =
    let not_here : holds line block ≡ false = not_yet line block (omega (arith, rise.0)) in
    or_from (holds line block) (list_any (holds line) blocks) not_here (before_all line block.to last blocks (omega (arith, rise.0, rise.1)) rise.2)
  where
    not_yet : (line : ℕ) (block : Block) → line < block.from → holds line block ≡ false
    not_yet line block before = grind (arith, nat_tests)

-- the first of these blocks that ends after a line
first_ends-after : (line first last : ℕ) (block : Block) (blocks : List Block) → line < block.to → RiseFromTo first (block ∷ blocks) last
    → list_any (holds line) (block ∷ blocks) ≡ holds line block
first_ends-after line first last block blocks ends rise =
    ap (λ t. holds line block || t) (before_all line block.to last blocks ends rise.2) ∙ or_false (holds line block)
  where
    or_false : (x : Bool) → (x || false) ≡ x
    or_false true = refl
    or_false false = refl

-- a block that ends before a line
ended : (line : ℕ) (block : Block) → leb block.to line ≡ true → holds line block ≡ false
ended line block e = let before : block.to ≤ line = leb-true block.to line e in grind (arith, nat_tests)

ends_after : (line : ℕ) (block : Block) → leb block.to line ≡ false → line < block.to
ends_after line block e = grind (arith, nat_tests)

-- what a search for the first block that ends after a line finds
pub found_at : (line first last : ℕ) (blocks : List Block) (i : ℕ) → RiseFromTo first blocks last
    → IsPartitionPoint (λ block. leb block.to line ≡ true) (λ block. leb block.to line ≡ false) blocks i
    → is_in_block line (slice_get blocks i) ≡ list_any (holds line) blocks
found_at line first last [] i rise point = refl
found_at line first last (block ∷ blocks) zero rise point =
    sym (first_ends-after line first last block blocks (ends_after line block (point.1 0 block (omega arith) (omega arith))) rise)
found_at line first last (block ∷ blocks) (suc i) rise point =
    found_at line block.to last blocks i rise.2
    ((λ k d from to. point.0 (suc k) d (omega arith) (omega (arith, to))), (λ k d from to. point.1 (suc k) d (omega (arith, from)) (omega (arith, to))))
    ∙ sym (ap (λ t. t || list_any (holds line) blocks) (ended line block (point.0 0 block (omega arith) (omega arith))))

-- blocks that rise end later and later
ends_from : (first last : ℕ) (blocks : List Block) (k : ℕ) (d : Block) → RiseFromTo first blocks last → k < length blocks → first ≤ (get_or blocks k d).to
ends_from first last [] k d rise lt = absurd (omega (arith, lt))
ends_from first last (block ∷ blocks) zero d rise lt = omega (arith, rise.0, rise.1)
ends_from first last (block ∷ blocks) (suc k) d rise lt =
    let later = ends_from block.to last blocks k d rise.2 (omega (arith, lt)) in omega (arith, rise.0, rise.1, later)

pub ends_rise : (first last : ℕ) (blocks : List Block) → RiseFromTo first blocks last → IsNonDecreasingBy (λ (block : Block). block.to) blocks
ends_rise first last [] rise i j d le lt = absurd (omega (arith, lt))
ends_rise first last (block ∷ blocks) rise zero zero d le lt = omega arith
ends_rise first last (block ∷ blocks) rise zero (suc j) d le lt = ends_from block.to last blocks j d rise.2 (omega (arith, lt))
ends_rise first last (block ∷ blocks) rise (suc i) zero d le lt = absurd (omega (arith, le))
ends_rise first last (block ∷ blocks) rise (suc i) (suc j) d le lt = ends_rise block.to last blocks rise.2 i j d (omega (arith, le)) (omega (arith, lt))

-- the item at an index
pub copied_at : (xs : List Block) (i : ℕ) (r : Option (Bor Block)) → IsItemAt xs i r → option_copied r ≡ slice_get xs i
copied_at [] i None item = refl
copied_at [] i (Some r) item = grind (arith, elements, nat_tests)
copied_at (x ∷ xs) zero None item = grind (arith, elements, nat_tests)
copied_at (x ∷ xs) zero (Some r) item = let e = item.1 in ap Some (search rules)
copied_at (x ∷ xs) (suc i) r item = copied_at xs i r (search rules)

module _ (class : List ℕ → LineClass) (text : Text) where
  -- the tunes of a text follow one another
  pub tunes_in_order : (tunes : List Block) → tunes ≡ tunes_in (blocks_of (map class text)) → RiseFromTo 0 tunes (length (map class text))
  tunes_in_order tunes are = subst (λ (blocks : List Block). RiseFromTo 0 blocks (length (map class text))) (sym are)
      (tunes_strict 0 (blocks_of (map class text)) (length (map class text)) (blocks_rise (map class text)))

  -- its file header and its tunes have the lines that are compiled
  pub parts-compile : (header : Option Block) (tunes : List Block) (line : ℕ) → header ≡ header_in (blocks_of (map class text)) → tunes ≡ tunes_in (blocks_of (map class text))
      → (is_in_block line header || list_any (holds line) tunes) ≡ list_any (compiles line) (blocks_of (map class text))
  parts-compile header tunes line is are =
      (λ i. is_in_block line (is i) || list_any (holds line) (are i)) ∙ sym (in_blocks line (blocks_of (map class text)) (blocks-begin (map class text)))
