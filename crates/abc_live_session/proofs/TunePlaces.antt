-- The places of the file header and the tunes of a text.
use Rattle.std.proofs.Common.{◌≡◌, ℕ, ◌<◌, ◌≤◌, Bool, true, false, if◌then◌else◌, List, [], ◌∷◌, ◌++◌, length, map, Option, Some}
use Rattle.std.proofs.Common.{None, sym, subst, arith}
use Rattle.std.specs.Prelude.{All, IfSome}
use Rattle.std.proofs.lemmas.List.{length-map}
use Rattle.std.proofs.lemmas.List.Elements.{All-cons, All-filter, All-head, All-nil, All-tail}
use Rattle.abc_book.specs.declared.block.Block.{Block}
use Rattle.abc_book.specs.Block.{blocks_of}
use Rattle.abc_book.specs.Laws.{RiseFromTo}
use Rattle.abc_book.proofs.Rising.{blocks_rise}
use Rattle.abc_lines.specs.Text.{Text}
use Rattle.abc_scan.specs.declared.line_class.LineClass.{LineClass}
use Rattle.abc_tune_compiler.specs.Book.{header_in, is_file_header, is_tune, tunes_in}

-- a block of at least one line
pub record LiesIn (count : ℕ) (block : Block) : Type 0 where
  pub some : block.from < block.to
  pub within : block.to ≤ count

rising_forwards : (first : ℕ) (blocks : List Block) (last : ℕ) → RiseFromTo first blocks last → first ≤ last
rising_forwards first [] last rises = rises
rising_forwards first (block ∷ blocks) last rises =
    let rest = rising_forwards block.to blocks last rises.2 in
    omega (arith, rises.0, rises.1, rest)

rising_within : (first : ℕ) (blocks : List Block) (last : ℕ) → RiseFromTo first blocks last → All (LiesIn last) blocks
rising_within first [] last rises = All-nil (LiesIn last)
rising_within first (block ∷ blocks) last rises =
    let own : LiesIn last block = record { some = rises.1; within = rising_forwards block.to blocks last rises.2 } in
    All-cons (LiesIn last) block blocks own (rising_within block.to blocks last rises.2)

-- those of a text
text_blocks_lie : (class : List ℕ → LineClass) (text : Text) → All (LiesIn (length text)) (blocks_of (map class text))
text_blocks_lie class text =
    let many : length (map class text) ≡ length text = length-map text class in
    subst (λ n. All (LiesIn n) (blocks_of (map class text))) many (rising_within 0 (blocks_of (map class text)) (length (map class text)) (blocks_rise (map class text)))

if_some : (P : Block → Type 0) (test : Bool) (block : Block) → P block → IfSome (if test then Some block else None) P
if_some P true block holds = holds
if_some P false block holds = tt

first_lies : (count : ℕ) (blocks : List Block) → All (LiesIn count) blocks → IfSome (header_in blocks) (LiesIn count)
first_lies count [] all = tt
first_lies count (block ∷ blocks) all = if_some (LiesIn count) (is_file_header block.kind) block (All-head (LiesIn count) block blocks all)

module _ (class : List ℕ → LineClass) (text : Text) where
  pub header_lies : (header : Option Block) → header ≡ header_in (blocks_of (map class text)) → IfSome header (LiesIn (length text))
  header_lies header is = subst (λ h. IfSome h (LiesIn (length text))) (sym is) (first_lies (length text) (blocks_of (map class text)) (text_blocks_lie class text))

  pub tunes_lie : (tunes : List Block) → tunes ≡ tunes_in (blocks_of (map class text)) → All (LiesIn (length text)) tunes
  tunes_lie tunes are =
      let filtered : All (LiesIn (length text)) (tunes_in (blocks_of (map class text))) = All-filter
      (λ (block : Block). is_tune block.kind) (LiesIn (length text)) (blocks_of (map class text)) (text_blocks_lie class text) in
      subst (All (LiesIn (length text))) (sym are) filtered

-- what holds of all of two lists one after another
module _ {X : Type 0} (P : X → Type 0) where
  pub all_first : (xs ys : List X) → All P (xs ++ ys) → All P xs
  all_first [] ys all = All-nil P
  all_first (x ∷ xs) ys all = All-cons P x xs (All-head P x (xs ++ ys) all) (all_first xs ys (All-tail P x (xs ++ ys) all))

  pub all_second : (xs ys : List X) → All P (xs ++ ys) → All P ys
  all_second [] ys all = all
  all_second (x ∷ xs) ys all = all_second xs ys (All-tail P x (xs ++ ys) all)
