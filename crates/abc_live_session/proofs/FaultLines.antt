-- The lines of the faults of tunes and of a file header: the faults move with their lines.
use Rattle.std.proofs.Common.{◌≡◌, ℕ, ◌+◌, ◌-◌, ◌<◌, ◌≤◌, List, [], ◌∷◌, ◌++◌, length, drop, map, take, Option, Some, None, refl}
use Rattle.std.proofs.Common.{sym, ap, ◌∙◌, arith}
use Rattle.std.specs.Prelude.{All, IfSome}
use Rattle.std.proofs.lemmas.List.{drop-drop, drop-take, length-drop, length-take-le, map-append, take-take}
use Rattle.std.proofs.lemmas.List.Elements.{All-append, All-head, All-nil, All-tail}
use Rattle.abc_book.specs.Stretch.{shift_block}
use Rattle.abc_book.specs.declared.block.Block.{Block}
use Rattle.abc_fold.specs.Steps.{Steps}
use Rattle.abc_live_index.specs.Faults.{shifted_fault}
use Rattle.abc_lines.specs.Text.{Text}
use Rattle.abc_live_session.proofs.TunePlaces.{LiesIn, all_second}
use Rattle.abc_live_index.specs.Tunes.{faults_of_tunes}
use Rattle.abc_tune_compiler.specs.Book.{state_after_header, header_faults}
use Rattle.abc_tune_compiler.specs.Laws.{fault_moved}
use Rattle.abc_tune_compiler.specs.Placed.{cells_from, items_along, state_along, placed_values}
use Rattle.abc_tune_compiler.specs.Rules.{Rules}
use Rattle.abc_tune_compiler.specs.Tune.{Tune, fault_of_tune, faults_along, lines_in, tune_from, tune_of}
use Rattle.abc_tune_compiler.specs.declared.fault.Fault.{Fault}
use Rattle.abc_tune_compiler.proofs.Moves.{tunes_move}
use Rattle.abc_tune_compiler.proofs.Within.{faults_in_lines}

-- A fault is in one of the lines after the number `from`, up to the number `to`.
abbrev pub FaultWithin : ℕ → ℕ → Fault → Type 0
FaultWithin from to fault = (from < fault.line) × (fault.line ≤ to)

module _ {X : Type 0} where
  -- the lines of a block before a place are the same in texts that are the same up to there
  pub take-lines_before : (xs ys : List X) (n from to : ℕ) → take n xs ≡ take n ys → from ≤ to → to ≤ n → take (to - from) (drop from xs) ≡ take (to - from) (drop from ys)
  take-lines_before xs ys n from to same order before =
      let many : n ≡ from + (n - from) = omega (arith, order, before) in
      let fewer : to - from ≤ n - from = omega (arith, before) in
      let part : (zs : List X) → take (to - from) (drop from zs) ≡ take (to - from) (drop from (take n zs)) =
      λ zs. sym (take-take (to - from) (n - from) (drop from zs) fewer) ∙ ap (take (to - from)) (sym (drop-take from (n - from) zs)) ∙ ap (λ k. take (to - from) (drop from (take k zs))) (sym many) in
      part xs ∙ ap (λ zs. take (to - from) (drop from zs)) same ∙ sym (part ys)

  -- and those after a stretch are the same in texts that are the same from there on
  pub take-lines_after : (xs ys : List X) (start gone came from to : ℕ) → drop (start + came) ys ≡ drop (start + gone) xs → start + gone ≤ from → from ≤ to
      → take (to - gone + came - (from - gone + came)) (drop (from - gone + came) ys) ≡ take (to - from) (drop from xs)
  take-lines_after xs ys start gone came from to same following order =
      let long : to - gone + came - (from - gone + came) ≡ to - from = omega (arith, following, order) in
      let more = from - (start + gone) in
      let there : from - gone + came ≡ start + came + more = omega (arith, following) in
      let here : start + gone + more ≡ from = omega (arith, following) in
      ap (λ n. take n (drop (from - gone + came) ys)) long
      ∙ ap (λ n. take (to - from) (drop n ys)) there
      ∙ ap (take (to - from)) (sym (drop-drop more (start + came) ys) ∙ ap (drop more) same ∙ drop-drop more (start + gone) xs)
      ∙ ap (λ n. take (to - from) (drop n xs)) here

module _ {State Cell Items Defaults : Type 0} (steps : Steps State Cell Items) (rules : Rules State Cell Items Defaults) (opening : State) where
  abbrev faults_from : ℕ → Text → List Fault
  faults_from first lines = (tune_from rules first (items_along steps.next steps.gives opening (cells_from rules.cells first lines))).faults

  -- the faults of some lines are in them
  line_faults_within : (from to : ℕ) (lines : Text) → from < to → length lines ≡ to - from → All (FaultWithin from to) (faults_from (from + 1) lines)
  line_faults_within from to [] some count = absurd (omega (arith, some, count))
  line_faults_within from to (line ∷ following) some count =
      let between = faults_in_lines steps.next steps.gives rules (from + 1) opening line following in
      let last : from + 1 + length following ≡ to = omega (arith, some, count) in
      λ k d inside.
      let least = (between k d inside).0 in
      let most = (between k d inside).1 in
      (omega (arith, least), omega (arith, most, last))

  length-lines_in : (text : Text) (block : Block) → LiesIn (length text) block → length (lines_in text block) ≡ block.to - block.from
  length-lines_in text block lies =
      let some = lies.some in
      let within = lies.within in
      let left = length-drop block.from text in
      length-take-le (block.to - block.from) (drop block.from text) (omega (arith, some, within, left))

  -- those of a tune in its lines
  pub tune_faults_within : (text : Text) (block : Block) → LiesIn (length text) block → All (FaultWithin block.from block.to) (tune_of steps.next steps.gives rules opening text block).faults
  unfolding tune_of
  tune_faults_within text block lies = line_faults_within block.from block.to (lines_in text block) lies.some (length-lines_in text block lies)

  pub cell_faults_within : (text : Text) (block : Block) → LiesIn (length text) block
      → All (FaultWithin block.from block.to) (faults_along rules.faults (items_along steps.next steps.gives opening (cells_from rules.cells (block.from + 1) (lines_in text block))))
  cell_faults_within text block lies =
      let items = items_along steps.next steps.gives opening (cells_from rules.cells (block.from + 1) (lines_in text block)) in
      all_second (FaultWithin block.from block.to) (map (fault_of_tune (block.from + 1)) (rules.build_faults (placed_values items))) (faults_along rules.faults items)
      (line_faults_within block.from block.to (lines_in text block) lies.some (length-lines_in text block lies))

  -- those of tunes that lie in some lines are in these
  pub tune_faults_hold : (text : Text) (P : Fault → Type 0) (blocks : List Block) → All (LiesIn (length text)) blocks
      → All (λ (block : Block). (fault : Fault) → FaultWithin block.from block.to fault → P fault) blocks
      → All P (faults_of_tunes (map (tune_of steps.next steps.gives rules opening text) blocks))
  tune_faults_hold text P [] lie follows = All-nil P
  tune_faults_hold text P (block ∷ blocks) lie follows =
      let own = tune_faults_within text block (All-head (LiesIn (length text)) block blocks lie) in
      let holds = All-head (λ (block : Block). (fault : Fault) → FaultWithin block.from block.to fault → P fault) block blocks follows in
      All-append P (tune_of steps.next steps.gives rules opening text block).faults
      (faults_of_tunes (map (tune_of steps.next steps.gives rules opening text) blocks)) (λ k d inside. holds _ (own k d inside))
      (tune_faults_hold text P blocks (All-tail (LiesIn (length text)) block blocks lie) (All-tail (λ (block : Block). (fault : Fault) → FaultWithin block.from block.to fault → P fault) block blocks follows))

  -- a tune of the same lines is the same tune
  pub tune_of-same : (text other : Text) (block : Block) → lines_in text block ≡ lines_in other block
      → tune_of steps.next steps.gives rules opening text block ≡ tune_of steps.next steps.gives rules opening other block
  unfolding tune_of
  tune_of-same text other block same = ap (λ lines. tune_from rules (block.from + 1) (items_along steps.next steps.gives opening (cells_from rules.cells (block.from + 1) lines))) same

  from_nothing : (first : ℕ) (lines : Text) → faults_from first lines ≡ map (fault_moved first) (faults_from 0 lines)
  from_nothing first lines =
      let none : first ≡ 0 + first = omega arith in
      ap (λ n. faults_from n lines) none ∙ ap (λ (tune : Tune). tune.faults) (tunes_move steps.next steps.gives rules first 0 opening lines)

  moved_shifted : (first gone came : ℕ) → gone ≤ first → (faults : List Fault)
      → map (fault_moved (first - gone + came + 1)) faults ≡ map (shifted_fault gone came) (map (fault_moved (first + 1)) faults)
  moved_shifted first gone came following [] = refl
  moved_shifted first gone came following (fault ∷ faults) =
      let line : fault.line + (first - gone + came + 1) ≡ fault.line + (first + 1) - gone + came = omega (arith, following) in
      ap (λ n. record { line = n; column = fault.column; code = fault.code } ∷ map (fault_moved (first - gone + came + 1)) faults) line
      ∙ ap (λ l. shifted_fault gone came (fault_moved (first + 1) fault) ∷ l) (moved_shifted first gone came following faults)

  -- a tune of the same lines at another place has its faults there
  pub tune_of-shifted : (text new : Text) (gone came : ℕ) (block : Block) → gone ≤ block.from → lines_in new (shift_block gone came block) ≡ lines_in text block
      → (tune_of steps.next steps.gives rules opening new (shift_block gone came block)).faults ≡ map (shifted_fault gone came) (tune_of steps.next steps.gives rules opening text block).faults
  unfolding tune_of
  tune_of-shifted text new gone came block following same =
      let lines = lines_in text block in
      ap (λ lines. faults_from (block.from - gone + came + 1) lines) same
      ∙ from_nothing (block.from - gone + came + 1) lines
      ∙ moved_shifted block.from gone came following (faults_from 0 lines)
      ∙ ap (map (shifted_fault gone came)) (sym (from_nothing (block.from + 1) lines))

  -- tunes before a stretch
  pub same_tunes : (text new : Text) (n : ℕ) (blocks : List Block) → take n new ≡ take n text → All (λ (block : Block). block.to ≤ n) blocks → All (LiesIn (length text)) blocks
      → faults_of_tunes (map (tune_of steps.next steps.gives rules opening new) blocks) ≡ faults_of_tunes (map (tune_of steps.next steps.gives rules opening text) blocks)
  same_tunes text new n [] same before lie = refl
  same_tunes text new n (block ∷ blocks) same before lie =
      let some = (All-head (LiesIn (length text)) block blocks lie).some in
      let here = take-lines_before new text n block.from block.to same (omega (arith, some)) (All-head (λ (block : Block). block.to ≤ n) block blocks before) in
      ap (λ (tune : Tune). tune.faults ++ faults_of_tunes (map (tune_of steps.next steps.gives rules opening new) blocks)) (tune_of-same new text block here)
      ∙ ap (λ l. (tune_of steps.next steps.gives rules opening text block).faults ++ l)
      (same_tunes text new n blocks same (All-tail (λ (block : Block). block.to ≤ n) block blocks before) (All-tail (LiesIn (length text)) block blocks lie))

  -- and tunes after it
  pub shifted_tunes : (text new : Text) (start gone came : ℕ) (blocks : List Block)
      → drop (start + came) new ≡ drop (start + gone) text → All (λ (block : Block). start + gone ≤ block.from) blocks → All (LiesIn (length text)) blocks
      → faults_of_tunes (map (tune_of steps.next steps.gives rules opening new) (map (shift_block gone came) blocks))
      ≡ map (shifted_fault gone came) (faults_of_tunes (map (tune_of steps.next steps.gives rules opening text) blocks))
  shifted_tunes text new start gone came [] same following lie = refl
  shifted_tunes text new start gone came (block ∷ blocks) same following lie =
      let own = All-head (λ (block : Block). start + gone ≤ block.from) block blocks following in
      let some = (All-head (LiesIn (length text)) block blocks lie).some in
      let here = take-lines_after text new start gone came block.from block.to same own (omega (arith, some)) in
      ap (λ l. l ++ faults_of_tunes (map (tune_of steps.next steps.gives rules opening new) (map (shift_block gone came) blocks))) (tune_of-shifted text new gone came block (omega (arith, own)) here)
      ∙ ap (λ l. map (shifted_fault gone came) (tune_of steps.next steps.gives rules opening text block).faults ++ l)
      (shifted_tunes text new start gone came blocks same (All-tail (λ (block : Block). start + gone ≤ block.from) block blocks following) (All-tail (LiesIn (length text)) block blocks lie))
      ∙ sym (map-append (shifted_fault gone came) (tune_of steps.next steps.gives rules opening text block).faults (faults_of_tunes (map (tune_of steps.next steps.gives rules opening text) blocks)))

module _ {State Cell Items Defaults : Type 0} (steps : Steps State Cell Items) (rules : Rules State Cell Items Defaults) where
  -- the faults of a file header are in its lines
  pub header_faults_hold : (text : Text) (P : Fault → Type 0) (header : Option Block) → IfSome header (LiesIn (length text))
      → ((block : Block) → header ≡ Some block → (fault : Fault) → FaultWithin block.from block.to fault → P fault) → All P (header_faults steps.next steps.gives rules text header)
  header_faults_hold text P None lies follows = All-nil P
  header_faults_hold text P (Some block) lies follows = let own = cell_faults_within steps rules rules.header text block lies in λ k d inside. follows block refl _ (own k d inside)

  -- a file header before a stretch stays what it is
  pub header_faults-same : (text new : Text) (n : ℕ) (header : Option Block) → take n new ≡ take n text → ((block : Block) → header ≡ Some block → block.to ≤ n) → IfSome header (LiesIn (length text))
      → header_faults steps.next steps.gives rules new header ≡ header_faults steps.next steps.gives rules text header
  header_faults-same text new n None same before lies = refl
  header_faults-same text new n (Some block) same before lies =
      let some = lies.some in
      let here = take-lines_before new text n block.from block.to same (omega (arith, some)) (before block refl) in
      ap (λ lines. faults_along rules.faults (items_along steps.next steps.gives rules.header (cells_from rules.cells (block.from + 1) lines))) here

  pub state_after_header_same : (text new : Text) (n : ℕ) (header : Option Block) → take n new ≡ take n text → ((block : Block) → header ≡ Some block → block.to ≤ n) → IfSome header (LiesIn (length text))
      → state_after_header steps.next rules new header ≡ state_after_header steps.next rules text header
  state_after_header_same text new n None same before lies = refl
  state_after_header_same text new n (Some block) same before lies =
      let some = lies.some in
      let here = take-lines_before new text n block.from block.to same (omega (arith, some)) (before block refl) in
      ap (λ lines. Some (state_along steps.next rules.header (cells_from rules.cells (block.from + 1) lines))) here
