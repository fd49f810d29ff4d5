-- Another stretch replaces a stretch of a text.
use Rattle.std.proofs.Common.{◌≡◌, ℕ, ◌+◌, ◌-◌, ◌≤◌, true, false, List, [], ◌∷◌, ◌++◌, length, map, refl, sym, ap, ◌∙◌, subst, arith, append_assoc, ⊎_elim}
use Rattle.std.specs.Prelude.{nat_le, nat_lt}
use Rattle.std.proofs.lemmas.Bool.{lt-ltb, le-ltb, le-leb, lt-leb}
use Rattle.std.proofs.lemmas.List.{append-nil, length-append}
use Rattle.std.proofs.lemmas.List.Elements.{filter-append}
use Rattle.abc_scan.specs.declared.line_class.LineClass.{LineClass}
use Rattle.abc_book.specs.declared.block.Block.{Block}
use Rattle.abc_book.specs.Block.{blocks_of}
use Rattle.abc_book.specs.Laws.{move_block, RiseFromTo}
use Rattle.abc_book.specs.Stretch.{BeginTune, IsCut, blocks_at, blocks_before, blocks_after, shift_block, AStretchIsEnough}
use Rattle.abc_book.proofs.Cuts.{x_line_cuts}
use Rattle.abc_book.proofs.Rising.{blocks_rise}

unmoved : (blocks : List Block) → map (move_block 0) blocks ≡ blocks
unmoved [] = refl
unmoved (block ∷ blocks) =
    let from : block.from + 0 ≡ block.from = omega arith in
    let to : block.to + 0 ≡ block.to = omega arith in
    λ i. record { kind = block.kind; from = from i; to = to i } ∷ unmoved blocks i

none_before : (following : List LineClass) → blocks_of ([] ++ following) ≡ blocks_of [] ++ blocks_at 0 following
unfolding blocks_of
none_before following = sym (unmoved (blocks_of following))

none_after : (before : List LineClass) → blocks_of (before ++ []) ≡ blocks_of before ++ blocks_at (length before) []
unfolding blocks_of
none_after before = ap blocks_of (append-nil before) ∙ sym (append-nil (blocks_of before))

tune_cuts : (before following : List LineClass) → BeginTune following → blocks_of (before ++ following) ≡ blocks_of before ++ blocks_at (length before) following
tune_cuts before [] tune = none_after before
tune_cuts before (x ∷ following) tune = x_line_cuts before following x tune

cuts : (before following : List LineClass) → IsCut before following → blocks_of (before ++ following) ≡ blocks_of before ++ blocks_at (length before) following
cuts before following cut = ⊎_elim
    (λ (e : before ≡ []). subst (λ lines. blocks_of (lines ++ following) ≡ blocks_of lines ++ blocks_at (length lines) following) (sym e) (none_before following))
    (λ (tune : BeginTune following). tune_cuts before following tune)
    cut

-- a text in three
in_three : (before stretch following : List LineClass) → IsCut before stretch → BeginTune following
    → blocks_of (before ++ (stretch ++ following)) ≡ blocks_of before ++ (blocks_at (length before) stretch ++ blocks_at (length before + length stretch) following)
in_three before stretch following cut tune =
    ap blocks_of (sym (append_assoc before stretch following)) ∙ tune_cuts (before ++ stretch) following tune
    ∙ (λ i. cuts before stretch cut i ++ blocks_at (length-append before stretch i) following)
    ∙ append_assoc (blocks_of before) (blocks_at (length before) stretch) (blocks_at (length before + length stretch) following)

rise_on : (first last : ℕ) (blocks : List Block) → RiseFromTo first blocks last → first ≤ last
rise_on first last [] h = h
rise_on first last (block ∷ blocks) h = omega (arith, h.0, h.1, rise_on block.to last blocks h.2)

rise_moved : (n first last : ℕ) (blocks : List Block) → RiseFromTo first blocks last → RiseFromTo (first + n) (map (move_block n) blocks) (last + n)
rise_moved n first last [] h = omega arith
rise_moved n first last (block ∷ blocks) h = (omega (arith, h.0), omega (arith, h.1), rise_moved n block.to last blocks h.2)

rising : (n : ℕ) (classes : List LineClass) → RiseFromTo (0 + n) (blocks_at n classes) (length classes + n)
rising n classes = rise_moved n 0 (length classes) (blocks_of classes) (blocks_rise classes)

-- blocks before a line, and blocks from it on
module _ (line : ℕ) where
  below : (first last : ℕ) (blocks : List Block) → RiseFromTo first blocks last → last ≤ line → (blocks_before line blocks ≡ blocks) × (blocks_after line blocks ≡ [])
  below first last [] h le = (refl, refl)
  below first last (block ∷ blocks) h le =
      let within = rise_on block.to last blocks h.2 in
      let before : nat_lt block.from line ≡ true = lt-ltb block.from line (omega (arith, h.1)) in
      let following : nat_le line block.from ≡ false = lt-leb line block.from (omega (arith, h.1)) in
      let later = below block.to last blocks h.2 le in
      (simp before (ap (λ l. block ∷ l) later.0), simp following later.1)

  above : (first last : ℕ) (blocks : List Block) → RiseFromTo first blocks last → line ≤ first → (blocks_before line blocks ≡ []) × (blocks_after line blocks ≡ blocks)
  above first last [] h le = (refl, refl)
  above first last (block ∷ blocks) h le =
      let before : nat_lt block.from line ≡ false = le-ltb block.from line (omega (arith, h.0)) in
      let following : nat_le line block.from ≡ true = le-leb line block.from (omega (arith, h.0)) in
      let later = above block.to last blocks h.2 (omega (arith, h.0, h.1)) in
      (simp before later.0, simp following (ap (λ l. block ∷ l) later.1))

shifts : (n went came : ℕ) (blocks : List Block) → map (shift_block went came) (map (move_block (n + went)) blocks) ≡ map (move_block (n + came)) blocks
shifts n went came [] = refl
shifts n went came (block ∷ blocks) =
    let from : block.from + (n + went) - went + came ≡ block.from + (n + came) = omega arith in
    let to : block.to + (n + went) - went + came ≡ block.to + (n + came) = omega arith in
    λ i. record { kind = block.kind; from = from i; to = to i } ∷ shifts n went came blocks i

module _ (before old following : List LineClass) (cut : IsCut before old) (tune : BeginTune following) where
  abbrev n : ℕ
  n = length before

  abbrev k : ℕ
  k = length old

  abbrev there : List Block
  there = blocks_of (before ++ (old ++ following))

  stay : blocks_before n there ≡ blocks_of before
  stay =
      ap (blocks_before n) (in_three before old following cut tune)
      ∙ filter-append (λ (b : Block). nat_lt b.from n) (blocks_of before) (blocks_at n old ++ blocks_at (n + k) following)
      ∙ (λ i. (below n 0 n (blocks_of before) (blocks_rise before) (omega arith)).0 i
      ++ (filter-append (λ (b : Block). nat_lt b.from n) (blocks_at n old) (blocks_at (n + k) following)
      ∙ (λ j. (above n (0 + n) (k + n) (blocks_at n old) (rising n old) (omega arith)).0 j
      ++ (above n (0 + (n + k)) (length following + (n + k)) (blocks_at (n + k) following) (rising (n + k) following) (omega arith)).0 j)) i)
      ∙ append-nil (blocks_of before)

  rest : blocks_after (n + k) there ≡ blocks_at (n + k) following
  rest =
      ap (blocks_after (n + k)) (in_three before old following cut tune)
      ∙ filter-append (λ (b : Block). nat_le (n + k) b.from) (blocks_of before) (blocks_at n old ++ blocks_at (n + k) following)
      ∙ (λ i. (below (n + k) 0 n (blocks_of before) (blocks_rise before) (omega arith)).1 i
      ++ (filter-append (λ (b : Block). nat_le (n + k) b.from) (blocks_at n old) (blocks_at (n + k) following)
      ∙ (λ j. (below (n + k) (0 + n) (k + n) (blocks_at n old) (rising n old) (omega arith)).1 j
      ++ (above (n + k) (0 + (n + k)) (length following + (n + k)) (blocks_at (n + k) following) (rising (n + k) following) (omega arith)).1 j)) i)

pub stretch_is_enough : AStretchIsEnough
stretch_is_enough before old new following cut cut_new tune =
    let n = length before in let k = length old in let m = length new in
    in_three before new following cut_new tune
    ∙ (λ i. sym (stay before old following cut tune) i
    ++ (blocks_at n new ++ (sym (shifts n k m (blocks_of following)) ∙ ap (map (shift_block k m)) (sym (rest before old following cut tune))) i))
