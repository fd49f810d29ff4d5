-- Blocks follow one another, and tunes begin with an X: line.
use Rattle.std.proofs.Common.{◌≡◌, ℕ, suc, ◌+◌, ◌<◌, ◌≤◌, Some, List, [], ◌∷◌, ◌++◌, length, refl, sym, ap, ◌∙◌, subst, arith}
use Rattle.std.specs.Prelude.{All, ◌↔◌, slice_get}
use Rattle.std.proofs.lemmas.List.Elements.{All-append, All-cons, All-nil}
use Rattle.abc_scan.specs.declared.line_class.LineClass.{LineClass}
use Rattle.abc_scan.specs.declared.line_class.LineClass.TheVariants.{Field}
use Rattle.abc_book.specs.declared.block.Block.{Block}
use Rattle.abc_book.specs.declared.block.BlockKind.{BlockKind}
use Rattle.abc_book.specs.declared.block.BlockKind.TheVariants.{Tune}
use Rattle.abc_book.specs.declared.pass.OpenBlock.{OpenBlock}
use Rattle.abc_book.specs.declared.pass.OpenBlock.TheVariants.{Nothing, Inside, Ended}
use Rattle.abc_book.specs.Block.{letter_x}
use Rattle.abc_book.specs.Pass.{one_line, with_line, after_blank, last_block, blocks_from}
use Rattle.abc_book.specs.Laws.{RiseFromTo, BlocksRise, XLinesBeginTunes}
use Rattle.abc_book.proofs.OnePass.{one_pass}
use Rattle.abc_book.proofs.Cases.{by_class}

-- the open block before a line begins at `first` at the earliest and ends before the line
abbrev pub LiesFrom : ℕ → ℕ → OpenBlock → Type 0
LiesFrom first at Nothing = first ≤ at
LiesFrom first at (Inside block) = (first ≤ block.from) × (block.from < block.to) × (block.to ≤ at)
LiesFrom first at Ended = first ≤ at

pub later_lies : (first at : ℕ) (before : OpenBlock) → LiesFrom first at before → LiesFrom first (at + 1) before
later_lies first at (Inside block) h = (h.0, h.1, omega (arith, h.2))
later_lies first at _ h = omega arith

pub blank_lies : (first at : ℕ) (before : OpenBlock) → first ≤ at → LiesFrom first at (after_blank before)
blank_lies first at Nothing h = h
blank_lies first at _ h = h

pub tune_lies : (first at : ℕ) → first ≤ at → LiesFrom first (at + 1) (Inside (one_line Tune at))
tune_lies first at h = (h, omega arith, omega arith)

pub line_lies : (first at : ℕ) (kind : BlockKind) (before : OpenBlock) → LiesFrom first at before → LiesFrom first (at + 1) (Inside (with_line kind before at))
line_lies first at kind (Inside block) h = (h.0, omega (arith, h.1, h.2), omega arith)
line_lies first at kind _ h = (h, omega arith, omega arith)

closed_rises : (first at last : ℕ) (before : OpenBlock) (blocks : List Block) → LiesFrom first at before → ((next : ℕ) → next ≤ at → RiseFromTo next blocks last)
    → RiseFromTo first (last_block before ++ blocks) last
closed_rises first at last (Inside block) blocks h rest = (h.0, h.1, rest block.to h.2)
closed_rises first at last _ blocks h rest = rest first h

last_rises : (first at : ℕ) (before : OpenBlock) → LiesFrom first at before → RiseFromTo first (last_block before) at
last_rises first at Nothing h = h
last_rises first at _ h = h

pub rises : (first at last : ℕ) (before : OpenBlock) (classes : List LineClass) → at + length classes ≡ last → LiesFrom first at before → RiseFromTo first (blocks_from before at classes) last
rises first at last before [] end h = let here : at ≡ last = omega arith in subst (RiseFromTo first (last_block before)) here (last_rises first at before h)
rises first at last before (class ∷ classes) end h =
    let more : at + 1 + length classes ≡ last = omega arith in
    by_class (λ ended after. RiseFromTo first (ended ++ blocks_from after (at + 1) classes) last) before at class (record {
      comment = λ e. rises first (at + 1) last before classes more (later_lies first at before h);
      blank = λ e. closed_rises first at last before _ h (λ next le. rises next (at + 1) last (after_blank before) classes more (blank_lies next (at + 1) before (omega arith)));
      x_line = λ e. closed_rises first at last before _ h (λ next le. rises next (at + 1) last (Inside (one_line Tune at)) classes more (tune_lies next at le));
      other = λ kind k e b. rises first (at + 1) last (Inside (with_line kind before at)) classes more (line_lies first at kind before h);
    })

pub blocks_rise : BlocksRise
blocks_rise classes = subst (λ blocks. RiseFromTo 0 blocks (length classes)) (sym (one_pass classes)) (rises 0 0 (length classes) Nothing classes (omega arith) (omega arith))

-- a block is a tune if its first line is an X: line
abbrev pub IsRight : List LineClass → Block → Type 0
IsRight classes block = (block.kind ≡ Tune) ↔ (slice_get classes block.from ≡ Some (Field letter_x))

abbrev pub IsRightBefore : List LineClass → OpenBlock → Type 0
IsRightBefore whole before = All (IsRight whole) (last_block before)

blank_right : (whole : List LineClass) (before : OpenBlock) → IsRightBefore whole (after_blank before)
blank_right whole Nothing = All-nil (IsRight whole)
blank_right whole _ = All-nil (IsRight whole)

one_right : (whole : List LineClass) (block : Block) → IsRight whole block → All (IsRight whole) (block ∷ [])
one_right whole block h = All-cons (IsRight whole) block [] h (All-nil (IsRight whole))

line_right : (whole : List LineClass) (at : ℕ) (class : LineClass) (kind : BlockKind) (before : OpenBlock) → slice_get whole at ≡ Some class → (kind ≡ Tune → ⊥) → (class ≡ Field letter_x → ⊥)
    → IsRightBefore whole before → All (IsRight whole) (with_line kind before at ∷ [])
line_right whole at class kind Nothing found k e h = one_right whole _ (λ t. absurd (k t), λ x. absurd (e (cc)))
line_right whole at class kind (Inside block) found k e h = one_right whole _ (h 0 block (omega arith))
line_right whole at class kind Ended found k e h = one_right whole _ (λ t. cc, λ x. absurd (e (cc)))

tunes_right : (whole : List LineClass) (before : OpenBlock) (at : ℕ) (classes : List LineClass) → ((k : ℕ) → slice_get whole (at + k) ≡ slice_get classes k) → IsRightBefore whole before
    → All (IsRight whole) (blocks_from before at classes)
tunes_right whole before at [] same h = h
tunes_right whole before at (class ∷ classes) same h =
    let found : slice_get whole at ≡ Some class = (let here : at ≡ at + 0 = omega arith in ap (λ n. slice_get whole n) here ∙ same 0) in
    let more = λ (k : ℕ). (let here : at + 1 + k ≡ at + suc k = omega arith in ap (λ n. slice_get whole n) here ∙ same (suc k)) in
    by_class (λ ended after. All (IsRight whole) (ended ++ blocks_from after (at + 1) classes)) before at class (record {
      comment = λ e. tunes_right whole before (at + 1) classes more h;
      blank = λ e. All-append (IsRight whole) _ _ h (tunes_right whole (after_blank before) (at + 1) classes more (blank_right whole before));
      x_line =
          λ e. All-append (IsRight whole) _ _ h (tunes_right whole (Inside (one_line Tune at)) (at + 1) classes more (one_right whole (one_line Tune at) (λ t. found ∙ ap (λ c. Some c) e, λ x. refl)));
      other = λ kind k e b. tunes_right whole (Inside (with_line kind before at)) (at + 1) classes more (line_right whole at class kind before found k e h);
    })

pub tunes_begin : XLinesBeginTunes
tunes_begin classes = subst (λ blocks. All (IsRight classes) blocks) (sym (one_pass classes)) (tunes_right classes Nothing 0 classes
    (λ k. (let here : 0 + k ≡ k = omega arith in ap (λ n. slice_get classes n) here)) (All-nil (IsRight classes)))
