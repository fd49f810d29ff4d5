-- Every line that counts lies in one block, and a blank line in none.
use Rattle.std.proofs.Common.{◌≡◌, ℕ, zero, suc, ◌+◌, ◌<◌, ◌≤◌, true, false, cond, Some, List, [], ◌∷◌, ◌++◌, length, refl, sym, ap, ◌∙◌, subst, arith, zero-add}
use Rattle.std.specs.Prelude.{count_by, slice_get}
use Rattle.std.proofs.lemmas.Bool.Decides.{nat_tests}
use Rattle.std.proofs.lemmas.List.Sums.{sum_by-append}
use Rattle.abc_scan.specs.declared.line_class.LineClass.{LineClass}
use Rattle.abc_scan.specs.declared.line_class.LineClass.TheVariants.{Blank, Comment}
use Rattle.abc_book.specs.declared.block.Block.{Block}
use Rattle.abc_book.specs.declared.block.BlockKind.{BlockKind}
use Rattle.abc_book.specs.declared.block.BlockKind.TheVariants.{Tune}
use Rattle.abc_book.specs.declared.pass.OpenBlock.{OpenBlock}
use Rattle.abc_book.specs.declared.pass.OpenBlock.TheVariants.{Nothing, Inside, Ended}
use Rattle.abc_book.specs.Block.{blocks_of}
use Rattle.abc_book.specs.Pass.{one_line, with_line, after_blank, last_block, blocks_from}
use Rattle.abc_book.specs.Laws.{holds, RiseFromTo, EachLineInOneBlock, NoBlankInABlock}
use Rattle.abc_book.proofs.OnePass.{one_pass}
use Rattle.abc_book.proofs.Rising.{LiesFrom, later_lies, blank_lies, tune_lies, line_lies, rises}
use Rattle.abc_book.proofs.Cases.{by_class}

-- the number of blocks that contain a line
abbrev pub lies : ℕ → List Block → ℕ
lies line blocks = count_by (holds line) blocks

held : (line : ℕ) (block : Block) → block.from ≤ line → line < block.to → lies line (block ∷ []) ≡ 1
held line block from to = let yes : holds line block ≡ true = grind (arith, nat_tests) in ap (λ b. 0 + cond b 1 0) yes

not_yet : (line : ℕ) (block : Block) → line < block.from → lies line (block ∷ []) ≡ 0
not_yet line block from = let no : holds line block ≡ false = grind (arith, nat_tests) in ap (λ b. 0 + cond b 1 0) no

no_more : (line : ℕ) (block : Block) → block.to ≤ line → lies line (block ∷ []) ≡ 0
no_more line block to = let no : holds line block ≡ false = grind (arith, nat_tests) in ap (λ b. 0 + cond b 1 0) no

closed : (line m n at : ℕ) (before after : OpenBlock) (classes : List LineClass) → lies line (last_block before) ≡ m → lies line (blocks_from after at classes) ≡ n
    → lies line (last_block before ++ blocks_from after at classes) ≡ m + n
closed line m n at before after classes hx hy = sum_by-append (λ x. cond (holds line x) 1 0) (last_block before) (blocks_from after at classes) ∙ (λ i. hx i + hy i)

-- no line before the first block lies in one
none_before : (line first last : ℕ) (blocks : List Block) → line < first → RiseFromTo first blocks last → lies line blocks ≡ 0
none_before line first last [] before h = refl
none_before line first last (block ∷ blocks) before h =
    let here = not_yet line block (omega (arith, h.0)) in
    let later = none_before line block.to last blocks (omega (arith, h.0, h.1)) h.2 in
    sum_by-append (λ x. cond (holds line x) 1 0) (block ∷ []) blocks ∙ (λ i. here i + later i)

never : (line at : ℕ) (before : OpenBlock) (classes : List LineClass) → LiesFrom (line + 1) at before → lies line (blocks_from before at classes) ≡ 0
never line at before classes h = none_before line (line + 1) (at + length classes) (blocks_from before at classes) (omega arith) (rises (line + 1) at (at + length classes) before classes refl h)

once : (line at : ℕ) (block : Block) (classes : List LineClass) → block.from ≤ line → line < block.to → block.to ≤ at → lies line (blocks_from (Inside block) at classes) ≡ 1
once line at block [] from to end = held line block from to
once line at block (class ∷ classes) from to end =
    by_class (λ ended after. lies line (ended ++ blocks_from after (at + 1) classes) ≡ 1) (Inside block) at class (record {
      comment = λ e. once line (at + 1) block classes from to (omega arith);
      blank = λ e. closed line 1 0 (at + 1) (Inside block) Ended classes (held line block from to) (never line (at + 1) Ended classes (omega arith));
      x_line = λ e. closed line 1 0 (at + 1) (Inside block) (Inside (one_line Tune at)) classes (held line block from to)
          (never line (at + 1) (Inside (one_line Tune at)) classes (tune_lies (line + 1) at (omega arith)));
      other = λ kind k e b. once line (at + 1) (with_line kind (Inside block) at) classes from (omega arith) (omega arith);
    })

past_last : (line at : ℕ) (before : OpenBlock) → LiesFrom 0 at before → at ≤ line → lies line (last_block before) ≡ 0
past_last line at (Inside block) h past = no_more line block (omega (arith, h.2))
past_last line at _ h past = refl

line_from : (line at : ℕ) (kind : BlockKind) (before : OpenBlock) → LiesFrom 0 at before → at ≤ line → (with_line kind before at).from ≤ line
line_from line at kind (Inside block) h past = omega (arith, h.1, h.2)
line_from line at kind _ h past = past

line_to : (at : ℕ) (kind : BlockKind) (before : OpenBlock) → (with_line kind before at).to ≡ at + 1
line_to at kind Nothing = refl
line_to at kind _ = refl

-- the number of blocks that contain a line of a class other than a comment
abbrev due : LineClass → ℕ
due Blank = 0
due Comment = 0
due _ = 1

due_one : (class : LineClass) → (class ≡ Blank → ⊥) → (class ≡ Comment → ⊥) → due class ≡ 1
due_one Blank b c = absurd (b refl)
due_one Comment b c = absurd (c refl)
due_one _ b c = refl

lies_here : (line at : ℕ) (before : OpenBlock) (class : LineClass) (classes : List LineClass) → line ≡ at → (class ≡ Comment → ⊥) → LiesFrom 0 at before
    → lies line (blocks_from before at (class ∷ classes)) ≡ due class
lies_here line at before class classes here c h = by_class (λ ended after. lies line (ended ++ blocks_from after (at + 1) classes) ≡ due class) before at class (record {
  comment = λ e. absurd (c e);
  blank = λ e. closed line 0 0 (at + 1) before (after_blank before) classes (past_last line at before h (omega arith)) (never line (at + 1) (after_blank before) classes
      (blank_lies (line + 1) (at + 1) before (omega arith))) ∙ sym (ap due e);
  x_line = λ e. closed line 0 1 (at + 1) before (Inside (one_line Tune at)) classes (past_last line at before h (omega arith)) (once line (at + 1) (one_line Tune at) classes (omega arith)
      (omega arith) (omega arith)) ∙ sym (ap due e);
  other = λ kind k e b.
      once line (at + 1) (with_line kind before at) classes (line_from line at kind before h (omega arith)) (omega (arith, line_to at kind before)) (omega (arith, line_to at kind before))
      ∙ sym (due_one class b c);
})

lies_due : (line at k : ℕ) (before : OpenBlock) (class : LineClass) (classes : List LineClass) → slice_get classes k ≡ Some class → line ≡ at + k → (class ≡ Comment → ⊥) → LiesFrom 0 at before
    → lies line (blocks_from before at classes) ≡ due class
lies_due line at k before class [] found here c h = cc
lies_due line at zero before class (first ∷ classes) found here c h =
    let same : first ≡ class = cc in
    subst (λ x. lies line (blocks_from before at (x ∷ classes)) ≡ due class) (sym same) (lies_here line at before class classes (omega arith) c h)
lies_due line at (suc k) before class (first ∷ classes) found here c h =
    let next : line ≡ at + 1 + k = omega arith in
    let past : at ≤ line = omega arith in
    by_class (λ ended after. lies line (ended ++ blocks_from after (at + 1) classes) ≡ due class) before at first (record {
      comment = λ e. lies_due line (at + 1) k before class classes found next c (later_lies 0 at before h);
      blank = λ e. closed line 0 (due class) (at + 1) before (after_blank before) classes (past_last line at before h past) (lies_due line (at + 1) k (after_blank before) class classes found next c
          (blank_lies 0 (at + 1) before (omega arith))) ∙ zero-add (due class);
      x_line = λ e. closed line 0 (due class) (at + 1) before (Inside (one_line Tune at)) classes (past_last line at before h past) (lies_due line (at + 1) k (Inside (one_line Tune at)) class classes
          found next c (tune_lies 0 at (omega arith))) ∙ zero-add (due class);
      other = λ kind j e b. lies_due line (at + 1) k (Inside (with_line kind before at)) class classes found next c (line_lies 0 at kind before h);
    })

lies_in : (classes : List LineClass) (line : ℕ) (class : LineClass) → slice_get classes line ≡ Some class → (class ≡ Comment → ⊥) → lies line (blocks_of classes) ≡ due class
lies_in classes line class found c = ap (lies line) (one_pass classes) ∙ lies_due line 0 line Nothing class classes found (omega arith) c (omega arith)

pub each_in_one : EachLineInOneBlock
each_in_one classes line class found b c = lies_in classes line class found c ∙ due_one class b c

pub no_blank_in : NoBlankInABlock
no_blank_in classes line found = lies_in classes line Blank found (λ h. cc)
