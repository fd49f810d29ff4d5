-- An X: line cuts a text in two.
use Rattle.std.proofs.Common.{◌≡◌, ℕ, ◌+◌, true, false, List, [], ◌∷◌, ◌++◌, length, refl, sym, ap, ◌∙◌, subst, arith, append_assoc, ⊎_elim, ◌==◌}
use Rattle.std.specs.Prelude.{map, IsTrue}
use Rattle.std.proofs.lemmas.Bool.{cases_Bool, eqb-true}
use Rattle.std.proofs.lemmas.List.{map-append}
use Rattle.abc_scan.specs.declared.line_class.LineClass.{LineClass}
use Rattle.abc_scan.specs.declared.line_class.LineClass.TheVariants.{Blank, Comment, Field, Directive, Music}
use Rattle.abc_book.specs.declared.block.BlockKind.{BlockKind}
use Rattle.abc_book.specs.declared.block.BlockKind.TheVariants.{FileHeader, Tune, Free}
use Rattle.abc_book.specs.declared.pass.OpenBlock.{OpenBlock}
use Rattle.abc_book.specs.declared.pass.OpenBlock.TheVariants.{Nothing, Inside, Ended}
use Rattle.abc_book.specs.Block.{letter_x, is_x_line, blocks_of}
use Rattle.abc_book.specs.Pass.{one_line, with_line, after_line, last_block, block_ended_by, blocks_from}
use Rattle.abc_book.specs.Laws.{move_block, AnXLineCuts}
use Rattle.abc_book.proofs.OnePass.{one_pass}

cut_from : (before : OpenBlock) (at : ℕ) (front following : List LineClass)
    → blocks_from before at (front ++ Field letter_x ∷ following) ≡ blocks_from before at front ++ blocks_from Nothing (at + length front) (Field letter_x ∷ following)
cut_from before at [] following = let here : at ≡ at + 0 = omega arith in ap (λ n. last_block before ++ blocks_from Nothing n (Field letter_x ∷ following)) here
cut_from before at (class ∷ front) following =
    let more = cut_from (after_line before at class) (at + 1) front following in
    let here : at + 1 + length front ≡ at + length (class ∷ front) = omega arith in
    ap (λ l. block_ended_by before class ++ l) (more ∙ ap (λ n. blocks_from (after_line before at class) (at + 1) front ++ blocks_from Nothing n (Field letter_x ∷ following)) here)
    ∙ sym (append_assoc (block_ended_by before class) (blocks_from (after_line before at class) (at + 1) front) (blocks_from Nothing (at + length (class ∷ front)) (Field letter_x ∷ following)))

abbrev moved_before : ℕ → OpenBlock → OpenBlock
moved_before n Nothing = Nothing
moved_before n (Inside block) = Inside (move_block n block)
moved_before n Ended = Ended

last_moved : (n : ℕ) (before : OpenBlock) → last_block (moved_before n before) ≡ map (move_block n) (last_block before)
last_moved n Nothing = refl
last_moved n _ = refl

ended_moved : (n : ℕ) (before : OpenBlock) (class : LineClass) → block_ended_by (moved_before n before) class ≡ map (move_block n) (block_ended_by before class)
ended_moved n before Blank = last_moved n before
ended_moved n before (Field letter) = ⊎_elim
    (λ (e : (letter == letter_x) ≡ true). simp e (last_moved n before))
    (λ (e : (letter == letter_x) ≡ false). simp e)
    (cases_Bool (letter == letter_x))
ended_moved n before _ = refl

one_moved : (n at : ℕ) (kind : BlockKind) → one_line kind (at + n) ≡ move_block n (one_line kind at)
one_moved n at kind = let end : at + n + 1 ≡ at + 1 + n = omega arith in λ i. record { kind = kind; from = at + n; to = end i }

line_moved : (n at : ℕ) (kind : BlockKind) (before : OpenBlock) → with_line kind (moved_before n before) (at + n) ≡ move_block n (with_line kind before at)
line_moved n at kind Nothing = one_moved n at kind
line_moved n at kind (Inside block) = let end : at + n + 1 ≡ at + 1 + n = omega arith in λ i. record { kind = block.kind; from = block.from + n; to = end i }
line_moved n at kind Ended = one_moved n at Free

blank_moved : (n at : ℕ) (before : OpenBlock) → after_line (moved_before n before) (at + n) Blank ≡ moved_before n (after_line before at Blank)
blank_moved n at Nothing = refl
blank_moved n at _ = refl

after_moved : (n at : ℕ) (before : OpenBlock) (class : LineClass) → after_line (moved_before n before) (at + n) class ≡ moved_before n (after_line before at class)
after_moved n at before Blank = blank_moved n at before
after_moved n at before Comment = refl
after_moved n at before (Field letter) = ⊎_elim
    (λ (e : (letter == letter_x) ≡ true). simp e (ap (λ b. Inside b) (one_moved n at Tune)))
    (λ (e : (letter == letter_x) ≡ false). simp e (ap (λ b. Inside b) (line_moved n at FileHeader before)))
    (cases_Bool (letter == letter_x))
after_moved n at before Directive = ap (λ b. Inside b) (line_moved n at FileHeader before)
after_moved n at before Music = ap (λ b. Inside b) (line_moved n at Free before)

-- the same lines further down make the same blocks, equally further down
pub blocks_from-moved : (n at : ℕ) (before : OpenBlock) (classes : List LineClass) → blocks_from (moved_before n before) (at + n) classes ≡ map (move_block n) (blocks_from before at classes)
blocks_from-moved n at before [] = last_moved n before
blocks_from-moved n at before (class ∷ classes) =
    let next : at + n + 1 ≡ at + 1 + n = omega arith in
    (λ i. ended_moved n before class i ++ blocks_from (after_moved n at before class i) (next i) classes)
    ∙ ap (λ l. map (move_block n) (block_ended_by before class) ++ l) (blocks_from-moved n (at + 1) (after_line before at class) classes)
    ∙ sym (map-append (move_block n) (block_ended_by before class) (blocks_from (after_line before at class) (at + 1) classes))

-- a line that begins a tune is a field X:
pub is_field_x : (x : LineClass) → IsTrue (is_x_line x) → x ≡ Field letter_x
is_field_x (Field letter) h = ap (λ l. Field l) (eqb-true letter letter_x h)
is_field_x _ h = absurd (cc)

cuts_at : (front following : List LineClass) → blocks_of (front ++ Field letter_x ∷ following) ≡ blocks_of front ++ map (move_block (length front)) (blocks_of (Field letter_x ∷ following))
cuts_at front following =
    let here : 0 + length front ≡ length front = omega arith in
    one_pass (front ++ Field letter_x ∷ following) ∙ cut_from Nothing 0 front following
    ∙ (λ i. sym (one_pass front) i ++ (blocks_from-moved (length front) 0 Nothing (Field letter_x ∷ following)
    ∙ ap (λ l. map (move_block (length front)) l) (sym (one_pass (Field letter_x ∷ following)))) i)

pub x_line_cuts : AnXLineCuts
x_line_cuts before following x h =
    subst (λ y. blocks_of (before ++ y ∷ following) ≡ blocks_of before ++ map (move_block (length before)) (blocks_of (y ∷ following))) (sym (is_field_x x h)) (cuts_at before following)
