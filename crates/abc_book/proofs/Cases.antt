-- The effect of a line on the block before it, case by case.
use Rattle.std.proofs.Common.{◌≡◌, ℕ, true, false, List, [], refl, sym, ap, subst, ⊎_elim, ◌==◌}
use Rattle.std.proofs.lemmas.Bool.{cases_Bool, eqb-true, eq-eqb}
use Rattle.abc_scan.specs.declared.line_class.LineClass.{LineClass}
use Rattle.abc_scan.specs.declared.line_class.LineClass.TheVariants.{Blank, Comment, Field, Directive, Music}
use Rattle.abc_book.specs.declared.block.Block.{Block}
use Rattle.abc_book.specs.declared.block.BlockKind.{BlockKind}
use Rattle.abc_book.specs.declared.block.BlockKind.TheVariants.{FileHeader, Tune, Free}
use Rattle.abc_book.specs.declared.pass.OpenBlock.{OpenBlock}
use Rattle.abc_book.specs.declared.pass.OpenBlock.TheVariants.{Inside}
use Rattle.abc_book.specs.Block.{letter_x}
use Rattle.abc_book.specs.Pass.{one_line, with_line, after_blank, after_line, last_block, block_ended_by}

-- laws of the block that a line ends and of the open block before the next line
pub record Each (P : List Block → OpenBlock → Type 0) (before : OpenBlock) (at : ℕ) (class : LineClass) : Type 0 where
  pub comment : class ≡ Comment → P [] before
  pub blank : class ≡ Blank → P (last_block before) (after_blank before)
  pub x_line : class ≡ Field letter_x → P (last_block before) (Inside (one_line Tune at))
  pub other : (kind : BlockKind) → (kind ≡ Tune → ⊥) → (class ≡ Field letter_x → ⊥) → (class ≡ Blank → ⊥) → P [] (Inside (with_line kind before at))

no_tune : (letter : ℕ) → (letter == letter_x) ≡ false → Field letter ≡ Field letter_x → ⊥
no_tune letter e same =
    let letters : letter ≡ letter_x = cc in let yes : (letter == letter_x) ≡ true = eq-eqb letter letter_x letters in cc

pub by_class : (P : List Block → OpenBlock → Type 0) (before : OpenBlock) (at : ℕ) (class : LineClass) → Each P before at class → P (block_ended_by before class) (after_line before at class)
by_class P before at Blank each = each.blank refl
by_class P before at Comment each = each.comment refl
by_class P before at Directive each = each.other FileHeader (λ h. cc) (λ h. cc) (λ h. cc)
by_class P before at Music each = each.other Free (λ h. cc) (λ h. cc) (λ h. cc)
by_class P before at (Field letter) each = ⊎_elim
    (λ e.
    let letters : letter ≡ letter_x = eqb-true letter letter_x e in
    subst (λ x. P (block_ended_by before (Field x)) (after_line before at (Field x))) (sym letters) (each.x_line (ap (λ x. Field x) letters)))
    (λ (e : (letter == letter_x) ≡ false). simp e (each.other FileHeader (λ h. cc) (no_tune letter e) (λ h. cc)))
    (cases_Bool (letter == letter_x))
