-- What an edit costs, and the text with no lines.
use Rattle.std.proofs.Common.{◌∷◌, ◌≡◌, List, None, Option, [], ap, arith, refl, subst, sym, ℕ}
use Rattle.abc_book.specs.declared.block.Block.{Block}
use Rattle.abc_book.proofs.OnePass.{one_pass}
use Rattle.abc_fold.specs.Chain.{ChainView, no_cells}
use Rattle.abc_fold.specs.Steps.{IsResumable, Steps}
use Rattle.abc_fold.specs.Work.{Counters}
use Rattle.abc_fold.proofs.Raised.{raised-least}
use Rattle.abc_lines.specs.Text.{Text}
use Rattle.abc_tune_compiler.specs.Book.{blocks_in, header_in, opening_of, tunes_in}
use Rattle.abc_tune_compiler.specs.Lawful.{AreLawful}
use Rattle.abc_tune_compiler.specs.Rules.{Rules}
use Rattle.abc_live_text.specs.Chains.{IsHeaderChainOf}
use Rattle.abc_live_cost.specs.OldItems.{IsChainOf}
use Rattle.abc_live_text.specs.Row.{IsScannedUpTo, Row}
use Rattle.abc_live_text.specs.KeptText.{IsWorkUpTo, KeptTextView, ArePartsOf, parts, parts_of}
use Rattle.std.specs.List.{AllZip}

pub no_work : (lines steps : ℕ) (before : Counters) → IsWorkUpTo lines steps before before
no_work lines steps before = record {
  built = refl;
  least_scanned = omega arith;
  most_scanned = raised-least before.scanned lines;
  least_folded = omega arith;
  most_folded = raised-least before.folded steps;
}

-- The cost if lines have been scanned and no steps folded.
pub early_work : (lines steps : ℕ) (before after : Counters) → IsScannedUpTo lines before after → IsWorkUpTo lines steps before after
early_work lines steps before after scan = record {
  built = scan.built;
  least_scanned = scan.least;
  most_scanned = scan.most;
  least_folded = let same = scan.folded in omega (arith, same);
  most_folded = let same = scan.folded in let least = raised-least before.folded steps in omega (arith, same, least);
}

empty_chains : {State Cell Items Defaults : Type 0} (steps : Steps State Cell Items) (rules : Rules State Cell Items Defaults) (blocks : List Block) → blocks ≡ []
    → IsHeaderChainOf steps rules [] no_cells (header_in blocks) × AllZip (IsChainOf steps rules.cells (opening_of steps.next rules [] blocks) []) [] (tunes_in blocks)
empty_chains steps rules [] e = (refl, tt)
empty_chains steps rules (block ∷ blocks) e = absurd (cc)

-- What is kept of the text with no lines.
pub empty_parts_are : {State Cell Items Defaults : Type 0} (steps : Steps State Cell Items) (rules : Rules State Cell Items Defaults)
    (text : Text) (rows : List (Row Cell)) (header : Option Block) (tunes : List Block) (chains : List (ChainView State Cell Items))
    → text ≡ [] → rows ≡ [] → header ≡ None → tunes ≡ [] → chains ≡ no_cells ∷ [] → ArePartsOf steps rules text (parts rows header tunes chains)
empty_parts_are {State = State} {Cell = Cell} {Items = Items} steps rules text rows header tunes chains t r h b c =
    let none : blocks_in rules [] ≡ [] = one_pass [] in
    let all : ArePartsOf steps rules [] (parts [] None [] (no_cells ∷ [])) = record {
      read = record { classes = refl; cells = refl };
      header_is = sym (ap header_in none);
      tunes_are = sym (ap tunes_in none);
      chains_are = empty_chains steps rules (blocks_in rules []) none;
    } in
    rw (t, r, h, b, c) all

-- The parts of a text are right, and its compiler keeps its laws.
pub record IsKept {C State Cell Items Defaults : Type 0} (steps : Steps State Cell Items) (rules : Rules State Cell Items Defaults) (on : KeptTextView C State Cell Items) : Type 0 where
  pub laws : IsResumable steps
  pub lawful : AreLawful steps rules
  pub parts_are : ArePartsOf steps rules on.lines.text (parts_of on)

pub kept_of : {C State Cell Items Defaults : Type 0} (steps : C → Steps State Cell Items) (rules : C → Rules State Cell Items Defaults) (on : KeptTextView C State Cell Items)
    → ArePartsOf (steps on.compiler) (rules on.compiler) on.lines.text (parts_of on)
    → ((compiler : C) → IsResumable (steps compiler)) → ((compiler : C) → AreLawful (steps compiler) (rules compiler)) → IsKept (steps on.compiler) (rules on.compiler) on
kept_of steps rules on parts_are laws lawful = record { laws = laws on.compiler; lawful = lawful on.compiler; parts_are = parts_are }

-- The same of a text seen as it is now.
pub kept_now : {C State Cell Items Defaults : Type 0} (steps : C → Steps State Cell Items) (rules : C → Rules State Cell Items Defaults) {was now : KeptTextView C State Cell Items} → was ≡ now
    → ArePartsOf (steps was.compiler) (rules was.compiler) was.lines.text (parts_of was)
    → ((compiler : C) → IsResumable (steps compiler)) → ((compiler : C) → AreLawful (steps compiler) (rules compiler)) → IsKept (steps now.compiler) (rules now.compiler) now
kept_now {C = C} {State = State} {Cell = Cell} {Items = Items} steps rules {now = now} same parts_are laws lawful = record {
  laws = laws now.compiler;
  lawful = lawful now.compiler;
  parts_are = subst (λ (k : KeptTextView C State Cell Items). ArePartsOf (steps k.compiler) (rules k.compiler) k.lines.text (parts_of k)) same parts_are;
}
