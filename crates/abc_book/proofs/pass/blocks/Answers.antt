use Rattle.std.proofs.Common.{◌≡◌, ◌++◌, [], drop, sym, ap, ◌∙◌, arith}
use Rattle.std.proofs.lemmas.List.{drop_all}
use Rattle.abc_book.specs.declared.pass.OpenBlock.TheVariants.{Nothing}
use Rattle.abc_book.specs.Pass.{blocks_from}
use Rattle.abc_book.proofs.OnePass.{one_pass}
use Rattle.abc_book.proofs.pass.blocks.Goals as goal

pub loop-at-init : goal.loop-at-init
loop-at-init c = ap (λ l. l ++ blocks_from Nothing 0 c.args.classes.now) c.new-blocks.ensures.items

pub returns : goal.returns
returns c =
    let found = c.loop-at.blocks.items in
    let none : drop c.loop-at.at c.args.classes.now ≡ [] = drop_all c.loop-at.at c.args.classes.now (omega arith) in
    record {
      value =
          c.in_ok-append-2.ensures
          ∙ ap (λ l. found ++ l) c.last_block.ensures
          ∙ ap (λ l. found ++ blocks_from c.loop-at.before c.loop-at.at l) (sym none)
          ∙ c.loop-at.invariant
          ∙ sym (one_pass c.args.classes.now);
    }
