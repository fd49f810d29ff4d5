use Rattle.std.proofs.Common.{◌≡◌, ◌+◌, ◌-◌, ◌≤◌, ◌++◌, drop, length, take, sym, ap, ◌∙◌, subst, arith}
use Rattle.abc_live_index.proofs.BookSplice.{count, items, same_after, same_front}
use Rattle.abc_live_index.specs.KeptBook.{KeptBookView}
use Rattle.abc_lines.specs.GapList.{GapListView}
use Rattle.abc_live_index.specs.declared.output.Output.{Output}
use Rattle.abc_live_index.proofs.kept_book.KeptBook.prepare.Goals as goal

pub differences-requires-clause-change : goal.differences-requires-clause-change
differences-requires-clause-change c =
    let tunes = c.args.tunes in
    let before = c.self.inside.outputs in
    let after = c.in_ok-outputs.outputs.after in
    let same : before ≡ c.args.self.now.outputs = ap (λ (b : KeptBookView). b.outputs) c.self.view_is in
    let inside : tunes.range.to ≤ length before.items = subst (λ (g : GapListView Output). tunes.range.to ≤ length g.items) (sym same) c.requires.inside in
    let many : length tunes.outputs.items ≡ c.len-count.result = omega (arith, c.len-count.ensures, tunes.outputs.ok.0) in
    let is = c.in_ok-outputs.ensures.after in
    record {
      on = c.in_ok-outputs.ensures.on;
      order = c.requires.order;
      inside = inside;
      count = count before after tunes.range.from tunes.range.to tunes.outputs.items c.requires.order inside is ∙ ap (λ n. tunes.range.from + n + (length before.items - tunes.range.to)) many;
      front = same_front before after tunes.range.from tunes.range.to tunes.outputs.items c.requires.order inside is;
      following = ap (λ n. drop (tunes.range.from + n) after.items) (sym many) ∙ same_after before after tunes.range.from tunes.range.to tunes.outputs.items c.requires.order inside is;
    }

pub returns-in-Ok-clause-outputs : goal.returns-in-Ok-clause-outputs
returns-in-Ok-clause-outputs c =
    let tunes = c.args.tunes in
    let before = c.self.inside.outputs in
    let same : before ≡ c.args.self.now.outputs = ap (λ (b : KeptBookView). b.outputs) c.self.view_is in
    let inside : tunes.range.to ≤ length before.items = subst (λ (g : GapListView Output). tunes.range.to ≤ length g.items) (sym same) c.requires.inside in
    items before c.in_ok-outputs.outputs.after tunes.range.from tunes.range.to tunes.outputs.items c.requires.order inside c.in_ok-outputs.ensures.after
    ∙ ap (λ (g : GapListView Output). take tunes.range.from g.items ++ (tunes.outputs.items ++ drop tunes.range.to g.items)) same
