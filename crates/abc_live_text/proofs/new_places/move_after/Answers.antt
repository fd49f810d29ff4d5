use Rattle.std.proofs.Common.{◌<◌, length, ◌∙◌, ap, arith, refl, rules, slice_set}
use Rattle.abc_lines.specs.declared.limits.TheConstants.{MOST_LINES}
use Rattle.abc_live_text.specs.Pieces.{LiesWithin}
use Rattle.abc_live_text.specs.KeptText.{LiesAfter, block_after}
use Rattle.abc_live_text.proofs.PlaceUpdates.{move_more, none_moves, one_after, rest_after}
use Rattle.abc_live_text.proofs.new_places.move_after.Goals as goal

pub returns-then-stretch : goal.returns-then-stretch
returns-then-stretch c =
    none_moves c.args.stretch c.args.tunes.now.items MOST_LINES (omega (arith, c.if-stretch.true)) c.requires.beyond c.requires.within

pub block_after-requires-clause-beyond : goal.block_after-requires-clause-beyond
block_after-requires-clause-beyond c =
    let inside : c.loop-i.i < length c.loop-i.tunes.items = omega (arith, c.loop-i-test.true, c.len-i-end.ensures, c.loop-i.invariant.count) in
    one_after (LiesAfter c.args.stretch) c.loop-i.tunes.items c.loop-i.i c.index.result.now c.loop-i.invariant.beyond inside c.index.ensures

pub block_after-requires-clause-within : goal.block_after-requires-clause-within
block_after-requires-clause-within c =
    let inside : c.loop-i.i < length c.loop-i.tunes.items = omega (arith, c.loop-i-test.true, c.len-i-end.ensures, c.loop-i.invariant.count) in
    one_after (LiesWithin MOST_LINES) c.loop-i.tunes.items c.loop-i.i c.index.result.now c.loop-i.invariant.within inside c.index.ensures

pub loop-i-preserved : goal.loop-i-preserved
loop-i-preserved c =
    let inside : c.loop-i.i < length c.loop-i.tunes.items = omega (arith, c.loop-i-test.true, c.len-i-end.ensures, c.loop-i.invariant.count) in
    let was = c.loop-i.tunes.items in
    let block = c.index.result.now in
    record {
      same = move_more (block_after c.args.stretch) was _ c.loop-i.i block (ap (λ b. slice_set was c.loop-i.i b) c.block_after.ensures) inside c.index.ensures ∙ c.loop-i.invariant.same;
      beyond = rest_after (LiesAfter c.args.stretch) was _ c.loop-i.i block c.block_after.result refl c.loop-i.invariant.beyond inside c.index.ensures;
      within = rest_after (LiesWithin MOST_LINES) was _ c.loop-i.i block c.block_after.result refl c.loop-i.invariant.within inside c.index.ensures;
      count = search rules;
    }
