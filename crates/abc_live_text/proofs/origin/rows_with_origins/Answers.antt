use Rattle.std.proofs.Common.{map, get_or, arith}
use Rattle.std.proofs.lemmas.List.{get_or_default}
use Rattle.abc_book.specs.declared.block.Block.{Block}
use Rattle.abc_book.specs.declared.block.BlockKind.TheVariants.{FileHeader}
use Rattle.abc_live_text.specs.Row.{carried_row}
use Rattle.abc_live_text.proofs.OriginRows.{rise_at, rise_index, until_next}
use Rattle.abc_live_text.proofs.origin.rows_with_origins.Goals as goal

pub append_without_origin-requires-clause-inside : goal.append_without_origin-requires-clause-inside
append_without_origin-requires-clause-inside g c =
    let own = (rise_index c.loop-i.at c.args.blocks.now c.loop-i.i (record { kind = FileHeader; from = 0; to = 0 }) c.args.to c.loop-i.invariant.rise c.loop-i-test.true).0 in
    omega (arith, own, c.requires.inside)

pub append_block-requires-clause-inside : goal.append_block-requires-clause-inside
append_block-requires-clause-inside g c =
    let own = (rise_index c.loop-i.at c.args.blocks.now c.loop-i.i (record { kind = FileHeader; from = 0; to = 0 }) c.args.to c.loop-i.invariant.rise c.loop-i-test.true).1 in
    omega (arith, own, c.requires.inside)

pub loop-i-preserved : goal.loop-i-preserved
loop-i-preserved g c =
    let d : Block = record { kind = FileHeader; from = 0; to = 0 } in
    let is = get_or_default c.args.blocks.now c.loop-i.i d (get_or c.args.blocks.now c.loop-i.i d) c.loop-i-test.true in
    record {
      placed_rows = until_next
          (map carried_row
          c.args.rows.now.items) _ c.loop-i.placed_rows.items _ _ c.args.blocks.now c.loop-i.at c.args.to c.args.number c.loop-i.i
          (get_or c.args.blocks.now c.loop-i.i d) c.loop-i.invariant.placed_rows c.in_ok-append_without_origin.ensures c.in_ok-append_block.ensures c.loop-i-test.true is;
      rise = (rise_at c.loop-i.at c.args.blocks.now c.loop-i.i (get_or c.args.blocks.now c.loop-i.i d) c.args.to c.loop-i.invariant.rise c.loop-i-test.true is).2;
    }
