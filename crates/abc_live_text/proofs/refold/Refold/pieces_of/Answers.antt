use Rattle.std.proofs.Common.{◌≡◌, ◌<◌, ◌≤◌, ◌++◌, ◌-◌, length, take, drop, refl, sym, ap, ◌∙◌, arith}
use Rattle.std.proofs.lemmas.Option.{slice_get_read}
use Rattle.std.specs.List.{flat_map}
use Rattle.abc_live_text.specs.Pieces.{cells_in, kept_states_of}
use Rattle.abc_live_text.proofs.LinePieces.{over_next}
use Rattle.abc_live_text.proofs.refold.Refold.pieces_of.Goals as goal

pub loop-i-preserved : goal.loop-i-preserved
loop-i-preserved g c =
    let order : c.args.block.now.from ≤ c.loop-i.i = c.loop-i.auto.i in
    let inside : c.loop-i.i < length c.args.self.now.rows.now = let a = c.loop-i-test.true in let b = c.requires.within.1 in omega arith in
    let at = slice_get_read c.args.self.now.rows.now (length c.args.self.now.rows.now) c.loop-i.i c.index-rows-i.result refl inside c.index-rows-i.is in
    record {
      cells = c.in_ok-end.ensures.cells ∙ (ap (λ l. l ++ c.index-rows-i.result.cells) c.loop-i.invariant.cells
          ∙ sym (over_next cells_in c.args.self.now.rows.now c.args.block.now.from c.loop-i.i c.index-rows-i.result order at));
      kept_states = c.in_ok-end.ensures.kept_states ∙ (ap (λ l. l
          ++ kept_states_of c.args.self.now.chains.now.items c.index-rows-i.result) c.loop-i.invariant.kept_states
          ∙ sym (over_next (kept_states_of c.args.self.now.chains.now.items) c.args.self.now.rows.now c.args.block.now.from c.loop-i.i c.index-rows-i.result order at));
      kept = c.append_row.ensures.sound;
      ends = c.in_ok-end.ensures.ends;
    }

pub returns-clause-cells : goal.returns-clause-cells
returns-clause-cells g c =
    let last : c.loop-i.i ≡ c.args.block.now.to = let a = c.loop-i-test.false in let b = c.requires.within.0 in let d = c.loop-i.auto.i-end in omega arith in
    c.loop-i.invariant.cells ∙ ap (λ n. flat_map cells_in (take (n - c.args.block.now.from) (drop c.args.block.now.from c.args.self.now.rows.now))) last

pub returns-clause-kept_states : goal.returns-clause-kept_states
returns-clause-kept_states g c =
    let last : c.loop-i.i ≡ c.args.block.now.to = let a = c.loop-i-test.false in let b = c.requires.within.0 in let d = c.loop-i.auto.i-end in omega arith in
    c.loop-i.invariant.kept_states ∙ ap (λ n. flat_map (kept_states_of c.args.self.now.chains.now.items) (take (n - c.args.block.now.from) (drop c.args.block.now.from c.args.self.now.rows.now))) last
