use Rattle.std.proofs.Common.{◌+◌, ◌++◌, [], ◌∷◌, sym, ap, drop, ◌∙◌, arith}
use Rattle.abc_scan.specs.Cutting.{cutting_from}
use Rattle.abc_scan.specs.Token.{line_reader}
use Rattle.abc_scan.proofs.Closings.{absent_next, absent_after, front_inside}
use Rattle.abc_scan.proofs.Cuttings.{cut_more}
use Rattle.abc_scan.proofs.line.cut.Goals as goal

pub loop-at-preserved : goal.loop-at-preserved
loop-at-preserved c =
    let text = c.args.text.now in
    let at = c.loop-at.at in
    let size = c.in_ok-kind-in-None.size in
    let told = c.in_ok-kind-in-None.ensures in
    let pushed = c.in_ok-push-in-None.ensures.items ∙ ap (λ t. c.loop-at.tokens.items ++ t ∷ []) c.token_at-in-None.ensures in
    let more = cut_more line_reader c.loop-at.after_bar text c.loop-at.tokens.items _ _ at (at + size) at (c.in_ok-kind-in-None.kind, size) (λ i. at + size) c.loop-at-test.true told.front
    told.value pushed c.loop-at.invariant.cut in
    record {
      inside = front_inside text at size c.loop-at.invariant.inside told.front;
      known = absent_after c.next_token.new.absent text at size told.front told.absent;
      cut = ap (λ b. c.push-in-None.new.self.items ++ cutting_from line_reader b (at + size) 0 (drop (at + size) text)) c.is_bar-after_bar.ensures ∙ more;
    }

pub loop-at-preserved-in-Some : goal.loop-at-preserved-in-Some
loop-at-preserved-in-Some c =
    let text = c.args.text.now in
    let at = c.loop-at.at in
    let size = c.in-Some.size in
    let told = c.in-Some.ensures in
    let pushed = c.in_ok-push-in-Some.ensures.items ∙ ap (λ t. c.loop-at.tokens.items ++ t ∷ []) c.token_at.ensures in
    let more = cut_more line_reader c.loop-at.after_bar text c.loop-at.tokens.items _ _ at (at + size) at (c.in-Some.kind, size) (λ i. at + size) c.loop-at-test.true told.front
    (sym (told.value c.loop-at.after_bar)) pushed c.loop-at.invariant.cut in
    record {
      inside = front_inside text at size c.loop-at.invariant.inside told.front;
      known = absent_after c.loop-at.absent text at size told.front (absent_next c.loop-at.absent text at c.loop-at.invariant.known);
      cut = ap (λ b. c.push.new.self.items ++ cutting_from line_reader b (at + size) 0 (drop (at + size) text)) (sym told.plain) ∙ more;
    }

pub loop-at-init : goal.loop-at-init
loop-at-init c = record {
  inside = omega arith;
  known = c.none-absent.ensures c.args.text.now;
  cut = ap (λ l. l ++ cutting_from line_reader _ 0 0 c.args.text.now) c.in_ok-tokens.ensures.items;
}
