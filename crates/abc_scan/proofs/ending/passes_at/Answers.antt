use Rattle.std.proofs.Common.{◌≡◌, ◌+◌, Some, drop, length, arith, sym, ap, subst, ◌∙◌, length-drop}
use Rattle.std.proofs.lemmas.List.{take_rest}
use Rattle.std.specs.Prelude.{fold}
use Rattle.abc_scan.specs.Ending.{with_range, next_range, more_from, passes_at}
use Rattle.abc_scan.proofs.Endings.{passes_first, passes_next, passes_none}
use Rattle.abc_scan.proofs.ending.passes_at.Goals as goal

pub returns-in_err-first-clause-value : goal.returns-in_err-first-clause-value
returns-in_err-first-clause-value c = c.from_residual.ensures ∙ sym (passes_none c.args.text.now (sym c.in_err-first.ensures.value))

pub loop-range-init : goal.loop-range-init
loop-range-init c =
    let text = c.args.text.now in
    let size = c.in_ok-first.size in
    record {
      some = c.in_ok-first.ensures.front.some;
      inside = c.in_ok-first.ensures.front.inside;
      read = subst (λ p. passes_at text ≡ Some (fold with_range p (more_from 0 (drop size text)).0, size + (more_from 0 (drop size text)).1)) (sym c.with_range-passes.ensures) (passes_first text
          c.in_ok-first.first size (sym c.in_ok-first.ensures.value));
    }

pub loop-range-preserved : goal.loop-range-preserved
loop-range-preserved c =
    let text = c.args.text.now in
    let size = c.loop-range.size in
    let more = c.in-Some.more in
    let rest = take_rest text size in
    let read : next_range (drop size text) ≡ Some (c.in-Some.range, more) = ap next_range (sym rest) ∙ sym c.in-Some.ensures.value in
    record {
      some = omega arith;
      inside = omega (arith, c.in-Some.ensures.front.inside, ap length rest, length-drop size text, c.loop-range.invariant.inside);
      read = subst (λ p. passes_at text ≡ Some (fold with_range p (more_from 0 (drop (size + more) text)).0, size + more + (more_from 0 (drop (size + more) text)).1)) (sym
          c.with_range-passes-in-Some.ensures) (passes_next text size c.loop-range.passes c.in-Some.range more read c.loop-range.invariant.read);
    }
