use Rattle.std.proofs.Common.{◌≡◌, ◌∙◌, ◌≤◌, ◌+◌, ◌++◌, ◌∷◌, ◌-◌, [], length, arith, length-append, sym, ap, subst}
use Rattle.std.specs.List.{All}
use Rattle.std.specs.Option.{option_map}
use Rattle.std.proofs.lemmas.List.Elements.{All-append, All-cons, All-nil}
use Rattle.abc_marks.specs.Directive.{IsStep}
use Rattle.abc_marks_readers.specs.Pattern.{steps_of}
use Rattle.abc_marks_readers.proofs.Steps.{none_before, step_added}
use Rattle.abc_marks_readers.proofs.pattern.pattern_of.Goals as goal

pub loop-rest-init : goal.loop-rest-init
loop-rest-init c =
    let none : length c.new-steps.result ≡ 0 = ap length c.new-steps.ensures in
    let some = c.if-is_empty.false in
    record {
      value = none_before _ _ c.new-steps.ensures;
      count = omega (arith, none);
      each = subst (All IsStep) (sym c.new-steps.ensures) (All-nil IsStep);
      some = grind (arith, some, none);
    }

pub loop-rest-preserved : goal.loop-rest-preserved
loop-rest-preserved c =
    let pushed : c.push.new.self ≡ c.loop-rest.steps ++ c.in-Some.step ∷ [] = c.in_ok-push.ensures.ok in
    let one : length c.push.new.self ≡ length c.loop-rest.steps + 1 = ap length pushed ∙ length-append c.loop-rest.steps (c.in-Some.step ∷ []) in
    let nonzero = c.if-left-eq0.false in
    let positive : 1 ≤ c.loop-rest.left = grind (arith, nonzero) in
    record {
      value = ap (λ s. option_map (λ more. s ++ more) (steps_of (c.loop-rest.left - 1) c.in-Some.following.now)) pushed
          ∙ step_added c.loop-rest.steps c.loop-rest.left c.loop-rest.rest.now c.in-Some.step c.in-Some.following.now positive c.in-Some.ensures.value
          ∙ c.loop-rest.invariant.value;
      count = let before = c.loop-rest.invariant.count in omega (arith, one, positive, before);
      each = subst (All IsStep) (sym pushed)
          (All-append IsStep c.loop-rest.steps (c.in-Some.step ∷ []) c.loop-rest.invariant.each (All-cons IsStep c.in-Some.step [] c.in-Some.ensures.range (All-nil IsStep)));
      some = omega (arith, one);
    }
