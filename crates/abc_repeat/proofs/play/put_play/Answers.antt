use Rattle.std.proofs.Common.{◌++◌, length, refl, sym, ap, ◌∙◌, arith, append-nil}
use Rattle.abc_repeat.specs.Play.{play_of}
use Rattle.abc_repeat.proofs.Rests.{rest_none, rest_inside, rest_short, strain_short, put_strain_more}
use Rattle.abc_repeat.proofs.play.put_play.Goals as goal

pub loop-at-init : goal.loop-at-init
unfolding play_of
loop-at-init c = record { inside = omega arith; short = omega arith; put = refl }

pub put_strain-requires-clause-short : goal.put_strain-requires-clause-short
put_strain-requires-clause-short c =
    let short = strain_short c.loop-at.at c.loop-at.opened c.args.marks.now c.first_strain-text.result.now
    (length (play_of c.args.marks.now)) c.first_strain-text.ensures.value c.loop-at.invariant.short in
    omega (arith, short, c.requires)

pub loop-at-preserved : goal.loop-at-preserved
loop-at-preserved c =
    let at = c.loop-at.at in
    let ms = c.args.marks.now in
    let text = c.first_strain-text.result.now in
    let is = c.first_strain-text.ensures.value in
    let opens = c.opens_after-opened.ensures in
    record {
      inside = rest_inside at ms text c.loop-at.invariant.inside c.first_strain-text.ensures.bounded;
      short = rest_short at c.loop-at.opened c.opens_after-opened.result ms text (length (play_of ms)) is opens c.loop-at.invariant.short;
      put =
          put_strain_more c.loop-at.play.items c.put_strain.new.play.items at c.loop-at.opened c.opens_after-opened.result ms text is opens c.in_ok-put_strain.ensures ∙ c.loop-at.invariant.put;
    }

pub returns : goal.returns
returns c =
    sym (append-nil c.loop-at.play.items) ∙ ap (λ l. c.loop-at.play.items ++ l) (sym (rest_none c.loop-at.at c.loop-at.opened c.args.marks.now c.loop-at-test.false)) ∙ c.loop-at.invariant.put
