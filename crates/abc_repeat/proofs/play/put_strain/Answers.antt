use Rattle.std.proofs.Common.{◌++◌, ◌+◌, ◌≤◌, ◌-◌, ◌^◌, length, refl, ap, ◌∙◌, arith}
use Rattle.abc_repeat.specs.Strain.{strain_of}
use Rattle.abc_repeat.specs.Play.{places_from}
use Rattle.abc_repeat.proofs.Rounds.{put_more, rounds_end}
use Rattle.abc_repeat.proofs.Following.{ending_after}
use Rattle.abc_repeat.proofs.play.put_strain.Goals as goal

pub loop-earlier-preserved : goal.loop-earlier-preserved
loop-earlier-preserved c =
    let strain = strain_of c.args.text.now in
    put_more c.args.play.now.items c.loop-earlier.play.items c.put_places.new.play.items c.extend_from_slice.new.self.items
    c.put_ending.new.play.items c.args.from c.loop-earlier.earlier strain c.loop-earlier.invariant
    (c.in_ok-put_places.ensures ∙ ap (λ l. l ++ places_from c.args.from c.up_to_ending-front.result.now) c.in_ok-common.ensures.items ∙ ap (places_from c.args.from) c.up_to_ending-front.ensures.value)
    (c.in_ok-extend_from_slice.ensures.items ∙ ap (λ l. c.loop-earlier.play.items ++ l) c.deref-in-loop-earlier.ensures.value)
    (c.in_ok-put_ending.ensures
    ∙ ap (λ l. c.extend_from_slice.new.self.items ++ l)
    (ending_after c.args.text.now c.up_to_ending-front.result.now c.args.from (length c.up_to_ending-front.result.now) (c.loop-earlier.earlier + 1) c.up_to_ending-front.ensures.value refl))

pub returns : goal.returns
returns c =
    let strain = strain_of c.args.text.now in
    let reached : c.loop-earlier.earlier ≤ c.rounds-earlier-end.result = c.loop-earlier.auto.earlier-end in
    let ended : c.rounds-earlier-end.result ≤ c.loop-earlier.earlier = c.loop-earlier-test.false in
    c.loop-earlier.invariant
    ∙ ap (λ l. c.args.play.now.items ++ l)
    (rounds_end c.args.from c.loop-earlier.earlier c.most_passes-passes.result c.rounds-earlier-end.result (2 ^ 64 - 1) c.args.text.now c.deref.result.now (omega arith) c.most_passes-passes.ensures
    (c.deref.ensures.value ∙ c.in_ok-put_places.ensures ∙ ap
    (λ l. l ++ places_from c.args.from c.up_to_ending-front.result.now) c.in_ok-common.ensures.items ∙ ap (places_from c.args.from) c.up_to_ending-front.ensures.value)
    c.rounds-earlier-end.ensures (omega (arith, reached, ended)) (omega (arith, c.requires.short)))
