use Rattle.std.proofs.Common.{sym, ◌∙◌}
use Rattle.abc2midi_live_protocol.proofs.Answers.{number_list-none, number_list-more}
use Rattle.abc2midi_live_protocol.proofs.answer.put_numbers.Goals as goal

pub loop-number-init : goal.loop-number-init
loop-number-init c = sym (number_list-none c.args.text.now.items c.args.numbers.now)

pub loop-number-preserved : goal.loop-number-preserved
loop-number-preserved c =
    number_list-more c.args.text.now.items c.loop-number.text.items _ c.extend_from_slice.new.self.items _ c.args.numbers.now c.loop-number.number-index c.loop-number-test.true c.loop-number.invariant
    c.in_ok-push.ensures.items c.in_ok-extend_from_slice.ensures.items (c.as_bytes.ensures.value ∙ c.format.ensures.text)
