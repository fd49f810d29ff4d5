use Rattle.std.proofs.Common.{◌≡◌, ◌++◌, take}
use Rattle.abc2midi_live_protocol.specs.Answer.{number_list}
use Rattle.abc2midi_live_protocol.proofs.answer.put_numbers.Given as goal

-- the numbers so far are listed
abbrev pub invariant-loop-number : goal.invariant-loop-number
invariant-loop-number l = l.text.items ≡ l.fn.text.items ++ number_list (take l.number-index l.numbers)
