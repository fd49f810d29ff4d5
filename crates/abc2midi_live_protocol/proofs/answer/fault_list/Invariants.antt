use Rattle.std.specs.Prelude.{◌≡◌, flat_map, take}
use Rattle.abc2midi_live_protocol.specs.Answer.{fault_line}
use Rattle.abc2midi_live_protocol.proofs.answer.fault_list.Given as goal

-- the faults so far are known
abbrev pub invariant-loop-fault : goal.invariant-loop-fault
invariant-loop-fault l = l.text.items ≡ flat_map fault_line (take l.fault-index l.faults)
