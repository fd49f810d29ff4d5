use Rattle.std.proofs.Common.{◌≡◌, ◌++◌}
use Rattle.std.specs.Prelude.{map, take}
use Rattle.smf_bytes.specs.Voice.{change_of}
use Rattle.smf_bytes.proofs.voice.put_programs.Given as goal

abbrev pub invariant-loop-change : goal.invariant-loop-change
invariant-loop-change l = l.events.items ≡ l.fn.events.items ++ map change_of (take l.change-index l.programs)
