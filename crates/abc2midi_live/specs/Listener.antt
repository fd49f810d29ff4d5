-- What a listener does with the bytes that still come. Not in ABC 2.1.
use Rattle.std.specs.Prelude.{ℕ, List}
use Rattle.abc2midi_live.specs.Machine.{MachineState, state_before_bytes}
use Rattle.abc2midi_live.specs.declared.listener.Listener.{Listener}

-- The state of its machine, after the beginning of a line that has come.
abbrev pub at_byte : {M : Type 0} → (M → MachineState (List ℕ)) → Listener M → MachineState ℕ
at_byte state listener = state_before_bytes (state listener.machine).future listener.begun.items (state listener.machine).directory
