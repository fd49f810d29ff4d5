-- A stream of std as contracts see it. Not in ABC 2.1.
use Rattle.abc2midi_live.specs.declared.streams.Piped.{Piped}

-- A reader or a writer of std that has not been used yet.
abbrev pub new_pipe : {T : Type 0} → T → Piped T
new_pipe inner = record { inner = inner; failures = 0; calls = 0 }
