-- The state of a voice.
use Rattle.abc_bars_voice.specs.declared.voice_state.VoiceState.{VoiceState}
use Rattle.abc_bars_voice.specs.Accidentals.{no_accidentals, reach_of}

-- The state after a bar line, a key or a part, which end the accidentals. Later ones have the same reach.
abbrev pub without_accidentals : VoiceState → VoiceState
without_accidentals state = record state { accidentals = no_accidentals (reach_of state.accidentals) }
