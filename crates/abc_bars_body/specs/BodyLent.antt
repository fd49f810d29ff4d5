-- A body after the state of its current voice was borrowed and changed.
use Rattle.std.specs.Borrow.{Fml, Lends, MutBor}
use Rattle.abc_bars_body.specs.contracts.body.Body.{the_row}
use Rattle.abc_bars_voice.specs.contracts.voice_state.VoiceState.{the_row as voice_state_row}
use Rattle.abc_bars_body.specs.Body.{with_here}
use Rattle.abc_bars_body.specs.contracts.body.Current.{the_row as current_row}
use Rattle.abc_bars_body.specs.declared.body.Current.{Current}
use Rattle.abc_bars_body.specs.declared.body.Current.TheVariants.{Unnamed}
use Rattle.abc_bars_body.specs.declared.body.Body.{Body}
use Rattle.abc_bars_voice.specs.declared.voice_state.VoiceState.{VoiceState}

-- Once the borrow ends, what was last written is the state of the current voice.
abbrev pub LendsHere : MutBor Body → MutBor VoiceState → Fml
LendsHere body lent = Lends the_row voice_state_row body lent (with_here body.now)

-- Once the borrow ends, what was last written is the state of the voice without a name.
abbrev pub LendsUnnamed : MutBor Current → MutBor VoiceState → Fml
LendsUnnamed current lent = Lends current_row voice_state_row current lent Unnamed
