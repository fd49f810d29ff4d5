use Rattle.abc_bars.proofs.LookBack.VoicePlaces.{places_hold_of_voices, voices_are_mentioned, voices_hold_of_tokens}
use Rattle.abc_bars.proofs.laws.voice_places.voices_at_places.Goals as goal

pub returns : goal.returns
returns c = record { mentioned = voices_are_mentioned; current = places_hold_of_voices; each = voices_hold_of_tokens }
