-- The walk over the parts of a chord.
use Rattle.std.proofs.Common.{◌≡◌, ℕ, List, drop}
use Rattle.abc_scan.specs.declared.chord_part.ChordPartKind.{ChordPartKind}
use Rattle.abc_scan.specs.declared.spanned.Spanned.{Spanned}
use Rattle.abc_time.specs.declared.ratio.Ratio.{Ratio}
use Rattle.abc_bars_notes.specs.declared.chords.ChordContext.{ChordContext}
use Rattle.abc_bars_voice.specs.declared.voice_state.VoiceState.{VoiceState}
use Rattle.abc_bars_notes.specs.declared.sound.ChordBuilder.{ChordBuilder}
use Rattle.abc_bars_notes.specs.Chords.{AreCounted, chord_builder_from, chord_builder_of}

-- with what is left, this makes what all parts give
pub record IsBuiltSoFar (state : VoiceState) (broken : List Ratio) (chord_context : ChordContext) (parts : List (Spanned ChordPartKind)) (at : ℕ) (builder : ChordBuilder) : Type 0 where
  pub rest : chord_builder_from state broken chord_context (drop at parts) builder ≡ chord_builder_of state broken chord_context parts
  pub counted : AreCounted builder.tones
