-- What a chord without notes gives does not depend on broken rhythm.
use Rattle.std.proofs.Common.{◌≡◌, ◌∙◌, ℕ, Bool, true, false, List, [], ◌∷◌, refl, ap}
use Rattle.std.specs.Prelude.{◌||◌}
use Rattle.abc_scan.specs.declared.chord.Chord.{Chord}
use Rattle.abc_scan.specs.declared.chord_part.ChordPartKind.{ChordPartKind}
use Rattle.abc_scan.specs.declared.chord_part.ChordPartKind.TheVariants as kinds
use Rattle.abc_scan.specs.declared.spanned.Spanned.{Spanned}
use Rattle.abc_time.specs.declared.ratio.Ratio.{Ratio}
use Rattle.abc_bars_notes.specs.declared.chords.ChordContext.{ChordContext}
use Rattle.abc_bars_voice.specs.declared.voice_state.VoiceState.{VoiceState}
use Rattle.abc_bars_notes.specs.declared.sound.NoteContext.{NoteContext}
use Rattle.abc_bars_notes.specs.declared.sound.ChordBuilder.{ChordBuilder}
use Rattle.abc_bars_notes.specs.Chords.{part_context, chord_builder_from, tie_follows, with_kind, with_part}
use Rattle.abc_bars_notes.specs.Sound.{no_notes}
use Rattle.abc_bars_notes.specs.TimeTokens.{chord_by, play_chord}
use Rattle.abc_bars_notes.specs.TokenRole.{has_note, is_note_part}

module _ (state : VoiceState) (broken other : List Ratio) (outside : ChordContext) where
  kind_same : (around : NoteContext) (kind : ChordPartKind) (inside : ChordBuilder) → is_note_part kind ≡ false
      → with_kind state broken around kind inside ≡ with_kind state other around kind inside
  kind_same around (kinds.Note note) inside h = cc
  kind_same around _ inside h = refl

  by_first : (part : Spanned ChordPartKind) (parts : List (Spanned ChordPartKind)) (inside : ChordBuilder)
      → ((later : ChordBuilder) → has_note parts ≡ false → chord_builder_from state broken outside parts later ≡ chord_builder_from state other outside parts later)
      → (is_note : Bool) → is_note_part part.kind ≡ is_note → (is_note || has_note parts) ≡ false
      → chord_builder_from state broken outside (part ∷ parts) inside ≡ chord_builder_from state other outside (part ∷ parts) inside
  by_first part parts inside more true e h = cc
  by_first part parts inside more false e h =
      more (with_part state broken outside part (tie_follows parts) inside) h
      ∙ ap (λ (k : ChordBuilder). chord_builder_from state other outside parts (record k { after_note = is_note_part part.kind }))
      (kind_same (part_context outside part.from (tie_follows parts)) part.kind inside e)

  parts_same : (parts : List (Spanned ChordPartKind)) (inside : ChordBuilder) → has_note parts ≡ false
      → chord_builder_from state broken outside parts inside ≡ chord_builder_from state other outside parts inside
  parts_same [] inside h = refl
  parts_same (part ∷ parts) inside h = by_first part parts inside (λ later g. parts_same parts later g) (is_note_part part.kind) refl h

pub silent_same : (state : VoiceState) (broken other : List Ratio) (tied : Bool) (from : ℕ) (chord : Chord) → has_note chord.parts ≡ false
    → play_chord state broken tied from chord ≡ play_chord state other tied from chord
silent_same state broken other tied from chord h =
    ap (λ inside. chord_by (has_note chord.parts) state from inside)
    (parts_same state broken other (record { length = chord.length; tied = tied; from = from }) chord.parts (no_notes state) h)
