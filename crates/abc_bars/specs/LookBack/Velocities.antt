-- The velocities of notes and chords at the places of a tune, by the last dynamic that is before them in their voice.
-- ABC 2.1 section 4.14; the velocities are not in ABC 2.1.
use Rattle.std.specs.Prelude.{◌≡◌, ℕ, Bool, true, List, ◌∷◌, ◌++◌, All, None}
use Rattle.abc_scan.specs.declared.chord.Chord.{Chord}
use Rattle.abc_scan.specs.declared.dynamic.Dynamic.{Dynamic}
use Rattle.abc_scan.specs.declared.note.Note.{Note}
use Rattle.abc_scan.specs.declared.token.TokenKind.{TokenKind}
use Rattle.abc_scan.specs.declared.token.TokenKind.TheVariants as kinds
use Rattle.abc_scan.specs.Dynamic.{velocity_of as dynamic_velocity}
use Rattle.abc_time.specs.declared.grains.Grains.{Grains}
use Rattle.abc_bars_items.specs.declared.item.Item.{Item}
use Rattle.abc_bars_items.specs.declared.item.Item.TheVariants as items
use Rattle.abc_bars_items.specs.declared.item.Tone.{Tone}
use Rattle.abc_bars_notes.specs.TokenRole.{has_note}
use Rattle.abc_bars.specs.LookBack.CellPlace.{CellPlace, GivesItem, voice_place_at}
use Rattle.abc_bars.specs.LookBack.Element.{Element}
use Rattle.abc_bars.specs.LookBack.Voice.{dynamic_said}

-- No dynamic among a voice's tokens. One inside a chord is none.
abbrev pub IsNoDynamic : List Element → Type 0
IsNoDynamic before = All (λ other. dynamic_said other.kind ≡ None) before

-- The last dynamic among a voice's tokens before a place, newest first.
pub record IsLastDynamic (before : List Element) (dynamic : Dynamic) : Type 0 where
  pub nearer : List Element
  pub tied : Bool
  pub further : List Element
  pub split : before ≡ nearer ++ record { kind = kinds.Dynamic dynamic; tied = tied } ∷ further
  pub none : IsNoDynamic nearer

-- The velocity after these tokens of a voice: that of its last dynamic, as written, else 80.
pub record IsVelocityAt (before : List Element) (velocity : ℕ) : Type 0 where
  pub last : (dynamic : Dynamic) → IsLastDynamic before dynamic → velocity ≡ dynamic_velocity dynamic
  pub usual : IsNoDynamic before → velocity ≡ 80

-- An item is of tones that all have this velocity.
abbrev pub SoundsWith : ℕ → Item → Type 0
SoundsWith velocity item =
    (tones : List Tone) × (lasting : Grains) × (item ≡ items.Tone tones lasting) × All (λ tone. tone.velocity ≡ velocity) tones

-- A token of this kind at a place sounds with the velocity after what is before it in its voice.
abbrev pub SoundsAsSaid : CellPlace → TokenKind → Type 0
SoundsAsSaid place kind =
    (velocity : ℕ) × IsVelocityAt (voice_place_at place).before velocity × GivesItem place kind (SoundsWith velocity)

-- So does a note at any place of a tune.
abbrev pub NotesHaveVelocities : Type 0
NotesHaveVelocities = (place : CellPlace) (note : Note) → SoundsAsSaid place (kinds.Note note)

-- So does each note of a chord.
abbrev pub ChordsHaveVelocities : Type 0
ChordsHaveVelocities = (place : CellPlace) (chord : Chord) → has_note chord.parts ≡ true → SoundsAsSaid place (kinds.Chord chord)
