-- The lengths of notes, rests and chords at the places of a tune, by what is round them in their cell and before them in
-- their voice. ABC 2.1 sections 4.3, 4.4, 4.5, 4.13 and 4.17.
use Rattle.std.specs.Prelude.{◌≡◌, ℕ, true, false, List, length, Option, None}
use Rattle.abc_scan.specs.declared.chord.Chord.{Chord}
use Rattle.abc_scan.specs.declared.length.WrittenLength.{WrittenLength}
use Rattle.abc_scan.specs.declared.note.Note.{Note}
use Rattle.abc_scan.specs.declared.spanned.Spanned.{Spanned}
use Rattle.abc_scan.specs.declared.token.TokenKind.{TokenKind}
use Rattle.abc_scan.specs.declared.token.TokenKind.TheVariants as kinds
use Rattle.abc_time.specs.declared.grains.Grains.{Grains}
use Rattle.abc_bars_items.specs.declared.item.Item.{Item}
use Rattle.abc_bars_items.specs.declared.item.Item.TheVariants as items
use Rattle.abc_bars_items.specs.declared.item.Tone.{Tone}
use Rattle.abc_bars_voice.specs.declared.voice_state.VoiceState.{VoiceState}
use Rattle.abc_bars_notes.specs.BarRest.{bar_rest_of}
use Rattle.abc_bars_notes.specs.ChordNotes.{SoundsTogether}
use Rattle.abc_bars_notes.specs.Lasting.{IsGiven, IsOneTone, IsPlace, Lasts}
use Rattle.abc_bars_notes.specs.TokenRole.{has_note}
use Rattle.abc_bars.specs.LookBack.CellPlace.{CellPlace, GivesItem, cell_with, voice_place_at}
use Rattle.abc_bars.specs.LookBack.Voice.{voice_state_at}

-- The state of the current voice at a place.
abbrev pub state_there : CellPlace → VoiceState
state_there place = voice_state_at (voice_place_at place).opening (voice_place_at place).before

-- An item is a tone as long as a note with this text at a place of a cell.
abbrev pub LastsAsNote : VoiceState → List (Spanned TokenKind) → ℕ → WrittenLength → Item → Type 0
LastsAsNote state cell place written item =
    (given : Grains) × IsOneTone item given × IsGiven (Lasts state cell place written None) state.unit given

-- An item is a rest as long as a rest with this text at a place of a cell.
abbrev pub LastsAsRest : VoiceState → List (Spanned TokenKind) → ℕ → WrittenLength → Item → Type 0
LastsAsRest state cell place written item =
    (given : Grains) × (item ≡ items.Rest given false) × IsGiven (Lasts state cell place written None) state.unit given

-- An item is what sounds of a chord at a place of a cell.
abbrev pub SoundsAsChord : VoiceState → List (Spanned TokenKind) → ℕ → Chord → Item → Type 0
SoundsAsChord state cell place chord item =
    (tones : List Tone) × (lasting : Grains) × (item ≡ items.Tone tones lasting)
    × SoundsTogether state cell place chord tones lasting

-- A note at any place of a tune lasts as `LastsAsNote` says. The unit and the tuplet of its voice there count, and the marks
-- of broken rhythm that act on it in its cell.
abbrev pub NotesLastThere : Type 0
NotesLastThere =
    (place : CellPlace) (note : Note)
    → IsPlace (state_there place) (cell_with place (kinds.Note note)) (length place.front)
    → GivesItem place (kinds.Note note) (LastsAsNote (state_there place) (cell_with place (kinds.Note note)) (length place.front)
    note.length)

-- So does a rest.
abbrev pub RestsLastThere : Type 0
RestsLastThere =
    (place : CellPlace) (written : WrittenLength)
    → IsPlace (state_there place) (cell_with place (kinds.Rest written)) (length place.front)
    → GivesItem place (kinds.Rest written) (LastsAsRest (state_there place) (cell_with place (kinds.Rest written))
    (length place.front) written)

-- A rest of bars gives what it gives in the meter of its voice there. ABC 2.1 section 4.5.
abbrev pub BarRestsLastThere : Type 0
BarRestsLastThere =
    (place : CellPlace) (bars : Option ℕ)
    → GivesItem place (kinds.BarRest bars) (λ item. item ≡ (bar_rest_of (state_there place).meter bars).0)

-- Of a chord its first sixteen notes do, and it lasts as long as its first note.
abbrev pub ChordsLastThere : Type 0
ChordsLastThere =
    (place : CellPlace) (chord : Chord)
    → has_note chord.parts ≡ true
    → IsPlace (state_there place) (cell_with place (kinds.Chord chord)) (length place.front)
    → GivesItem place (kinds.Chord chord) (SoundsAsChord (state_there place) (cell_with place (kinds.Chord chord))
    (length place.front) chord)
