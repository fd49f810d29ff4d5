-- Chords. ABC 2.1 section 4.17.
use Rattle.std.specs.Prelude.{◌≡◌, ◌⊎◌, ℕ, Bool, false, Option, Some, None, List, take, drop}
use Rattle.std.specs.Option.{option_map}
use Rattle.abc_scan.specs.declared.chord.Chord.{Chord}
use Rattle.abc_scan.specs.declared.chord_part.ChordPartKind.{ChordPartKind}
use Rattle.abc_scan.specs.declared.chord_part.ChordPartKind.TheVariants as kinds
use Rattle.abc_scan.specs.declared.frame.Frame.{Frame}
use Rattle.abc_scan.specs.declared.spanned.Spanned.{Spanned}
use Rattle.abc_scan.specs.declared.start.Start.{Start}
use Rattle.abc_scan.specs.declared.start.Start.TheVariants as starts
use Rattle.abc_scan.specs.Cutting.{Kinds, Grammar, Reader, IsCuttingFrom, as_kind, of_kind, cutting_from}
use Rattle.abc_scan.specs.Delimited.{delimited_at}
use Rattle.abc_scan.specs.Frame.{IsFrame, frame_at}
use Rattle.abc_scan.specs.NoEffect.{HasNoEffect, extra_space_at}
use Rattle.abc_scan.specs.Note.{IsNote, note_at}
use Rattle.abc_scan.specs.Single.{IsBlankToken, IsTie}
use Rattle.abc_scan.specs.Start.{start_of}

-- The bytes spell a part of a chord of this kind. A bad byte spells none. The kinds of parts are not in ABC 2.1.
abbrev pub SpellsPart : Bool → List ℕ → ChordPartKind → Type 0
SpellsPart after_bar text (kinds.Note note) = IsNote text note
SpellsPart after_bar text kinds.Tie = IsTie text
SpellsPart after_bar text kinds.NoEffect = IsBlankToken text ⊎ HasNoEffect text
SpellsPart after_bar text kinds.BadByte = ⊥

-- A byte of a chord that begins no part is a bad byte, and no part is a bar line.
abbrev pub part_kinds : Kinds ChordPartKind
part_kinds = record { unmatched = λ b. kinds.BadByte; is_bar = λ k. false }

-- The grammar of the parts of a chord.
abbrev pub part_grammar : Grammar ChordPartKind
part_grammar = record { kinds = part_kinds; spells = SpellsPart }

-- The bytes between the brackets of a chord.
abbrev pub inside_of : Frame → List ℕ → List ℕ
inside_of frame text = take frame.inside (drop 1 text)

-- A chord: brackets and a length, and inside the parts into which its bytes are cut.
pub record IsChord (text : List ℕ) (chord : Chord) : Type 0 where
  pub frame : Frame
  pub framed : IsFrame text frame
  pub length_is : chord.length ≡ frame.length
  pub parts_are : IsCuttingFrom part_grammar false 1 (inside_of frame text) chord.parts

-- The longest part at the front of a text that begins in this way, and its size in bytes.
abbrev pub part_by : Start → List ℕ → Option (ChordPartKind × ℕ)
part_by starts.Note text = as_kind kinds.Note (note_at text)
part_by starts.Parenthesis text = Some (kinds.NoEffect, 1)
part_by starts.Tie text = Some (kinds.Tie, 1)
part_by starts.Blank text = Some (kinds.NoEffect, 1)
part_by starts.Delimited text = of_kind kinds.NoEffect (delimited_at text)
part_by starts.Space text = of_kind kinds.NoEffect (extra_space_at text)
part_by starts.Single text = Some (kinds.NoEffect, 1)
part_by _ text = None

-- The longest part at the front of a text, and its size in bytes.
unfoldable pub part_reading_at : Bool → List ℕ → Option (ChordPartKind × ℕ)
part_reading_at after_bar text = part_by (start_of text) text

-- The reader of the inside of a chord.
abbrev pub part_reader : Reader ChordPartKind
part_reader = record { kinds = part_kinds; reading = part_reading_at }

-- The inside of a chord cut from left to right; its first byte is the second of the chord.
unfoldable pub parts_of : List ℕ → List (Spanned ChordPartKind)
parts_of text = cutting_from part_reader false 1 0 text

-- The chord of a frame.
abbrev pub chord_of : Frame → List ℕ → Chord
chord_of frame text = record { parts = parts_of (inside_of frame text); length = frame.length }

-- The longest chord at the front of a text, and its size in bytes.
unfoldable pub chord_at : List ℕ → Option (Chord × ℕ)
chord_at text = option_map (λ r. (chord_of r.0 text, r.1)) (frame_at text)
