-- Laws of the plays of a text. Not in ABC 2.1.
use Rattle.std.specs.Prelude.{◌≡◌, ◌⊎◌, ℕ, All, Bool, Contains, List, [], ◌∷◌, ◌++◌, map, slice_get, Option, Some, option_and_then}
use Rattle.std.specs.Option.{option_map}
use Rattle.abc_bars.specs.LookBack.Along.{place_after, tune_beginning}
use Rattle.abc_bars.specs.LookBack.CellPlace.{CellPlace, cell_with, voice_place_at}
use Rattle.abc_bars.specs.LookBack.Keys.{key_at, keys_from}
use Rattle.abc_bars.specs.LookBack.Place.{Place as TunePlace, InFileHeader, InHeader, InBody}
use Rattle.abc_bars.specs.LookBack.Voice.{counted_notes}
use Rattle.abc_bars_body.specs.Cell.{tie_ahead}
use Rattle.abc_book.specs.declared.block.Block.{Block}
use Rattle.abc_fields.specs.Key.{empty_key}
use Rattle.abc_lines.specs.Text.{Text}
use Rattle.abc_live_session.specs.Edit.{line_at}
use Rattle.abc_play_tune.specs.declared.entry.EntryKind.{EntryKind}
use Rattle.abc_play_tune.specs.declared.entry.EntryKind.TheVariants as entries
use Rattle.abc_scan.specs.declared.chord_part.ChordPartKind.{ChordPartKind}
use Rattle.abc_scan.specs.declared.chord_part.ChordPartKind.TheVariants as pieces
use Rattle.abc_scan.specs.declared.spanned.Spanned.{Spanned}
use Rattle.abc_scan.specs.declared.token.TokenKind.{TokenKind}
use Rattle.abc_scan.specs.declared.token.TokenKind.TheVariants as kinds
use Rattle.abc_play_places.specs.ToneGivers.{tone_parts}
use Rattle.abc_tune.specs.Abc.{rules_of_abc}
use Rattle.abc_tune_compiler.specs.Book.{blocks_in, header_in}
use Rattle.abc_tune_compiler.specs.Placed.{Placed, placed_at, placed_values}
use Rattle.abc_tune_compiler.specs.Tune.{cells_in}
use Rattle.abc_play.specs.Places.{part_place, token_place}
use Rattle.abc_play.specs.Play.{block_of, play_of, tone_of}
use Rattle.abc_play.specs.declared.entry.PlayedEntry.{PlayedEntry}

-- A token of this kind gives an entry of this kind: a note a tone, a rest a rest, a bar line a bar line.
abbrev pub Gives : EntryKind → TokenKind → Type 0
Gives (entries.Note tone key velocity joined tied) (kinds.Note note) = Unit {0}
Gives entries.Rest (kinds.Rest length) = Unit {0}
Gives entries.Rest (kinds.BarRest bars) = Unit {0}
Gives entries.Bar (kinds.Bar line) = Unit {0}
Gives _ _ = ⊥

-- A part of a chord gives a tone if it is a note.
abbrev pub GivesTone : EntryKind → ChordPartKind → Type 0
GivesTone (entries.Note tone key velocity joined tied) (pieces.Note note) = Unit {0}
GivesTone _ _ = ⊥

-- The part of a chord that gives its tone at an index, if there is one.
abbrev pub part_of_tone : List (Spanned ChordPartKind) → ℕ → Option (Spanned ChordPartKind)
part_of_tone parts tone = option_and_then (slice_get parts) (slice_get (tone_parts 0 0 parts) tone)

-- The bytes of an entry are those of the part of this chord, a note, that gives its tone.
abbrev pub IsInChord : ℕ → PlayedEntry → Spanned TokenKind → TokenKind → Type 0
IsInChord line entry token (kinds.Chord chord) =
    (part : Spanned ChordPartKind) × (part_of_tone chord.parts (tone_of entry.kind) ≡ Some part) × GivesTone entry.kind part.kind
    × (entry.place ≡ part_place line token.from part)
IsInChord line entry token _ = ⊥

-- They are those of this token, of its kind, or of such a part of the chord that it is.
abbrev pub IsOf : ℕ → PlayedEntry → Spanned TokenKind → Type 0
IsOf line entry token = (Gives entry.kind token.kind × (entry.place ≡ token_place line token)) ⊎ IsInChord line entry token token.kind

-- They are those of a token of the line of this text that the entry names.
abbrev pub IsInText : Text → PlayedEntry → Type 0
IsInText text entry =
    (line : List ℕ) × (cell : List (Spanned TokenKind)) × (token : Spanned TokenKind) × (line_at text entry.place.line ≡ Some line)
    × Contains (rules_of_abc.cells line) cell × Contains cell token × IsOf entry.place.line entry token

-- Each entry of a play is in the present text.
abbrev pub PlaysText : Type 0
PlaysText = (text : Text) (number : ℕ) (play : List (List PlayedEntry)) → play_of text number ≡ Some play → All (All (IsInText text)) play

-- The cells of the file header of a text, if there is one.
abbrev pub header_cells : Text → Option (List (List (Spanned TokenKind)))
header_cells text =
    option_map (λ block. placed_values (cells_in rules_of_abc text block)) (header_in (blocks_in rules_of_abc text))

-- What is before a token is what is before its cell, and the tokens in front of it there. Music in a header begins the body.
abbrev pub IsIn : TunePlace → CellPlace → Type 0
IsIn (InFileHeader before) place = ⊥
IsIn (InHeader values fields) place = (place.values ≡ values) × (place.fields ≡ fields) × (place.key ≡ empty_key) × (place.before ≡ [])
IsIn (InBody values fields key before) place = (place.values ≡ values) × (place.fields ≡ fields) × (place.key ≡ key) × (place.before ≡ before)

-- A token of this kind is at this place of a tune of the text, in this line.
pub record IsTokenOf (text : Text) (block : Block) (line : ℕ) (place : CellPlace) (kind : TokenKind) : Type 0 where
  pub earlier : List (Placed (List (Spanned TokenKind)))
  pub later : List (Placed (List (Spanned TokenKind)))
  pub split : cells_in rules_of_abc text block ≡ earlier ++ placed_at line (cell_with place kind) ∷ later
  pub before : IsIn (place_after (tune_beginning (header_cells text)) (placed_values earlier)) place

-- The keys of the tones that a token of this kind sounds at a place, by looking back from it.
abbrev pub keys_of : CellPlace → TokenKind → List (Option ℕ)
keys_of place (kinds.Note note) = key_at (voice_place_at place) [] note ∷ []
keys_of place (kinds.Chord chord) =
    map (λ (heard : Option ℕ × Bool). heard.0) (keys_from (voice_place_at place) (tie_ahead place.ahead) [] (counted_notes chord))
keys_of place _ = []

-- An entry that is a tone has the key of that tone.
abbrev pub HasKey : CellPlace → TokenKind → EntryKind → Type 0
HasKey place kind (entries.Note tone key velocity joined tied) = slice_get (keys_of place kind) tone ≡ Some key
HasKey place kind _ = Unit {0}

-- The token of an entry in a tune of the text, and the key that looking back gives for it there.
pub record IsLookedBack (text : Text) (block : Block) (entry : PlayedEntry) : Type 0 where
  pub place : CellPlace
  pub kind : TokenKind
  pub of_tune : IsTokenOf text block entry.place.line place kind
  pub here : IsOf entry.place.line entry (record { kind = kind; from = place.from; to = place.to })
  pub key : HasKey place kind entry.kind

-- Each entry of a play is a token of the tune that has the number's file, with the key that looking back gives for it.
abbrev pub PlaysKeys : Type 0
PlaysKeys =
    (text : Text) (number : ℕ) (play : List (List PlayedEntry)) → play_of text number ≡ Some play
    → (block : Block) × (block_of text number ≡ Some block) × All (All (IsLookedBack text block)) play
