-- The play of a number as C sees it.
use Rattle.std.specs.Prelude.{◌≡◌, ℕ, ◌+◌, if◌then◌else◌, List, [], ◌∷◌, ◌++◌, length, map, nat_lt, Option, None, Some, option_map}
use Rattle.abc_lines.specs.Text.{Text}
use Rattle.abc_play.specs.Play.{play_of, play_size}
use Rattle.abc_play.specs.Refusal.{MOST_PLACES}
use Rattle.abc_play.specs.declared.EntryKind.{EntryKind}
use Rattle.abc_play.specs.declared.EntryKind.TheVariants as kinds
use Rattle.abc_play.specs.declared.entry.PlayedEntry.{PlayedEntry}
use Rattle.abc_play.specs.declared.play_error.PlayError.{PlayError}
use Rattle.abc_play.specs.declared.play_error.PlayError.TheVariants.{NoSuchNumber, TooLong, OutOfMemory}
use Rattle.c_handle.specs.Copies.{CopyResult, lookup_answer, slot_answer}
use Rattle.c_handle.specs.TokenRecords.{CopiesFound}
use Rattle.c_handle.specs.declared.codes.TheConstants.{CODE_NOT_FOUND, CODE_OUT_OF_MEMORY, CODE_TOO_LONG}
use Rattle.c_handle.specs.declared.open_session.OpenSession.{OpenSession}
use Rattle.c_handle.specs.declared.play_record.PlayRecord.{PlayRecord}
use Rattle.c_handle.specs.declared.play_record.TheConstants.{JOINED, NO_KEY, TIED}

-- The number of a kind, as the header of C has it.
abbrev pub kind_number : EntryKind → ℕ
kind_number (kinds.Note tone key velocity joined tied) = 1
kind_number kinds.Rest = 2
kind_number kinds.Bar = 3

-- The key of a tone that has one.
abbrev pub key_number : EntryKind → ℕ
key_number (kinds.Note tone (Some key) velocity joined tied) = key
key_number _ = NO_KEY

-- The velocity of a tone with a key; 0 of all else.
abbrev pub velocity_number : EntryKind → ℕ
velocity_number (kinds.Note tone (Some key) velocity joined tied) = velocity
velocity_number _ = 0

-- The ties of a tone as bits: JOINED if one joins it with a tone before it, TIED if one follows it and it has a key.
abbrev pub ties_number : EntryKind → ℕ
ties_number (kinds.Note tone key velocity joined tied) = (if joined then JOINED else 0) + (if tied then TIED else 0)
ties_number _ = 0

-- An entry with its numbers.
abbrev pub play_record : PlayedEntry → PlayRecord
play_record entry = record {
  on = entry.on;
  off = entry.off;
  line = entry.place.line;
  from = entry.place.from;
  to = entry.place.to;
  kind = kind_number entry.kind;
  key = key_number entry.kind;
  velocity = velocity_number entry.kind;
  ties = ties_number entry.kind;
}

-- The tracks of a play: for each voice with a track its entries.
abbrev pub Tracks : Type 0
Tracks = List (List PlayedEntry)

-- How many entries each track of a file has. The first is the conductor's, which has none.
abbrev pub track_sizes : Tracks → List ℕ
track_sizes tracks = 0 ∷ map length tracks

-- The entries of all tracks, one track after another.
abbrev pub play_records : Tracks → List PlayRecord
play_records [] = []
play_records (entries ∷ tracks) = map play_record entries ++ play_records tracks

-- The code of a refused play.
abbrev pub refusal_code : PlayError → ℕ
refusal_code NoSuchNumber = CODE_NOT_FOUND
refusal_code TooLong = CODE_TOO_LONG
refusal_code OutOfMemory = CODE_OUT_OF_MEMORY

-- What a play has is copied as other items are, if a tune owns the number and no more items and bar lines are played than may be.
abbrev pub play_answer : {A : Type 0} → (Tracks → List A) → Text → ℕ → List A → CopyResult A
play_answer part text number buffer =
    if nat_lt MOST_PLACES (play_size text number) then (CODE_TOO_LONG, 0, buffer)
    else lookup_answer (option_map part (play_of text number)) buffer

-- The same from a slot, or a tune owns the number and an allocation failed. A slot without a session is misused.
abbrev pub CopiesPlay : {A : Type 0} → (Tracks → List A) → ℕ → Option OpenSession → List A → CopyResult A → Type 0
CopiesPlay part number None buffer answer = answer ≡ slot_answer None buffer
CopiesPlay part number (Some held) buffer answer =
    CopiesFound (play_of held.session.text number) (play_answer part held.session.text number buffer) buffer answer
