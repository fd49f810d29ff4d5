-- The sounds of a track, by its entries alone. Not in ABC 2.1.
use Rattle.std.specs.Prelude.{ℕ, zero, suc, ◌==◌, Bool, true, false, ◌&&◌, if◌then◌else◌, List, [], ◌∷◌, ◌++◌, Option, Some, None}
use Rattle.abc_play_tune.specs.declared.entry.EntryKind.{EntryKind}
use Rattle.abc_play_tune.specs.declared.entry.EntryKind.TheVariants as kinds
use Rattle.abc_voices.specs.Ties.{has_key}

-- What is heard: a key and a velocity, from a moment to another. Moments are numbers of any unit.
pub record Sound : Type 0 where
  pub on : ℕ
  pub off : ℕ
  pub key : ℕ
  pub velocity : ℕ

-- An entry without its place: when it begins, its own end, and what it is.
pub record Lasting : Type 0 where
  pub on : ℕ
  pub off : ℕ
  pub kind : EntryKind

-- A tone that is played, with its own end.
pub record PlayedTone : Type 0 where
  pub on : ℕ
  pub off : ℕ
  pub key : Option ℕ
  pub velocity : ℕ
  pub joined : Bool
  pub tied : Bool

-- Tones in front of the first note or chord of others, and those of each note and chord.
pub record Grouped : Type 0 where
  pub before : List PlayedTone
  pub chords : List (List PlayedTone)

-- A tone in front of others. The first tone of a note or chord has the index 0, and its other tones follow.
abbrev pub with_tone : ℕ → PlayedTone → Grouped → Grouped
with_tone zero tone others = record { before = []; chords = (tone ∷ others.before) ∷ others.chords }
with_tone (suc index) tone others = record { before = tone ∷ others.before; chords = others.chords }

abbrev pub with_kind : ℕ → ℕ → EntryKind → Grouped → Grouped
with_kind on off (kinds.Note tone key velocity joined tied) others =
    with_tone tone (record { on = on; off = off; key = key; velocity = velocity; joined = joined; tied = tied }) others
with_kind on off _ others = others

-- The tones of entries, by notes and chords.
abbrev pub grouped : List Lasting → Grouped
grouped [] = record { before = []; chords = [] }
grouped (entry ∷ entries) = with_kind entry.on entry.off entry.kind (grouped entries)

-- How many of some tones that have a key are joined with one before, and how many are tied to one after.
abbrev pub joined_of : ℕ → List PlayedTone → ℕ
joined_of key [] = 0
joined_of key (tone ∷ tones) = if tone.joined && has_key key tone.key then suc (joined_of key tones) else joined_of key tones

abbrev pub tied_of : ℕ → List PlayedTone → ℕ
tied_of key [] = 0
tied_of key (tone ∷ tones) = if tone.tied && has_key key tone.key then suc (tied_of key tones) else tied_of key tones

-- The joined tone in `tones` that has the key and exactly `number` joined tones of the key before it, and how many of the tones
-- before it that have the key are tied. `past` has the tones before `tones`, the last one first.
abbrev pub joined_at : ℕ → ℕ → List PlayedTone → List PlayedTone → Option (PlayedTone × ℕ)
joined_at key number past [] = None
joined_at key number past (tone ∷ tones) =
    if (tone.joined && has_key key tone.key) && (joined_of key past == number) then Some (tone, tied_of key past)
    else joined_at key number (tone ∷ past) tones

-- The joined tone of the next note or chord in which a tone goes on, if it is tied: `number` tied tones of its key are before it.
abbrev pub goes_on_in : PlayedTone → ℕ → ℕ → List PlayedTone → Option (PlayedTone × ℕ)
goes_on_in tone key number next = if tone.tied then joined_at key number [] next else None

-- The end of a tone that goes on in another, or in none.
abbrev pub end_in : ℕ → (PlayedTone × ℕ → ℕ) → Option (PlayedTone × ℕ) → ℕ
end_in own following None = own
end_in own following (Some other) = following other

-- When a sound ends that has this tone: with the last tone in which it goes on.
abbrev pub sound_end : PlayedTone → ℕ → ℕ → List (List PlayedTone) → ℕ
sound_end tone key number [] = tone.off
sound_end tone key number (chord ∷ chords) =
    end_in tone.off (λ other. sound_end other.0 key other.1 chords) (goes_on_in tone key number chord)

-- The sound that a tone begins, after the tones `past` of its note or chord, the last one first. A joined tone begins none, nor
-- does one without a key.
abbrev pub sound_of : List PlayedTone → PlayedTone → List (List PlayedTone) → Bool → Option ℕ → List Sound
sound_of past tone chords joined None = []
sound_of past tone chords true (Some key) = []
sound_of past tone chords false (Some key) =
    record { on = tone.on; off = sound_end tone key (tied_of key past) chords; key = key; velocity = tone.velocity } ∷ []

-- The sounds that the tones of a note or chord begin, and those of all notes and chords. Those of later ones come first.
abbrev pub chord_sounds : List PlayedTone → List PlayedTone → List (List PlayedTone) → List Sound
chord_sounds past [] chords = []
chord_sounds past (tone ∷ tones) chords =
    sound_of past tone chords tone.joined tone.key ++ chord_sounds (tone ∷ past) tones chords

abbrev pub sounds_among : List (List PlayedTone) → List Sound
sounds_among [] = []
sounds_among (chord ∷ chords) = sounds_among chords ++ chord_sounds [] chord chords

-- The sounds of the entries of a track: each tone with a key that is not joined begins one.
abbrev pub sounds_of : List Lasting → List Sound
sounds_of entries = sounds_among (grouped entries).chords
