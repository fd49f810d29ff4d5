-- The play of a tune is its score.
use Rattle.std.specs.Borrow.{Bor}
use Rattle.std.specs.List.{flat_map}
use Rattle.std.specs.Prelude.{◌≡◌, ℕ, ◌-◌, ◌^◌, min, Bool, true, false, List, [], map, filter_map, reverse, Option, Some, None}
use Rattle.abc_bars_items.specs.declared.item.Item.{Item}
use Rattle.abc_bars_items.specs.declared.item.Item.TheVariants as items
use Rattle.abc_bars_items.specs.declared.item.Tone.{Tone}
use Rattle.abc_time.specs.declared.grains.Grains.{Grains}
use Rattle.abc_voices.specs.Layout as layout
use Rattle.abc_voices.specs.Layout.{score_of}
use Rattle.abc_voices.specs.Ties.{TimeToken, heard_notes, tokens_in}
use Rattle.abc_voices.specs.Track.{tracks, voice_names}
use Rattle.abc_voices_score.specs.declared.score.Sounding.{Sounding}
use Rattle.abc_voices_sections.specs.Items.{items_of}
use Rattle.abc_play_sections.specs.declared.step.PlayStep.{PlayStep}
use Rattle.abc_play_sections.specs.declared.step.PlayStep.TheVariants as steps
use Rattle.abc_play_tune.specs.Entries.{end_by, entries_back, entries_from, entry_groups, is_tied, note_begun, played_by}
use Rattle.abc_play_tune.specs.Play.{played_sections, play_of_voice, tokens_among}
use Rattle.abc_play_tune.specs.Sounds.{Lasting, Sound, sounds_of}
use Rattle.abc_play_tune.specs.Steps.{without_places}
use Rattle.abc_play_tune.specs.declared.entry.EntryKind.{EntryKind}
use Rattle.abc_play_tune.specs.declared.entry.EntryKind.TheVariants as kinds
use Rattle.abc_play_tune.specs.declared.entry.PlayEntry.{PlayEntry}
use Rattle.abc_play_tune.specs.declared.timed.TimedStep.{TimedStep}

-- The sections that are played are those of the tune.
abbrev pub PlaysSections : Type 0
PlaysSections = (tune : List (Bor Item)) → map without_places (played_sections tune) ≡ layout.played_sections (items_of tune)

-- The time tokens of a voice, with their moments, are those of the tune.
abbrev pub PlaysTokens : Type 0
PlaysTokens = (tune : List (Bor Item)) (voice : List ℕ) → tokens_among (play_of_voice tune voice)
    ≡ tokens_in (voice_names (items_of tune)) voice 0 (layout.played_sections (items_of tune))

-- The notes of each track in the score are those that its time tokens are heard as.
abbrev pub PlaysScore : Type 0
PlaysScore = (tune : List (Bor Item)) → (score_of (items_of tune)).voices
    ≡ map (λ voice. heard_notes (tokens_among (play_of_voice tune voice))) (tracks (items_of tune))

-- The moment, the key and the velocity of a note.
abbrev pub head_of : Sounding → ℕ × ℕ × ℕ
head_of note = (note.on.0, note.key, note.velocity)

-- The entries of a track that begin a note begin the notes of the track in the score, each one once. A score has the notes of
-- later time tokens first.
abbrev pub BeginsNotes : Type 0
BeginsNotes = (tune : List (Bor Item)) → map (map head_of) (score_of (items_of tune)).voices
    ≡ map (λ voice. filter_map note_begun (entries_back [] (play_of_voice tune voice))) (tracks (items_of tune))

-- The entries of timed steps, in order and those of later steps first, are the same groups: one for each step.
abbrev pub GroupsEntries : Type 0
GroupsEntries =
    (timed : List TimedStep) → (entries_from [] timed ≡ flat_map (λ group. group) (entry_groups [] timed))
    × (entries_back [] timed ≡ flat_map (λ group. group) (reverse (entry_groups [] timed)))

-- The moment, the own end, the key and the velocity of each tone of a time token, and whether it is tied.
abbrev pub tone_of_token : ℕ → Tone → ℕ × Grains × Option ℕ × ℕ × Bool
tone_of_token at tone = (at, end_by at tone.length, tone.key, tone.velocity, is_tied tone)

abbrev pub tones_of_token : TimeToken → List (ℕ × Grains × Option ℕ × ℕ × Bool)
tones_of_token token = map (tone_of_token token.at) token.tones

-- The entries of a track that are tones are the tones of its time tokens, each one once and in order: the same moments, keys,
-- velocities and ties, and each with its own end.
abbrev pub PlaysTones : Type 0
PlaysTones = (tune : List (Bor Item)) (voice : List ℕ)
    → filter_map played_by (entries_from [] (play_of_voice tune voice)) ≡ flat_map tones_of_token (tokens_among (play_of_voice tune voice))

-- A moment as an entry has its end: at most 2^64 - 1. No note of a tune with a file comes near.
abbrev pub capped : ℕ → ℕ
capped moment = min moment (2 ^ 64 - 1)

-- A note of a score, and an entry, with the moments that a clock shows: the grains themselves, or ticks.
abbrev pub heard_on : (ℕ → ℕ) → Sounding → Sound
heard_on clock note =
    record { on = clock note.on.0; off = clock (capped note.off.0); key = note.key; velocity = note.velocity }

abbrev pub lasting_on : (ℕ → ℕ) → PlayEntry → Lasting
lasting_on clock entry = record { on = clock entry.on.0; off = clock entry.off.0; kind = entry.kind }

-- By any clock, the sounds of the entries of a track are the notes of the track in the score, each one once: the same beginnings
-- and ends, keys and velocities.
abbrev pub SoundsScore : Type 0
SoundsScore = (clock : ℕ → ℕ) (tune : List (Bor Item)) → map (map (heard_on clock)) (score_of (items_of tune)).voices
    ≡ map (λ voice. sounds_of (map (lasting_on clock) (entries_from [] (play_of_voice tune voice)))) (tracks (items_of tune))

-- A rest or a bar line that is passed: its moment, its end, the index of its item in the tune, and whether it is a bar line. A rest
-- lasts its own length, and a bar line ends where it begins.
abbrev pub passed_item : ℕ → ℕ → Item → Option (ℕ × Grains × ℕ × Bool)
passed_item at place (items.Rest length bar) = Some (at, end_by at length, place, false)
passed_item at place _ = None

abbrev pub passed_step : ℕ → PlayStep → Option (ℕ × Grains × ℕ × Bool)
passed_step at (steps.Item item place) = passed_item at place item.now
passed_step at (steps.BarLine place) = Some (at, record { 0 = at }, place, true)

abbrev pub passed_timed : TimedStep → Option (ℕ × Grains × ℕ × Bool)
passed_timed one = passed_step one.at.0 one.step

-- The same of an entry.
abbrev pub passed_by : Grains → Grains → ℕ → EntryKind → Option (ℕ × Grains × ℕ × Bool)
passed_by on off place kinds.Rest = Some (on.0, off, place, false)
passed_by on off place kinds.Bar = Some (on.0, off, place, true)
passed_by on off place _ = None

abbrev pub passed_entry : PlayEntry → Option (ℕ × Grains × ℕ × Bool)
passed_entry entry = passed_by entry.on entry.off entry.place entry.kind

-- The entries of a track that are rests and bar lines are those that are passed, each one once and in order: the same moments and
-- ends.
abbrev pub PlaysRestsAndBars : Type 0
PlaysRestsAndBars = (tune : List (Bor Item)) (voice : List ℕ)
    → filter_map passed_entry (entries_from [] (play_of_voice tune voice)) ≡ filter_map passed_timed (play_of_voice tune voice)
