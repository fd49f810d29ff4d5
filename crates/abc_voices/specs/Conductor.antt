-- The tempo, the meter and the key on each tick, by what is played there. Not in ABC 2.1.
use Rattle.std.specs.Prelude.{◌≡◌, ℕ, ℤ, pos, ◌+◌, ◌*◌, ◌/◌, ◌^◌, ◌==◌, Bool, true, false, ◌&&◌, List, [], ◌∷◌, take, filter}
use Rattle.std.specs.Prelude.{Option, Some, None, option_map, option_and_then, unwrap_or}
use Rattle.std.specs.Option.{option_or, option_to_list}
use Rattle.abc_bars_items.specs.declared.item.Item.{Item}
use Rattle.abc_bars_items.specs.declared.item.Item.TheVariants as items
use Rattle.abc_fields.specs.declared.meter.Meter.{Meter}
use Rattle.abc_fields.specs.declared.meter.Meter.TheVariants as meters
use Rattle.abc_time.specs.declared.grains.Grains.{Grains}
use Rattle.abc_time.specs.Grains.{tick_at}
use Rattle.abc_voices_score.specs.declared.score.Change.{Change}
use Rattle.abc_voices_score.specs.declared.score.ChangeKind.{ChangeKind}
use Rattle.abc_voices_score.specs.declared.score.ChangeKind.TheVariants as kinds
use Rattle.abc_voices.specs.Layout.{played_sections, score_of}
use Rattle.abc_voices_sections.specs.PlayedSection.{section_length, play_in}
use Rattle.abc_voices.specs.Change.{tempo_of, meter_of, key_of}
use Rattle.abc_voices.specs.OnTicks.{at_moments, last_value, set_by, set_on}
use Rattle.abc_voices.specs.Track.{voice_names, tracks}

-- The tempo, the meter and the key that a field of the header sets for the opening of the tune, if it is such a field: a
-- value, or none.
abbrev pub opening_tempo_of : Item → Option (Option ℕ)
opening_tempo_of (items.Tempo true micros out) = Some micros
opening_tempo_of _ = None

abbrev pub opening_meter_of : Item → Option (Option Meter)
opening_meter_of (items.Meter true meter) = Some meter
opening_meter_of _ = None

abbrev pub opening_key_of : Item → Option (Option (ℤ × Bool))
opening_key_of (items.Key true key) = Some key
opening_key_of _ = None

-- The value with which a tune opens: that of the last such field of its header, or the usual one if this sets none or there
-- is no such field.
abbrev pub opening_by : {V : Type 0} → (Item → Option (Option V)) → V → List Item → V
opening_by value_of usual tune = unwrap_or (unwrap_or (last_value value_of tune) None) usual

-- The last value that something sets on a tick which is played one after another from a moment on.
abbrev pub last_played : {V : Type 0} → (Item → Option V) → ℕ → ℕ → List Item → Option (Grains × V)
last_played value_of tick at play = last_value (set_by value_of tick) (at_moments at play)

-- Sections that are played one after another from a moment on, each at its moment.
abbrev pub sections_in_time : List (List ℕ) → ℕ → List (List ℕ × List Item) → List (ℕ × (List ℕ × List Item))
sections_in_time voices at [] = []
sections_in_time voices at (section ∷ rest) = (at, section) ∷ sections_in_time voices (at + section_length voices section) rest

-- What the voices `those` set last on a tick in a section that is played from the moment `at` on. The last voice that sets
-- something there decides, even if a voice before it sets something later.
abbrev pub last_beside : {V : Type 0} → (Item → Option V) → List (List ℕ) → ℕ → ℕ × (List ℕ × List Item) → Option (Grains × V)
last_beside value_of those tick (at, section) =
    last_value (λ voice. last_played value_of tick at (play_in section voice)) those

-- What the voices `those` set last on a tick in a tune. The last section in order of play in which they set something there
-- decides.
abbrev pub last_set : {V : Type 0} → (Item → Option V) → List (List ℕ) → List Item → ℕ → Option (Grains × V)
last_set value_of those tune tick =
    last_value (last_beside value_of those tick) (sections_in_time (voice_names tune) 0 (played_sections tune))

-- The value on a tick: the one set there last, or else that with which the tune opens, if it begins on the tick.
abbrev pub set_or_opening : {V : Type 0} → (Item → Option V) → List (List ℕ) → V → List Item → ℕ → Option (Grains × V)
set_or_opening value_of those opening tune tick = option_or (last_set value_of those tune tick) (set_on tick 0 (Some opening))

-- The first voice that has a track, if one has.
abbrev pub leader : List Item → List (List ℕ)
leader tune = take 1 (tracks tune)

-- A minute's microseconds over 120 quarter notes.
abbrev pub at_120 : ℕ
at_120 = 60 * 10 ^ 6 / 120

-- A tempo at a moment, as a change.
abbrev pub as_tempo : Grains × ℕ → Change
as_tempo set = record { at = set.0; what = kinds.Tempo set.1 }

-- The tempo on a tick: all voices set it. If the header sets none, it is 120 quarter notes a minute.
abbrev pub tempo_on : List Item → ℕ → Option Change
tempo_on tune tick =
    option_map as_tempo (set_or_opening tempo_of (voice_names tune) (opening_by opening_tempo_of at_120 tune) tune tick)

-- A meter at a moment, as a change: free meter is none.
abbrev pub as_meter : Grains → Meter → Option Change
as_meter at meters.Free = None
as_meter at (meters.Of num den) = Some (record { at = at; what = kinds.Meter num den })

-- The meter on a tick: the first voice with a track sets it. If the header sets none, it is free.
abbrev pub meter_on : List Item → ℕ → Option Change
meter_on tune tick =
    option_and_then (λ set. as_meter set.0 set.1) (set_or_opening meter_of (leader tune)
    (opening_by opening_meter_of meters.Free tune) tune tick)

-- A key at a moment, as a change: its sharps, and whether it is minor.
abbrev pub as_key : Grains × (ℤ × Bool) → Change
as_key set = record { at = set.0; what = kinds.Key set.1.0 set.1.1 }

-- The key on a tick: the first voice with a track sets it. If the header sets none, it is that of C major.
abbrev pub key_on : List Item → ℕ → Option Change
key_on tune tick =
    option_map as_key (set_or_opening key_of (leader tune) (opening_by opening_key_of (pos 0, false) tune) tune tick)

-- The three kinds of changes.
abbrev pub is_tempo : ChangeKind → Bool
is_tempo (kinds.Tempo micros) = true
is_tempo _ = false

abbrev pub is_meter : ChangeKind → Bool
is_meter (kinds.Meter num den) = true
is_meter _ = false

abbrev pub is_key : ChangeKind → Bool
is_key (kinds.Key sharps minor) = true
is_key _ = false

-- Whether a change is of a kind, on a tick.
abbrev pub is_there : (ChangeKind → Bool) → ℕ → Change → Bool
is_there is_kind tick change = is_kind change.what && (tick_at change.at.0 == tick)

-- The changes of a kind that the score of a tune has on a tick.
abbrev pub changes_on : (ChangeKind → Bool) → List Item → ℕ → List Change
changes_on is_kind tune tick = filter (is_there is_kind tick) (score_of tune).conductor

-- On a tick the score of a tune has that tempo, that meter and that key, and no others.
pub record IsConducted (tune : List Item) (tick : ℕ) : Type 0 where
  pub tempo : changes_on is_tempo tune tick ≡ option_to_list (tempo_on tune tick)
  pub meter : changes_on is_meter tune tick ≡ option_to_list (meter_on tune tick)
  pub key : changes_on is_key tune tick ≡ option_to_list (key_on tune tick)

-- So on each tick.
abbrev pub IsConductedOnTicks : Type 0
IsConductedOnTicks = (tune : List Item) (tick : ℕ) → IsConducted tune tick
