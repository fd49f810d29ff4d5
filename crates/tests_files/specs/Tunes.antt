-- Items of tunes as the worked examples write them: a note lasts one grain. Not in ABC 2.1.
use Rattle.std.specs.Prelude.{ℕ, pos, Bool, true, false, List, [], ◌∷◌, Option, Some, None}
use Rattle.abc_bars_items.specs.declared.item.Item.{Item}
use Rattle.abc_bars_items.specs.declared.item.Item.TheVariants as items
use Rattle.abc_bars_items.specs.declared.item.Tone.{Tone}
use Rattle.abc_fields.specs.declared.meter.Meter.TheVariants as meters
use Rattle.abc_voices_score.specs.declared.score.Change.{Change}
use Rattle.abc_voices_score.specs.declared.score.ChangeKind.TheVariants as kinds
use Rattle.abc_voices_score.specs.declared.score.ProgramChange.{ProgramChange}
use Rattle.abc_voices_score.specs.declared.score.Sounding.{Sounding}

-- A tone with its velocity, key (None: silent), length in grains and tie, and one with the velocity of a tune
-- without dynamics.
abbrev pub tone_with : ℕ → Option ℕ → ℕ → Bool → Tone
tone_with velocity key grains tied = record { key = key; length = record { 0 = grains }; tied = tied; velocity = velocity }

abbrev pub tone : Option ℕ → ℕ → Bool → Tone
tone key grains tied = tone_with 80 key grains tied

-- Tones that sound together, one grain long.
abbrev pub chord : List Tone → Item
chord tones = items.Tone tones (record { 0 = 1 })

-- A note of a key, and one that is tied.
abbrev pub note : ℕ → Item
note key = chord (tone (Some key) 1 false ∷ [])

abbrev pub tied : ℕ → Item
tied key = chord (tone (Some key) 1 true ∷ [])

-- The same with a velocity.
abbrev pub note_with : ℕ → ℕ → Item
note_with velocity key = chord (tone_with velocity (Some key) 1 false ∷ [])

abbrev pub tied_with : ℕ → ℕ → Item
tied_with velocity key = chord (tone_with velocity (Some key) 1 true ∷ [])

-- A note of a key that lasts for a tick.
abbrev pub held : ℕ → Item
held key = items.Tone (tone (Some key) 484323840 false ∷ []) (record { 0 = 484323840 })

-- A rest, and a rest of bars.
abbrev pub rest : Item
rest = items.Rest (record { 0 = 1 }) false

abbrev pub bar_rest : Item
bar_rest = items.Rest (record { 0 = 1 }) true

-- The bar lines `|`, `|:`, `:|`, `::` and `||`.
abbrev pub single : Item
single = items.Bar (record { closes = 0; opens = 0; double = false })

abbrev pub opening : Item
opening = items.Bar (record { closes = 0; opens = 1; double = false })

abbrev pub twice_opening : Item
twice_opening = items.Bar (record { closes = 0; opens = 2; double = false })

abbrev pub twice_closing : Item
twice_closing = items.Bar (record { closes = 2; opens = 0; double = false })

abbrev pub closing : Item
closing = items.Bar (record { closes = 1; opens = 0; double = false })

abbrev pub between : Item
between = items.Bar (record { closes = 1; opens = 1; double = true })

abbrev pub double : Item
double = items.Bar (record { closes = 0; opens = 0; double = true })

-- The first and the second ending.
abbrev pub first : Item
first = items.Ending 1

abbrev pub second : Item
second = items.Ending 2

-- The section of the letter `A`, and of `B`.
abbrev pub part_a : Item
part_a = items.Section 65

abbrev pub part_b : Item
part_b = items.Section 66

-- The voices `1` and `2` in the body, the first of them in the header.
abbrev pub voice_1 : Item
voice_1 = items.Voice false (49 ∷ [])

abbrev pub voice_2 : Item
voice_2 = items.Voice false (50 ∷ [])

abbrev pub declared_1 : Item
declared_1 = items.Voice true (49 ∷ [])

-- A tempo of the header, and of the body, by the microseconds of a quarter note.
abbrev pub opening_tempo : ℕ → Item
opening_tempo micros = items.Tempo true (Some micros) false

abbrev pub tempo : ℕ → Item
tempo micros = items.Tempo false (Some micros) false

-- The meter 3/4 of the header, and one of the body that is refused.
abbrev pub opening_meter : Item
opening_meter = items.Meter true (Some (meters.Of 3 4))

abbrev pub refused_meter : Item
refused_meter = items.Meter false None

-- The key of the header, C major, and a K: of the body with properties alone.
abbrev pub opening_key : Item
opening_key = items.Key true (Some (pos 0, false))

abbrev pub properties : Item
properties = items.Key false None

-- A program of the header, and of the body, and one of each that is refused.
abbrev pub opening_program : ℕ → Item
opening_program number = items.Program true (Some number)

abbrev pub program : ℕ → Item
program number = items.Program false (Some number)

abbrev pub refused_opening : Item
refused_opening = items.Program true None

abbrev pub refused : Item
refused = items.Program false None

-- A key that sounds from one grain to another, with a velocity, and with that of a tune without dynamics.
abbrev pub sounding_with : ℕ → ℕ → ℕ → ℕ → Sounding
sounding_with velocity key on off = record { key = key; on = record { 0 = on }; off = record { 0 = off }; velocity = velocity }

abbrev pub sounding : ℕ → ℕ → ℕ → Sounding
sounding key on off = sounding_with 80 key on off

-- A tempo and a key without sharps at a grain.
abbrev pub tempo_change : ℕ → ℕ → Change
tempo_change at micros = record { at = record { 0 = at }; what = kinds.Tempo micros }

abbrev pub key_change : ℕ → Change
key_change at = record { at = record { 0 = at }; what = kinds.Key (pos 0) false }

-- A program at a grain.
abbrev pub program_change : ℕ → ℕ → ProgramChange
program_change at number = record { at = record { 0 = at }; number = number }

-- Parts that are played in the order `BAB`; the part `A` is there twice.
abbrev pub ordered_parts : List Item
ordered_parts = items.Order (66 ∷ 65 ∷ 66 ∷ []) ∷ part_a ∷ note 60 ∷ part_b ∷ note 62 ∷ part_a ∷ note 64 ∷ []

-- `|:A|1B:|[Q:]|2^F||`, with a tempo between two endings, and `|:A|1B::[Q:]|2^F||`, with the tempo in a strain of its own.
abbrev pub tempo_between_endings : List Item
tempo_between_endings = opening ∷ note 69 ∷ single ∷ first ∷ note 71 ∷ closing ∷ tempo 1000000 ∷ single ∷ second ∷ note 66 ∷ double
    ∷ []

abbrev pub tempo_in_a_strain : List Item
tempo_in_a_strain = opening ∷ note 69 ∷ single ∷ first ∷ note 71 ∷ between ∷ tempo 1000000 ∷ single ∷ second ∷ note 66 ∷ double ∷ []
