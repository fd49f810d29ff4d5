-- The program of a voice on each tick, by what is played there. Not in ABC 2.1.
use Rattle.std.specs.Prelude.{◌≡◌, ℕ, ◌+◌, ◌==◌, true, if◌then◌else◌, List, [], ◌∷◌, ◌++◌, map, filter, Option, None, option_map}
use Rattle.std.specs.Option.{option_or, option_to_list}
use Rattle.abc_bars_items.specs.declared.item.Item.{Item}
use Rattle.abc_bars_items.specs.declared.item.Item.TheVariants as items
use Rattle.abc_time.specs.declared.grains.Grains.{Grains}
use Rattle.abc_time.specs.Grains.{tick_at}
use Rattle.abc_voices_score.specs.declared.score.ProgramChange.{ProgramChange}
use Rattle.abc_voices.specs.Layout.{played_sections, score_of}
use Rattle.abc_voices_sections.specs.PlayedSection.{section_length, play_in}
use Rattle.abc_voices.specs.Change.{at_moment, program_of}
use Rattle.abc_voices_sections.specs.Step.{length_of}
use Rattle.abc_voices.specs.Track.{voice_names, tracks}

-- The last value that an element has, if one has any.
abbrev pub last_value : {X V : Type 0} → (X → Option V) → List X → Option V
last_value value_of [] = None
last_value value_of (x ∷ later) = option_or (last_value value_of later) (value_of x)

-- The program that a directive of the header sets, if it sets one.
abbrev pub opening_program_of : Item → Option ℕ
opening_program_of (items.Program true number) = number
opening_program_of _ = None

-- What is played from a moment on, each item at its moment.
abbrev pub at_moments : ℕ → List Item → List (ℕ × Item)
at_moments at [] = []
at_moments at (item ∷ play) = (at, item) ∷ at_moments (at + length_of item) play

-- What a voice plays in sections that are played from a moment on, in order of play.
abbrev pub moments_in : List (List ℕ) → List ℕ → ℕ → List (List ℕ × List Item) → List (ℕ × Item)
moments_in voices voice at [] = []
moments_in voices voice at (section ∷ rest) =
    at_moments at (play_in section voice) ++ moments_in voices voice (at + section_length voices section) rest

-- A value at a moment, if there is one and the moment is on this tick.
abbrev pub set_on : {V : Type 0} → ℕ → ℕ → Option V → Option (Grains × V)
set_on tick at value = if tick_at at == tick then at_moment at value else None

-- What something sets that is played at a moment, if it sets a value and the moment is on this tick.
abbrev pub set_by : {V : Type 0} → (Item → Option V) → ℕ → ℕ × Item → Option (Grains × V)
set_by value_of tick (at, item) = set_on tick at (value_of item)

-- A program at a moment.
abbrev pub as_program : Grains × ℕ → ProgramChange
as_program set = record { at = set.0; number = set.1 }

-- The program of a voice on a tick: the last one that an item which is played there sets. If none does, it is the one with
-- which the tune opens, if the tune begins on the tick.
abbrev pub program_on : List Item → ℕ → List ℕ → Option ProgramChange
program_on tune tick voice =
    option_map as_program
    (option_or (last_value (set_by program_of tick) (moments_in (voice_names tune) voice 0 (played_sections tune)))
    (set_on tick 0 (last_value opening_program_of tune)))

-- On each tick each voice of a tune has that program, and no other one.
abbrev pub HaveProgramsOnTicks : Type 0
HaveProgramsOnTicks = (tune : List Item) (tick : ℕ)
    → map (filter (λ change. tick_at change.at.0 == tick)) (score_of tune).programs
    ≡ map (λ voice. option_to_list (program_on tune tick voice)) (tracks tune)
