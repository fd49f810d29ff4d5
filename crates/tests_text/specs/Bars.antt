-- States in examples of music inside bars, and the results of lines there. Not in ABC 2.1.
use Rattle.std.specs.Prelude.{ℕ, ℤ, true, false, List, [], ◌∷◌, ◌++◌, map, flat_map, Option, Some, None}
use Rattle.abc_bars_body.specs.BodyOpening.{zero_shift}
use Rattle.abc_bars_body.specs.Step.{entry_step}
use Rattle.abc_bars_body.specs.declared.body.Current.TheVariants.{Unnamed, At}
use Rattle.abc_bars_body.specs.declared.entry.Entry.{Entry}
use Rattle.abc_bars_body.specs.declared.entry.Entry.TheVariants.{Body, FileHeader, Opening}
use Rattle.abc_fields.specs.Signature.{natural}
use Rattle.abc_fields.specs.declared.fault_code.FaultCode.{FaultCode}
use Rattle.abc_fields.specs.declared.meter.Meter.{Meter}
use Rattle.abc_fields.specs.declared.meter.Meter.TheVariants.{Free, Of}
use Rattle.abc_bars_header.specs.Defaults.{no_defaults}
use Rattle.abc_bars_items.specs.Item.{Items, no_items}
use Rattle.abc_bars_items.specs.declared.item.Item.{Item}
use Rattle.abc_bars_items.specs.declared.item.Item.TheVariants as items
use Rattle.abc_bars_items.specs.declared.item.Tone.{Tone}
use Rattle.abc_scan.specs.Cell.{cells_of}
use Rattle.abc_scan.specs.Line.{tokens_of}
use Rattle.abc_scan.specs.declared.directive.Reach.{Reach}
use Rattle.abc_scan.specs.declared.directive.Reach.TheVariants.{Pitch}
use Rattle.abc_scan.specs.declared.spanned.Spanned.{Spanned}
use Rattle.abc_scan.specs.declared.token.TokenKind.{TokenKind}
use Rattle.abc_bars_voice.specs.Accidentals.{no_accidentals}
use Rattle.abc_bars_voice.specs.declared.voice_state.VoiceState.{VoiceState}
use Rattle.abc_bars_voice.specs.declared.voice_shift.VoiceShift.{VoiceShift}
use Rattle.abc_time.specs.declared.grains.Grains.{Grains}
use Rattle.abc_time.specs.declared.ratio.Ratio.{Ratio}
use Rattle.tests_text.specs.Values.{at_tick, ratio}

-- A shift by a clef, by octaves and by semitones.
abbrev pub voice_shift : ℤ → ℤ → ℤ → VoiceShift
voice_shift clef octave transpose = record { clef = clef; octave = octave; transpose = transpose }

-- The state of a voice in this meter, with this unit and this reach of accidentals, and no other settings.
abbrev pub voice_state_in : Meter → Ratio → Reach → VoiceState
voice_state_in meter unit reach = record {
  meter = meter;
  unit = unit;
  signature = natural;
  shift = zero_shift;
  accidentals = no_accidentals reach;
  tuplet = None;
  tied = [];
  dynamic = None;
}

-- A body in which no voice is mentioned, with this state for each.
abbrev pub in_body : VoiceState → Entry
in_body state = Body (record { voices = []; current = Unnamed state; another = state })

-- A body in which only the voice without a name is mentioned.
abbrev pub with_unnamed_voice : VoiceState → VoiceState → Entry
with_unnamed_voice state another = Body (record { voices = ([], state) ∷ []; current = At 0; another = another })

-- In 4/4, in 6/8 and in free meter, with a unit of an eighth.
abbrev pub in_common : Entry
in_common = in_body (voice_state_in (Of 4 4) (ratio 1 8) Pitch)

abbrev pub in_compound : Entry
in_compound = in_body (voice_state_in (Of 6 8) (ratio 1 8) Pitch)

abbrev pub in_free : Entry
in_free = in_body (voice_state_in Free (ratio 1 8) Pitch)

-- In 4/4, with this reach of accidentals.
abbrev pub in_reach : Reach → Entry
in_reach reach = in_body (voice_state_in (Of 4 4) (ratio 1 8) reach)

-- The state after a cell, and the items and faults of all cells up to it.
abbrev pub append_step : Items → Entry × Items → Entry × Items
append_step before (entry, given) = (entry, record { items = before.items ++ given.items; faults = before.faults ++ given.faults })

-- The same after more cells.
abbrev pub along : Entry × Items → List (List (Spanned TokenKind)) → Entry × Items
along (entry, given) [] = (entry, given)
along (entry, given) (cell ∷ cells) = along (append_step given (entry_step entry cell)) cells

-- The same after more lines.
abbrev pub along_lines : Entry × Items → List (List ℕ) → Entry × Items
along_lines given [] = given
along_lines given (line ∷ lines) = along_lines (along given (cells_of (tokens_of line))) lines

-- The state after lines of a tune, entered at the first.
abbrev pub entry_after : Entry → List (List ℕ) → Entry
entry_after entry lines = (along_lines (entry, no_items) lines).0

-- The state after the lines of a tune's header, in a text without a file header.
abbrev pub entry_after_header : List (List ℕ) → Entry
entry_after_header lines = entry_after (Opening no_defaults) lines

-- The defaults after the lines of a file header.
abbrev pub after_file_header : List (List ℕ) → Entry
after_file_header lines = entry_after (FileHeader no_defaults) lines

-- The items and faults of a line in this state.
abbrev pub result_of_line : Entry → List ℕ → Items
result_of_line entry line = (along_lines (entry, no_items) (line ∷ [])).1

-- Its items, and its faults.
abbrev pub items_by : Entry → List ℕ → List Item
items_by entry line = (result_of_line entry line).items

abbrev pub faults_by : Entry → List ℕ → List (ℕ × FaultCode)
faults_by entry line = (result_of_line entry line).faults

-- The tones of an item.
abbrev pub tones_in : Item → List Tone
tones_in (items.Tone tones length) = tones
tones_in _ = []

-- The length of an item that takes time.
abbrev pub lengths_in : Item → List Grains
lengths_in (items.Tone tones length) = length ∷ []
lengths_in (items.Rest length bar) = length ∷ []
lengths_in _ = []

-- The tones of a line.
abbrev pub tones_by : Entry → List ℕ → List Tone
tones_by entry line = flat_map tones_in (items_by entry line)

-- Their keys, lengths and velocities.
abbrev pub keys_by : Entry → List ℕ → List (Option ℕ)
keys_by entry line = map (λ tone. tone.key) (tones_by entry line)

abbrev pub tone_lengths_by : Entry → List ℕ → List Grains
tone_lengths_by entry line = map (λ tone. tone.length) (tones_by entry line)

abbrev pub velocities_by : Entry → List ℕ → List ℕ
velocities_by entry line = map (λ tone. tone.velocity) (tones_by entry line)

-- The lengths of the notes, chords and rests of a line.
abbrev pub lengths_by : Entry → List ℕ → List Grains
lengths_by entry line = flat_map lengths_in (items_by entry line)

-- Keys that MIDI has.
abbrev pub keys : List ℕ → List (Option ℕ)
keys numbers = map (λ number. Some number) numbers

-- Lengths in ticks.
abbrev pub ticks : List ℕ → List Grains
ticks numbers = map at_tick numbers

-- A single note of a key, or a silent one, `long` ticks long, without a dynamic and not tied.
abbrev pub sound : Option ℕ → ℕ → Item
sound key long = items.Tone (record { key = key; length = at_tick long; velocity = 80; tied = false } ∷ []) (at_tick long)

-- Rests `long` ticks long, not of bars and of bars.
abbrev pub rest : ℕ → Item
rest long = items.Rest (at_tick long) false

abbrev pub bar_rest : ℕ → Item
bar_rest long = items.Rest (at_tick long) true
