-- The entries of a play: one for each tone, rest and bar line that is passed. Not in ABC 2.1.
use Rattle.std.specs.Prelude.{ℕ, ◌+◌, ◌-◌, ◌^◌, min, nat_lt, Bool, false, ◌&&◌, List, [], ◌∷◌, ◌++◌, length, Option, Some, None, is_some}
use Rattle.abc_bars_items.specs.declared.item.Item.{Item}
use Rattle.abc_bars_items.specs.declared.item.Item.TheVariants as items
use Rattle.abc_bars_items.specs.declared.item.Tone.{Tone}
use Rattle.abc_time.specs.declared.grains.Grains.{Grains}
use Rattle.abc_voices.specs.Ties.{tied_with, tones_with}
use Rattle.abc_voices_sections.specs.Step.{tones_of}
use Rattle.abc_play_sections.specs.declared.step.PlayStep.{PlayStep}
use Rattle.abc_play_sections.specs.declared.step.PlayStep.TheVariants as steps
use Rattle.abc_play_sections.specs.Step.{as_item}
use Rattle.abc_play_tune.specs.declared.entry.EntryKind.{EntryKind}
use Rattle.abc_play_tune.specs.declared.entry.EntryKind.TheVariants as kinds
use Rattle.abc_play_tune.specs.declared.entry.PlayEntry.{PlayEntry}
use Rattle.abc_play_tune.specs.declared.timed.TimedStep.{TimedStep}

-- The end of what begins at a moment, at most 2^64 - 1. No tune with a file comes near.
abbrev pub end_by : ℕ → Grains → Grains
end_by at length = record { 0 = min (at + length.0) (2 ^ 64 - 1) }

-- Whether a tone is joined with one of the time token before its own, which has the tones `previous`. `past` has the tones before
-- it in its own: of a key, the first tied tone is joined with the first tone, and so on. Which is not in ABC 2.1.
abbrev pub is_joined : List Tone → List Tone → Option ℕ → Bool
is_joined previous past None = false
is_joined previous past (Some key) = nat_lt (tones_with key past) (tied_with key previous)

-- Whether a tie follows a tone that has a key.
abbrev pub is_tied : Tone → Bool
is_tied tone = tone.tied && is_some tone.key

-- The entry of a tone, after the tones `past` of its time token.
abbrev pub tone_entry : List Tone → ℕ → ℕ → List Tone → Tone → PlayEntry
tone_entry previous at place past tone = record {
  on = record { 0 = at };
  off = end_by at tone.length;
  place = place;
  kind = kinds.Note (length past) tone.key tone.velocity (is_joined previous past tone.key) (is_tied tone);
}

-- The entries of the tones of a time token, after its tones `past`.
abbrev pub tone_entries : List Tone → ℕ → ℕ → List Tone → List Tone → List PlayEntry
tone_entries previous at place past [] = []
tone_entries previous at place past (tone ∷ tones) =
    tone_entry previous at place past tone ∷ tone_entries previous at place (past ++ tone ∷ []) tones

-- The entry of a rest, and of a bar line that is passed.
abbrev pub rest_entry : ℕ → ℕ → Grains → PlayEntry
rest_entry at place length = record { on = record { 0 = at }; off = end_by at length; place = place; kind = kinds.Rest }

abbrev pub bar_entry : ℕ → ℕ → PlayEntry
bar_entry at place = record { on = record { 0 = at }; off = record { 0 = at }; place = place; kind = kinds.Bar }

-- The entries of an item.
abbrev pub item_entries : List Tone → ℕ → ℕ → Item → List PlayEntry
item_entries previous at place (items.Tone tones length) = tone_entries previous at place [] tones
item_entries previous at place (items.Rest length bar) = rest_entry at place length ∷ []
item_entries previous at place _ = []

-- The entries of a step that is played at a moment.
abbrev pub step_entries : List Tone → ℕ → PlayStep → List PlayEntry
step_entries previous at (steps.Item item place) = item_entries previous at place item.now
step_entries previous at (steps.BarLine place) = bar_entry at place ∷ []

-- The tones of the last time token, after an item with these tones or none.
abbrev pub previous_after : List Tone → Option (List Tone) → List Tone
previous_after previous None = previous
previous_after previous (Some tones) = tones

-- The entries of timed steps after a time token with the tones `previous`.
abbrev pub entries_from : List Tone → List TimedStep → List PlayEntry
entries_from previous [] = []
entries_from previous (timed ∷ others) =
    step_entries previous timed.at.0 timed.step
    ++ entries_from (previous_after previous (tones_of (as_item timed.step))) others

-- The same, those of later steps first.
abbrev pub entries_back : List Tone → List TimedStep → List PlayEntry
entries_back previous [] = []
entries_back previous (timed ∷ others) =
    entries_back (previous_after previous (tones_of (as_item timed.step))) others
    ++ step_entries previous timed.at.0 timed.step

-- The entries of each timed step, after a time token with the tones `previous`.
abbrev pub entry_groups : List Tone → List TimedStep → List (List PlayEntry)
entry_groups previous [] = []
entry_groups previous (timed ∷ others) =
    step_entries previous timed.at.0 timed.step ∷ entry_groups (previous_after previous (tones_of (as_item timed.step))) others

-- The moment, the own end, the key and the velocity of an entry that is a tone, and whether it is tied.
abbrev pub tone_played : Grains → Grains → EntryKind → Option (ℕ × Grains × Option ℕ × ℕ × Bool)
tone_played on off (kinds.Note tone key velocity joined tied) = Some (on.0, off, key, velocity, tied)
tone_played on off _ = None

abbrev pub played_by : PlayEntry → Option (ℕ × Grains × Option ℕ × ℕ × Bool)
played_by entry = tone_played entry.on entry.off entry.kind

-- The note that begins with an entry: its moment, key and velocity. None for a tone that is silent or joined, a rest or a bar line.
abbrev pub begun_by : ℕ → EntryKind → Option (ℕ × ℕ × ℕ)
begun_by at (kinds.Note tone (Some key) velocity false tied) = Some (at, key, velocity)
begun_by at _ = None

abbrev pub note_begun : PlayEntry → Option (ℕ × ℕ × ℕ)
note_begun entry = begun_by entry.on.0 entry.kind
