-- The play of a number of a text: what each voice plays, when, and where it is in the text. Not in ABC 2.1.
use Rattle.std.specs.Borrow.{Bor}
use Rattle.std.specs.Prelude.{ℕ, List, [], map, slice_get, Option, Some, None, option_and_then}
use Rattle.std.specs.List.{flat_map}
use Rattle.std.specs.Option.{option_map}
use Rattle.abc_bars_body.specs.declared.entry.Entry.{Entry}
use Rattle.abc_bars_items.specs.Item.{Items}
use Rattle.abc_bars_items.specs.declared.item.Item.{Item}
use Rattle.abc_book.specs.declared.block.Block.{Block}
use Rattle.abc_fold.specs.Steps.{items_from}
use Rattle.abc_lines.specs.Text.{Text}
use Rattle.abc_live_session.specs.Owner.{owner_of}
use Rattle.abc_play_tune.specs.Entries.{entries_from}
use Rattle.abc_play_tune.specs.Play.{play_of_voice, steps_played}
use Rattle.abc_play_tune.specs.declared.entry.EntryKind.{EntryKind}
use Rattle.abc_play_tune.specs.declared.entry.EntryKind.TheVariants as kinds
use Rattle.abc_play_tune.specs.declared.entry.PlayEntry.{PlayEntry}
use Rattle.abc_play_tune.specs.declared.timed.TimedStep.{TimedStep}
use Rattle.abc_time.specs.Grains.{tick_at}
use Rattle.abc_tune.specs.Abc.{rules_of_abc, steps_of_abc}
use Rattle.abc_tune_compiler.specs.Book.{blocks_in, compiled_text_of, opening_of, tunes_in}
use Rattle.abc_tune_compiler.specs.Tune.{Tune, cells_in, lines_in}
use Rattle.abc_voices.specs.Layout.{items_in}
use Rattle.abc_voices.specs.Track.{tracks}
use Rattle.abc_voices_sections.specs.Items.{items_of}
use Rattle.abc_play.specs.Places.{place_at, tune_places}
use Rattle.abc_play.specs.declared.entry.PlayedEntry.{PlayedEntry}
use Rattle.abc_play.specs.declared.place.Place.{Place}

-- The index of a tone in its note or chord; 0 of a rest or a bar line.
abbrev pub tone_of : EntryKind → ℕ
tone_of (kinds.Note tone key velocity joined tied) = tone
tone_of _ = 0

-- An entry with its ticks and its place in the text.
abbrev pub placed_entry : List (List Place) → PlayEntry → PlayedEntry
placed_entry places entry = record {
  on = tick_at entry.on.0;
  off = tick_at entry.off.0;
  kind = entry.kind;
  place = place_at places entry.place (tone_of entry.kind);
}

-- The entries of what a voice plays.
abbrev pub placed_track : List (List Place) → List TimedStep → List PlayedEntry
placed_track places timed = map (placed_entry places) (entries_from [] timed)

-- The entries of each track with a voice.
abbrev pub tune_play : List (Bor Item) → List (List Place) → List (List PlayedEntry)
tune_play tune places = map (λ voice. placed_track places (play_of_voice tune voice)) (tracks (items_of tune))

-- An item as a tune refers to it. Where it is in memory does not matter.
abbrev pub referred : Item → Bor Item
referred item = record { ref_ptr = (0, 0); now = item }

-- The state in which each tune of a text begins.
abbrev pub opening_in : Text → Entry
opening_in text = opening_of steps_of_abc.next rules_of_abc text (blocks_in rules_of_abc text)

-- What the cells of a tune give.
abbrev pub block_items : Text → Block → List Items
block_items text block = items_from steps_of_abc (opening_in text) (flat_map rules_of_abc.cells (lines_in text block))

-- The items of a tune.
abbrev pub block_tune : Text → Block → List (Bor Item)
block_tune text block = map referred (items_in (block_items text block))

-- The play of the tune of a block.
abbrev pub block_play : Text → Block → List (List PlayedEntry)
block_play text block =
    tune_play (block_tune text block) (tune_places (cells_in rules_of_abc text block) (block_items text block))

-- How many items and bar lines its voices with a track play.
abbrev pub block_size : Text → Block → ℕ
block_size text block = steps_played (block_tune text block)

-- The tunes of a text.
abbrev pub tunes_of : Text → List Tune
tunes_of text = (compiled_text_of steps_of_abc.next steps_of_abc.gives rules_of_abc text (blocks_in rules_of_abc text)).tunes

-- The tune that owns a number: the first of the number that has a file.
abbrev pub block_of : Text → ℕ → Option Block
block_of text number = option_and_then (slice_get (tunes_in (blocks_in rules_of_abc text))) (owner_of (tunes_of text) number)

-- The play of a number, if a tune owns it.
abbrev pub play_of : Text → ℕ → Option (List (List PlayedEntry))
play_of text number = option_map (block_play text) (block_of text number)

-- How many items and bar lines are played of a number.
abbrev pub size_of : Text → Option Block → ℕ
size_of text None = 0
size_of text (Some block) = block_size text block

abbrev pub play_size : Text → ℕ → ℕ
play_size text number = size_of text (block_of text number)
