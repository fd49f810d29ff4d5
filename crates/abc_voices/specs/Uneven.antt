-- When the voices of a tune are uneven. Not in ABC 2.1.
use Rattle.std.specs.Prelude.{◌≡◌, ◌≢◌, ◌↔◌, ℕ, Bool, true, List, Any}
use Rattle.abc_bars_items.specs.declared.item.Item.{Item}
use Rattle.abc_bars_items.specs.declared.item.Item.TheVariants as items
use Rattle.abc_bars_items.specs.declared.item.Tone.{Tone}
use Rattle.abc_time.specs.declared.grains.Grains.{Grains}
use Rattle.abc_voices_sections.specs.PlayedSection.{length_in, play_in}
use Rattle.abc_voices.specs.Layout.{arranged_of, played_sections}
use Rattle.abc_voices.specs.Track.{voice_names}

-- A note, chord, rest or bar rest takes time; nothing else does.
pub data TakesTime (item : Item) : Type 0 where
  by_tones : (tones : List Tone) (length : Grains) → item ≡ items.Tone tones length → TakesTime item
  by_rest : (length : Grains) (bar : Bool) → item ≡ items.Rest length bar → TakesTime item

-- Two voices both play something that takes time in a section, and are not equally long there.
pub record AreUneven (section : List ℕ × List Item) (one other : List ℕ) : Type 0 where
  pub one_plays : Any TakesTime (play_in section one)
  pub other_plays : Any TakesTime (play_in section other)
  pub lengths_differ : length_in section one ≢ length_in section other

-- Two voices of a tune are uneven in a section of it that is played.
abbrev pub HasUneven : List Item → Type 0
HasUneven tune =
    Any (λ section. Any (λ one. Any (AreUneven section one) (voice_names tune)) (voice_names tune)) (played_sections tune)

-- A tune has the fault of uneven voices exactly if it has some.
abbrev pub UnevenByLengths : Type 0
UnevenByLengths = (tune : List Item) → ((arranged_of tune).uneven ≡ true) ↔ HasUneven tune
