-- The tones of a note or chord, as they are stored.
use Rattle.std.specs.Prelude.{List, [], ◌∷◌}
use Rattle.abc_bars_items.specs.declared.item.Tone.{Tone}
use Rattle.abc_bars_items.specs.declared.tones.StoredTones.{StoredTones}
use Rattle.abc_bars_items.specs.declared.tones.StoredTones.TheVariants as stored

-- The tones that are stored so.
abbrev pub stored_tones : StoredTones → List Tone
stored_tones (stored.One key velocity tied length) =
    record { length = length; key = key; velocity = velocity; tied = tied } ∷ []
stored_tones (stored.List tones) = tones
