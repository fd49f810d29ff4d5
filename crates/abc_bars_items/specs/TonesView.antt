-- The tones of a note or chord, as a caller reads them.
use Rattle.std.specs.Prelude.{List, [], ◌∷◌}
use Rattle.abc_bars_items.specs.declared.item.Tone.{Tone}
use Rattle.abc_bars_items.specs.declared.tones.TonesView.{TonesView}
use Rattle.abc_bars_items.specs.declared.tones.TonesView.TheVariants as view

-- The tones of a view.
abbrev pub viewed_tones : TonesView → List Tone
viewed_tones (view.One tone) = tone ∷ []
viewed_tones (view.List tones) = tones.now
