-- The state at a place of a file header or of a tune. Not in ABC 2.1.
use Rattle.std.specs.Prelude.{Option, Some, None}
use Rattle.abc_bars_header.specs.Defaults.{no_defaults}
use Rattle.abc_bars_header.specs.declared.defaults.Defaults.{Defaults}
use Rattle.abc_bars_body.specs.declared.entry.Entry.{Entry}
use Rattle.abc_bars_body.specs.declared.entry.Entry.TheVariants as entries

-- The values in a file header; no values in the other states.
abbrev pub defaults_of : Entry → Defaults
defaults_of (entries.FileHeader defaults) = defaults
defaults_of _ = no_defaults

-- The state at the beginning of a tune, by the state after the file header, if there is one.
abbrev pub opening_after : Option Entry → Entry
opening_after None = entries.Opening no_defaults
opening_after (Some entry) = entries.Opening (defaults_of entry)
