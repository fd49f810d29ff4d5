-- Marks in examples of plays.
use Rattle.std.specs.Prelude.{ℕ, ◌+◌, ◌-◌, ◌^◌, true, false}
use Rattle.abc_repeat.specs.declared.mark.Mark.{Mark}
use Rattle.abc_repeat.specs.declared.mark.Mark.TheVariants as marks

-- A note.
abbrev pub note : Mark
note = marks.Play

-- The bar line `|`.
abbrev pub single : Mark
single = marks.Bar 0 0 false

-- The bar line `||`.
abbrev pub double : Mark
double = marks.Bar 0 0 true

-- The repeat bar `|:` with this number of colons.
abbrev pub opening : ℕ → Mark
opening colons = marks.Bar 0 colons false

-- The repeat bar `:|` with this number of colons.
abbrev pub closing : ℕ → Mark
closing colons = marks.Bar colons 0 false

-- This number of colons on both sides of nothing: `::` has one on each.
abbrev pub between : ℕ → Mark
between colons = marks.Bar colons colons true

-- An ending for a pass, counted from 1, and one for two passes.
abbrev pub ending : ℕ → Mark
ending pass = marks.Ending (2 ^ (pass - 1))

abbrev pub ending_for : ℕ → ℕ → Mark
ending_for first second = marks.Ending (2 ^ (first - 1) + 2 ^ (second - 1))

-- An ending that is for no pass.
abbrev pub no_pass : Mark
no_pass = marks.Ending 0
