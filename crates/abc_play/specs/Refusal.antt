-- Why the play of a number is refused. Not in ABC 2.1.
use Rattle.std.specs.Prelude.{◌≡◌, ◌<◌, ℕ, None, IsSome}
use Rattle.abc_lines.specs.Text.{Text}
pub use Rattle.abc_repeat.specs.declared.play.TheConstants.{MOST_PLACES}
use Rattle.abc_play.specs.Play.{block_of, play_size}
use Rattle.abc_play.specs.declared.play_error.PlayError.{PlayError}
use Rattle.abc_play.specs.declared.play_error.PlayError.TheVariants.{NoSuchNumber, TooLong, OutOfMemory}

-- Of a tune with a file, by the count of items and bar lines that it plays: they are too many, or an allocation failed.
abbrev pub RefusesTune : ℕ → PlayError → Type 0
RefusesTune size NoSuchNumber = ⊥
RefusesTune size TooLong = MOST_PLACES < size
RefusesTune size OutOfMemory = Unit {0}

-- Of a number: no tune owns it, or one does, and it plays too many items and bar lines, or an allocation failed.
abbrev pub RefusesPlay : Text → ℕ → PlayError → Type 0
RefusesPlay text number NoSuchNumber = block_of text number ≡ None
RefusesPlay text number TooLong = MOST_PLACES < play_size text number
RefusesPlay text number OutOfMemory = IsSome (block_of text number)
