-- Sets of definitions that the examples open: a set opens all that its `unfolding` line names. Its value has no meaning.
use Rattle.std.specs.Int.Count.{count_trailing_zeros}
use Rattle.hex.specs.Hex.{encode_with}
use Rattle.abc_text.specs.Power.{is_power_up_to}
use Rattle.abc_time.specs.Grains.{grains_of_a_tick, grains_of_the_latest_end}
use Rattle.abc_fields.specs.Letters.{play_on}
use Rattle.abc_repeat.specs.Mark.{greatest_number, greatest_number_to, has_number}
use Rattle.abc_repeat.specs.Order.{sections_of}
use Rattle.abc_repeat.specs.Play.{play_of, strain_play}
use Rattle.smf_bytes.specs.File.{file_bytes, header_chunk}
use Rattle.smf_bytes.specs.Number.{number_text, read_result}
use Rattle.smf_bytes.specs.Track.{track, track_body}

-- Tracks and files of `smf_bytes`, in hexadecimal.
unfoldable pub files : Unit {0}
unfolding grains_of_a_tick number_text track_body track header_chunk file_bytes encode_with
files = tt

-- Numbers: powers of two, the latest end, and those that a reader finds at the front of bytes.
unfoldable pub numbers : Unit {0}
unfolding is_power_up_to count_trailing_zeros grains_of_the_latest_end read_result
numbers = tt

-- The sections of a tune, and the play of their items.
unfoldable pub plays : Unit {0}
unfolding play_on sections_of has_number greatest_number_to greatest_number strain_play play_of grains_of_a_tick
plays = tt
