-- The numbers of the definitions are the constants of the code.
use Rattle.std.proofs.Common.{◌≡◌, refl}
use Rattle.abc_time.specs.declared.grains.TheConstants.{WHOLE_NOTE, TICK, LONGEST_LENGTH, LATEST_END, LAST_TICK}
use Rattle.abc_time.specs.Grains.{grains_of_a_whole_note, grains_of_a_tick, grains_of_the_longest_length, grains_of_the_latest_end, tick_at}

pub whole_note_is : grains_of_a_whole_note ≡ WHOLE_NOTE.0
unfolding grains_of_a_whole_note
whole_note_is = refl

pub tick_is : grains_of_a_tick ≡ TICK.0
unfolding grains_of_a_tick
tick_is = refl

pub longest_length_is : grains_of_the_longest_length ≡ LONGEST_LENGTH.0
unfolding grains_of_the_longest_length grains_of_a_whole_note
longest_length_is = refl

pub latest_end_is : grains_of_the_latest_end ≡ LATEST_END.0
unfolding grains_of_the_latest_end grains_of_a_whole_note
latest_end_is = refl

pub last_tick_is : tick_at grains_of_the_latest_end ≡ LAST_TICK
unfolding grains_of_the_latest_end grains_of_a_whole_note grains_of_a_tick
last_tick_is = refl

pub ruleset grain_numbers = (whole_note_is, tick_is, longest_length_is, latest_end_is, last_tick_is)
