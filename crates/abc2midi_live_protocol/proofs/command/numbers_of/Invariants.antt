use Rattle.std.proofs.Common.{◌≡◌, ◌≤◌, length, take}
use Rattle.abc2midi_live_protocol.specs.Command.{numbers_of, words_after}
use Rattle.abc2midi_live_protocol.proofs.Words.{numbers_after}
use Rattle.abc2midi_live_protocol.proofs.command.numbers_of.Given as goal

-- the numbers read so far, and those of the words that are left
abbrev pub invariant-loop-rest : goal.invariant-loop-rest
invariant-loop-rest l = record {
  command_of_words : numbers_after (take l.count l.values) (words_after l.rest) ≡ numbers_of (words_after l.fn.words);
  few : l.count ≤ 3;
  places : length l.values ≡ 3;
}

abbrev pub decreases-loop-rest : goal.decreases-loop-rest
decreases-loop-rest l = length (words_after l.rest)
