use Rattle.std.proofs.Common.{◌≡◌, length}
use Rattle.abc_text.specs.Word.{words_of}
use Rattle.abc_fields.specs.Shift.{no_shift, shift_after}
use Rattle.abc_fields.proofs.shift.shift_in.Given as goal

-- the rest of the text, after the shift so far, gives the shift of the whole text
abbrev pub invariant-loop-word : goal.invariant-loop-word
invariant-loop-word l = shift_after (words_of l.rest) l.shift ≡ shift_after (words_of l.text) no_shift

abbrev pub decreases-loop-word : goal.decreases-loop-word
decreases-loop-word l = length l.rest
