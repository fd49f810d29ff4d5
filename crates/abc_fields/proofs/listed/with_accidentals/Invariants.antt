use Rattle.std.proofs.Common.{◌≡◌, length}
use Rattle.abc_text.specs.Word.{words_of}
use Rattle.abc_fields.specs.Listed.{with_accidentals}
use Rattle.abc_fields.proofs.listed.with_accidentals.Given as goal

abbrev pub invariant-loop-word : goal.invariant-loop-word
invariant-loop-word l = with_accidentals l.changed (words_of l.rest) ≡ with_accidentals l.fn.signature (words_of l.text)

abbrev pub decreases-loop-word : goal.decreases-loop-word
decreases-loop-word l = length l.rest
