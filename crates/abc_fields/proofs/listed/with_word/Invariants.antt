use Rattle.std.proofs.Common.{◌≡◌, length}
use Rattle.abc_fields.specs.Accidental.{changes_of}
use Rattle.abc_fields.specs.Listed.{changed_or, with_word}
use Rattle.abc_fields.proofs.listed.with_word.Given as goal

abbrev pub invariant-loop-change : goal.invariant-loop-change
invariant-loop-change l = changed_or l.signature l.changed (changes_of l.rest) ≡ with_word l.signature l.word

abbrev pub decreases-loop-change : goal.decreases-loop-change
decreases-loop-change l = length l.rest
