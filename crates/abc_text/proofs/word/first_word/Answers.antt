use Rattle.std.proofs.Common.{◌+◌, Some, None, arith}
use Rattle.std.proofs.lemmas.Grind.{common_steps}
use Rattle.abc_text.specs.Word.{first_word}
use Rattle.abc_text.proofs.Words.{words_at, word_some}
use Rattle.abc_text.proofs.word.first_word.Goals as goal

pub returns-then-from-text-clause-value : goal.returns-then-from-text-clause-value
unfolding first_word
returns-then-from-text-clause-value c = grind (arith, common_steps)

pub returns-then-from-text-clause-words : goal.returns-then-from-text-clause-words
returns-then-from-text-clause-words c = words_at c.args.text.now None (returns-then-from-text-clause-value c)

pub returns-clause-value : goal.returns-clause-value
unfolding first_word
returns-clause-value c = grind (arith, common_steps)

pub returns-clause-words : goal.returns-clause-words
returns-clause-words c = words_at c.args.text.now (Some (c.leading_blanks-from.result, c.leading_blanks-from.result + c.bytes_before_blank.result)) (returns-clause-value c)

pub returns-clause-some : goal.returns-clause-some
returns-clause-some c = word_some c.args.text.now (Some (c.leading_blanks-from.result, c.leading_blanks-from.result + c.bytes_before_blank.result)) (returns-clause-value c)
