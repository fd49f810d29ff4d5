use Rattle.std.proofs.Common.{rules}
use Rattle.abc_tokens.proofs.Chords.{found_hold}
use Rattle.abc_tokens.proofs.tokens.cut_tokens.Goals as goal

pub tokens_with_parts-requires-clause-parts : goal.tokens_with_parts-requires-clause-parts
tokens_with_parts-requires-clause-parts c = found_hold c.args.line.now _ (search rules)
