use Rattle.std.proofs.Common.{inl}
use Rattle.abc_lines.specs.TextLines.{lines_in}
use Rattle.c_handle.proofs.Refusals.{insertion_at, insertion_none}
use Rattle.c_handle.proofs.refusal.insertion_reason.Goals as goal

pub returns-then-at-eq0 : goal.returns-then-at-eq0
returns-then-at-eq0 c = record { value = inl (insertion_none c.args.session.now.text c.args.at (lines_in c.args.text.now) c.if-at-eq0.true) }

pub returns : goal.returns
returns c = record { value = rw (insertion_at c.args.session.now.text c.args.at (lines_in c.args.text.now) c.if-at-eq0.false) c.reason.ensures.value }
