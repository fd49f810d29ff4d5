use Rattle.std.proofs.Common.{◌/◌, ◌%◌}
use Rattle.tests.proofs.Digits.{digits}
use Rattle.tests.proofs.memos.line_of.Goals as goal

pub returns : goal.returns
returns c = digits (c.args.number / 10 % 10) (c.args.number % 10)
