use Rattle.std.proofs.Common.{◌≡◌, take}
use Rattle.abc_text.specs.Digit.{decimal}
use Rattle.abc_text.proofs.digit.decimal.Given as goal

abbrev pub invariant-loop-digit : goal.invariant-loop-digit
invariant-loop-digit l = l.number ≡ decimal (take l.digit-index l.digits)
