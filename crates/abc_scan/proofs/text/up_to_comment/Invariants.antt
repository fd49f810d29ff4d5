use Rattle.std.proofs.Common.{◌≡◌, ◌++◌, take, drop}
use Rattle.abc_scan.specs.Text.{before_comment}
use Rattle.abc_scan.proofs.text.up_to_comment.Given as goal

-- the text read is the front so far and the text read of the rest
abbrev pub invariant-loop-at : goal.invariant-loop-at
invariant-loop-at l = take l.at l.text ++ before_comment l.before (drop l.at l.text) ≡ before_comment 32 l.text
