-- How much work the tokens of a line cost. Not in ABC 2.1.
use Rattle.std.specs.Prelude.{Option, None, Some}
use Rattle.abc_fold.specs.Work.{Counters, raised}
use Rattle.abc_tokens.specs.declared.line_token.LineTokenKind.{LineTokenKind}

-- The counters after a question for the tokens of a line: a line that is one token of some kind is not scanned.
abbrev pub work_after : Option LineTokenKind → Counters → Counters
work_after None before = record before { scanned = raised before.scanned 1 }
work_after (Some kind) before = before
