-- The keys of tunes in the memo. Not in ABC 2.1.
use Rattle.std.specs.Prelude.{Option, unwrap_or}
use Rattle.abc_book.specs.declared.block.Block.{Block}
use Rattle.abc_lines.specs.Text.{Text}
use Rattle.abc_tune_memo.specs.Bytes.{bytes_of_lines}
use Rattle.abc_tune_memo.specs.declared.key.TuneKey.{TuneKey}
use Rattle.abc_tune_compiler.specs.Rules.{Rules}
use Rattle.abc_tune_compiler.specs.Tune.{lines_in}

-- The defaults that a file header sets, by the state after its last cell; without one, those of an empty file header.
abbrev pub defaults_by : {State Cell Items Defaults : Type 0} → Rules State Cell Items Defaults → Option State → Defaults
defaults_by rules left = rules.defaults (unwrap_or left rules.header)

-- The memo's key of the tune of a place among lines: the defaults of the file header, and the bytes of all its lines
-- that are no comments.
abbrev pub key_by : {State Cell Items Defaults : Type 0} → Rules State Cell Items Defaults → Option State → Text → Block
    → TuneKey Defaults
key_by rules left lines place =
    record { defaults = defaults_by rules left; bytes = bytes_of_lines rules.class (lines_in lines place) }
