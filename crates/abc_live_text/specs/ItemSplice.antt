-- A splice of a list, as a splice of a text. Not in ABC 2.1.
use Rattle.std.specs.Prelude.{ℕ}
use Rattle.std.specs.Global.{Vec}
use Rattle.abc_lines.specs.Text.{Splice, splice_from}
use Rattle.abc_live_text.specs.declared.item_splice.ItemSplice.{ItemSplice}

-- The splice of a text that new lines make.
abbrev pub splice_in : ItemSplice (Vec ℕ) → Splice
splice_in splice = splice_from splice.at splice.removed splice.new.now
