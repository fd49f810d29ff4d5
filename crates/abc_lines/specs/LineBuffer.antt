-- What contracts see of a text with a gap, and of a splice that has been prepared.
use Rattle.std.specs.Prelude.{ℕ, List}
use Rattle.abc_lines.specs.GapList.{GapListView}
use Rattle.abc_lines.specs.ListSplice.{SplicePatchView}
use Rattle.abc_lines.specs.Text.{Text}

-- A text, how many of its lines precede the gap, for how many more there is room, and how many places the gap has
-- moved.
pub record LineBufferView : Type 0 where
  pub text : Text
  pub gap : ℕ
  pub room : ℕ
  pub moved : ℕ

-- What a list of lines holds.
abbrev pub line_buffer_view : GapListView (List ℕ) → LineBufferView
line_buffer_view list = record { text = list.items; gap = list.gap; room = list.room; moved = list.moved }

-- A text before a splice, with its gap and room, and the text after it.
pub record LinePatchView : Type 0 where
  pub on : LineBufferView
  pub after : Text

-- The splice of a text that a splice of its list is.
abbrev pub line_patch_view : SplicePatchView (List ℕ) → LinePatchView
line_patch_view splice = record { on = line_buffer_view splice.on; after = splice.after.items }
