-- The marks of a cell, as they are stored.
use Rattle.std.specs.Prelude.{List, [], Option, Some, None}
use Rattle.abc_marks.specs.declared.mark.Mark.{Mark}

-- The marks of a list, if there is one.
abbrev pub listed : Option (List Mark) → List Mark
listed None = []
listed (Some marks) = marks
