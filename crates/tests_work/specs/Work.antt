-- The commands of an input, line by line, and the edits among them.
use Rattle.std.specs.Prelude.{◌≡◌, ℕ, List, [], ◌∷◌, ◌++◌, Option, Some, None}
use Rattle.std.specs.Global.{Vec}
use Rattle.abc_lines.specs.Text.{text_of}
use Rattle.abc_live.specs.declared.Edit.{Edit}
use Rattle.abc_live.specs.declared.Edit.TheVariants as edits
use Rattle.abc2midi_live.specs.Command.{command_of}
use Rattle.abc2midi_live.specs.declared.Command.{Command}
use Rattle.abc2midi_live.specs.declared.Command.TheVariants.{Insert, Replace, Delete, Faults, Titles, Hex, Build, Quit}
use Rattle.abc2midi_live.specs.declared.Command.TheVariants.{Unknown}
use Rattle.tests_work.specs.declared.work.PartialCommand.{PartialCommand}

-- The edit of a command with its lines, if it is one.
abbrev pub edit_of : Command → Vec (Vec ℕ) → Option Edit
edit_of (Insert at count) lines = Some (edits.Insert at lines)
edit_of (Replace from to count) lines = Some (edits.Replace from to lines)
edit_of (Delete from to) lines = Some (edits.Delete from to)
edit_of Faults lines = None
edit_of Titles lines = None
edit_of (Hex number) lines = None
edit_of Build lines = None
edit_of Quit lines = None
edit_of Unknown lines = None

-- A line begins a command, or is the next line of the one that has begun.
abbrev pub HasNextLine : Option PartialCommand → List ℕ → PartialCommand → Type 0
HasNextLine None line next = (next.command ≡ command_of line) × (next.lines.items ≡ [])
HasNextLine (Some begun) line next = (next.command ≡ begun.command) × (text_of next.lines ≡ text_of begun.lines ++ line ∷ [])
