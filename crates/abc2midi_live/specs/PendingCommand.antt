-- A command whose lines have not all come, as contracts see it. Not in ABC 2.1.
use Rattle.std.specs.Prelude.{Option, option_map}
use Rattle.abc_lines.specs.Text.{text_of}
use Rattle.abc2midi_live.specs.Dialogue.{BegunCommand}
use Rattle.abc2midi_live.specs.declared.dialogue.PendingCommand.{PendingCommand}

-- A command that is gathering its lines, without their place in memory.
abbrev pub begun_command : Option PendingCommand → Option BegunCommand
begun_command pending = option_map (λ g. record { command = g.command; lines = text_of g.lines }) pending
