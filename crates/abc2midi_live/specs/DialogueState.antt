-- A dialogue as contracts see it, without its place in memory. Not in ABC 2.1.
use Rattle.std.specs.Prelude.{ℕ, List, Option, MatchResult, Result}
use Rattle.std.specs.Io.KnownBytes.{Appends}
use Rattle.abc_publish.specs.Publisher.{maps_of}
use Rattle.abc2midi_live.specs.Dialogue.{BegunCommand, Opens, SaysBy, dialogue_change}
use Rattle.abc2midi_live.specs.PendingCommand.{begun_command}
use Rattle.abc2midi_live.specs.Outcome.{FailsToOpen}
use Rattle.abc2midi_live.specs.Storing.{StoreView}
use Rattle.abc2midi_live.specs.RunOutput.{DialogueView, dialogue_view}
use Rattle.abc2midi_live.specs.declared.dialogue.Dialogue.{Dialogue}
use Rattle.abc2midi_live.specs.declared.run_fault.RunFault.{RunFault}
use Rattle.abc2midi_live.specs.declared.machine.Reply.{Reply}

-- The state between two commands.
abbrev pub view_of : Dialogue → DialogueView
view_of d = dialogue_view d.session.text (maps_of d.publisher).directory

-- A dialogue replies to a command that has the first of its lines, for the store's answers.
abbrev pub ProceedsBy : Dialogue → Dialogue → BegunCommand → Reply → StoreView → StoreView → Type 0
ProceedsBy before after begun reply old new =
    SaysBy (dialogue_change (view_of before) begun (view_of after) (begun_command after.pending))
    (view_of before).directory reply old new

-- The answer to a tune book is written, if there is one, and a dialogue goes on from there, or what a fault leaves.
abbrev pub OpensOrFails : Option (List ℕ) → Option (List ℕ) → Option (List ℕ) → Result Dialogue RunFault → Type 0
OpensOrFails book old new result =
    MatchResult result (λ d. (text : List ℕ) × Appends old new text × Opens book text (view_of d) (begun_command d.pending))
    (FailsToOpen old new)
