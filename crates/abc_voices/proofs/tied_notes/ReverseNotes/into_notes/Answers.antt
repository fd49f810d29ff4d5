use Rattle.std.proofs.Common.{ap, ◌∙◌}
use Rattle.abc_voices.specs.Layout.{all_notes}
use Rattle.abc_voices.specs.TiedNotes.{NotesInParts, notes_in}
use Rattle.abc_voices.proofs.InOne.{whole}
use Rattle.abc_voices.proofs.tied_notes.ReverseNotes.into_notes.Goals as goal

pub returns : goal.returns
returns c =
    whole c.self.inside.notes.items c.self.inside.next c.self.inside.begun c.self.invariant.0
    ∙ ap (λ (v : NotesInParts). all_notes (notes_in v)) c.self.view_is
