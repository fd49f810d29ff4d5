-- The grace notes before a note, chord or rest. ABC 2.1 section 4.12.
use Rattle.std.specs.Prelude.{ℕ, ◌+◌, ◌≤◌, nat_lt, if◌then◌else◌, All, List, [], ◌∷◌, ◌++◌, length}
use Rattle.abc_bars_items.specs.Velocity.{IsVelocity}
use Rattle.abc_marks.specs.GraceNote.{IsGraceNote}
use Rattle.abc_marks.specs.declared.grace_note.GraceNote.{GraceNote}
use Rattle.abc_marks.specs.declared.grace_note.TheConstants.{MOST_GRACE_NOTES}
use Rattle.abc_marks.specs.declared.mark.Mark.{Mark}
use Rattle.abc_marks.specs.declared.mark.MarkKind.{MarkKind}
use Rattle.abc_marks.specs.declared.mark.MarkKind.TheVariants as kinds
use Rattle.abc_perform_item.specs.declared.graces.Grace.{Grace}
use Rattle.abc_perform_item.specs.declared.performed.Place.{Place}
use Rattle.abc_perform_item.specs.declared.performed.Source.TheVariants as sources

-- What a grace note can hold.
pub record IsGrace (grace : Grace) : Type 0 where
  pub note : IsGraceNote grace.note
  pub velocity : IsVelocity grace.velocity

-- Grace notes that count: no more than may.
pub record AreGraces (graces : List Grace) : Type 0 where
  pub few : length graces ≤ MOST_GRACE_NOTES
  pub each : All IsGrace graces

-- Some grace notes and one more, if it is not one too many. Not in ABC 2.1.
abbrev pub with_grace : List Grace → Grace → List Grace
with_grace graces grace = if nat_lt (length graces) MOST_GRACE_NOTES then graces ++ grace ∷ [] else graces

-- Some grace notes and those between two braces, of which the first has an index.
abbrev pub with_notes : List Grace → Place → ℕ → ℕ → List GraceNote → List Grace
with_notes graces mark velocity index [] = graces
with_notes graces mark velocity index (note ∷ notes) =
    with_notes (with_grace graces (record { note = note; velocity = velocity; source = sources.GraceNote mark index }))
    mark velocity (index + 1) notes

-- Some grace notes and those of a mark of this kind.
abbrev pub with_kind : List Grace → Place → MarkKind → List Grace
with_kind graces place (kinds.GraceNotes notes velocity) = with_notes graces place velocity 0 notes
with_kind graces place _ = graces

-- Some grace notes and those of a mark.
abbrev pub with_mark : List Grace → Place → Mark → List Grace
with_mark graces place mark = with_kind graces place mark.kind

-- Some grace notes and those of marks of a cell, of which the first has an index: several braces before one note are one
-- group.
abbrev pub with_marks : List Grace → ℕ → ℕ → List Mark → List Grace
with_marks graces cell index [] = graces
with_marks graces cell index (mark ∷ marks) =
    with_marks (with_mark graces (record { cell = cell; index = index }) mark) cell (index + 1) marks
