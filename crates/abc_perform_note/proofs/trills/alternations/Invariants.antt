use Rattle.std.proofs.Common.{◌≡◌, All}
use Rattle.abc_perform_note.specs.Part.{IsPartOf}
use Rattle.abc_perform_note.specs.Trills.{alternations}
use Rattle.abc_perform_note.proofs.trills.alternations.Given as goal

abbrev pub invariant-loop : goal.invariant-loop
invariant-loop l =
    (l.parts ≡ alternations l.counter l.key l.up l.length.0) × All (IsPartOf l.length.0) l.parts
