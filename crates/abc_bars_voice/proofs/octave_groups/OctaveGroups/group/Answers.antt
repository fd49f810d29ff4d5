use Rattle.std.proofs.Common.{◌∙◌, ap, sym, Some, int_cmp, ℤ, List}
use mir.Syntax.{w32}
use Rattle.std.proofs.lemmas.Int.{to_z-of_z}
use Rattle.std.specs.BTreeMap.{get_by, is_at}
use Rattle.std.specs.Map.{lookup}
use Rattle.abc_bars_voice.specs.declared.accidentals.LetterAccidentals.{LetterAccidentals}
use Rattle.abc_bars_voice.specs.OctaveGroups.{groups_in}
use Rattle.abc_bars_voice.proofs.octave_groups.OctaveGroups.group.Goals as goal

pub returns-in-Some : goal.returns-in-Some
returns-in-Some c =
    let key = to_z-of_z w32 c.args.number c.ranges.number in
    let kept = ap groups_in (ap Some c.get.ensures ∙ sym c.in-Some.is) ∙ c.self.view_is in
    c.get-in-Some.ensures.value ∙ ap (λ (z : ℤ). get_by (int_cmp z) c.get.result.now) key
    ∙ ap (λ (groups : List (ℤ × List (ℤ × LetterAccidentals))). lookup (is_at (int_cmp c.args.number)) groups) kept
