use Rattle.std.proofs.Common.{◌≡◌, ◌∙◌, ap, subst, int_cmp, ℤ, List}
use mir.Syntax.{w32}
use Rattle.std.proofs.lemmas.Int.{to_z-of_z}
use Rattle.std.specs.BTreeMap.{insert_entry}
use Rattle.std.specs.Result.{IfOk}
use Rattle.abc_bars_voice.specs.declared.accidentals.LetterAccidentals.{LetterAccidentals}
use Rattle.abc_bars_voice.specs.OctaveGroups.{group_at, group_of}
use Rattle.abc_bars_voice.proofs.octave_groups.OctaveGroups.with.Goals as goal

pub returns : goal.returns
returns c =
    let octave = to_z-of_z w32 c.args.octave c.ranges.octave in
    let number = to_z-of_z w32 c.group_of.result (record { sfits = c.group_of.type_inv }) ∙ c.group_of.ensures ∙ ap group_of octave in
    let group = c.in_ok-group.ensures ∙ ap (λ (z : ℤ). insert_entry int_cmp (group_at c.args.self.now z) z c.args.letters) octave in
    let made = ap (λ (n : ℤ). insert_entry int_cmp c.args.self.now n c.in_ok-group.group) number
    ∙ ap (insert_entry int_cmp c.args.self.now (group_of c.args.octave)) group in
    subst (λ (t : List (ℤ × List (ℤ × LetterAccidentals))). IfOk c.with_group.result (λ all. all ≡ t)) made c.with_group.ensures
