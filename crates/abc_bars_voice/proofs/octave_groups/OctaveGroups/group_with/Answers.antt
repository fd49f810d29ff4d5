use Rattle.std.proofs.Common.{◌≡◌, ◌∙◌, ap, subst, unwrap_or, Option, int_cmp, ℤ, List, [], ◌∷◌}
use mir.Syntax.{w32}
use Rattle.std.proofs.lemmas.Int.{to_z-of_z}
use Rattle.std.specs.BTreeMap.{insert_entry, is_at}
use Rattle.std.specs.Map.{lookup}
use Rattle.std.specs.Result.{IfOk}
use Rattle.abc_bars_voice.specs.declared.accidentals.LetterAccidentals.{LetterAccidentals}
use Rattle.abc_bars_voice.specs.OctaveGroups.{group_of}
use Rattle.abc_bars_voice.proofs.octave_groups.OctaveGroups.group_with.Goals as goal

pub returns-in-Some : goal.returns-in-Some
returns-in-Some c =
    let octave = to_z-of_z w32 c.args.octave c.ranges.octave in
    let number = to_z-of_z w32 c.group_of.result (record { sfits = c.group_of.type_inv }) ∙ c.group_of.ensures ∙ ap group_of octave in
    let found = c.in-Some.ensures ∙ ap (λ (n : ℤ). lookup (is_at (int_cmp n)) c.args.self.now) number in
    let made = ap (λ (z : ℤ). insert_entry int_cmp c.in-Some.group.now z c.args.letters) octave
    ∙ ap (λ (o : Option (List (ℤ × LetterAccidentals))). insert_entry int_cmp (unwrap_or o []) c.args.octave c.args.letters) found in
    subst (λ (t : List (ℤ × LetterAccidentals)). IfOk c.with.result (λ group. group ≡ t)) made c.with.ensures

pub returns-in-None : goal.returns-in-None
returns-in-None c =
    let octave = to_z-of_z w32 c.args.octave c.ranges.octave in
    let number = to_z-of_z w32 c.group_of.result (record { sfits = c.group_of.type_inv }) ∙ c.group_of.ensures ∙ ap group_of octave in
    let found = c.in-None.ensures ∙ ap (λ (n : ℤ). lookup (is_at (int_cmp n)) c.args.self.now) number in
    let made = ap (λ (z : ℤ). (z, c.args.letters) ∷ []) octave
    ∙ ap (λ (o : Option (List (ℤ × LetterAccidentals))). insert_entry int_cmp (unwrap_or o []) c.args.octave c.args.letters) found in
    subst (λ (t : List (ℤ × LetterAccidentals)). IfOk c.of_octave.result (λ group. group ≡ t)) made c.of_octave.ensures
