use Rattle.std.proofs.Common.{◌∙◌, ap, unwrap_or, Option, int_cmp, ℤ, List, []}
use mir.Syntax.{w32}
use Rattle.std.proofs.lemmas.Int.{to_z-of_z}
use Rattle.std.specs.BTreeMap.{is_at}
use Rattle.std.specs.Map.{lookup}
use Rattle.abc_bars_voice.specs.declared.accidentals.LetterAccidentals.{LetterAccidentals}
use Rattle.abc_bars_voice.specs.Accidentals.{letters_in}
use Rattle.abc_bars_voice.specs.OctaveGroups.{group_of}
use Rattle.abc_bars_voice.proofs.octave_groups.OctaveGroups.letters_in.Goals as goal

pub returns-in-Some : goal.returns-in-Some
returns-in-Some c =
    let octave = to_z-of_z w32 c.args.octave c.ranges.octave in
    let number = to_z-of_z w32 c.group_of.result (record { sfits = c.group_of.type_inv }) ∙ c.group_of.ensures ∙ ap group_of octave in
    let found = c.in-Some.ensures ∙ ap (λ (n : ℤ). lookup (is_at (int_cmp n)) c.args.self.now) number in
    c.letters_in.ensures ∙ ap (letters_in c.in-Some.group.now) octave
    ∙ ap (λ (o : Option (List (ℤ × LetterAccidentals))). letters_in (unwrap_or o []) c.args.octave) found

pub returns-in-None : goal.returns-in-None
unfolding letters_in
returns-in-None c =
    let octave = to_z-of_z w32 c.args.octave c.ranges.octave in
    let number = to_z-of_z w32 c.group_of.result (record { sfits = c.group_of.type_inv }) ∙ c.group_of.ensures ∙ ap group_of octave in
    let found = c.in-None.ensures ∙ ap (λ (n : ℤ). lookup (is_at (int_cmp n)) c.args.self.now) number in
    ap (λ (o : Option (List (ℤ × LetterAccidentals))). letters_in (unwrap_or o []) c.args.octave) found
