use Rattle.std.proofs.Common.{◌∙◌, ap, unwrap_or, Option, int_cmp, ℤ, List}
use mir.Syntax.{w32}
use Rattle.std.proofs.lemmas.Int.{to_z-of_z}
use Rattle.std.specs.BTreeMap.{BTreeMap, get_by}
use Rattle.abc_bars_voice.specs.declared.accidentals.LetterAccidentals.{LetterAccidentals}
use Rattle.abc_bars_voice.specs.Accidentals.{letters_in, no_letters}
use Rattle.abc_bars_voice.proofs.octave_group.OctaveGroup.letters_in.Goals as goal

pub returns : goal.returns
unfolding letters_in
returns c =
    let key = to_z-of_z w32 c.args.octave c.ranges.octave in
    let found = c.copied.ensures ∙ c.get.ensures.value ∙ ap (λ (z : ℤ). get_by (int_cmp z) c.get-octaves.result.now) key in
    c.unwrap_or.ensures ∙ ap (λ (o : Option LetterAccidentals). unwrap_or o no_letters) found
    ∙ ap (λ (m : BTreeMap ℤ LetterAccidentals). letters_in m.entries c.args.octave) c.get-octaves.ensures
    ∙ ap (λ (octaves : List (ℤ × LetterAccidentals)). letters_in octaves c.args.octave) c.self.view_is
