use Rattle.std.proofs.Common.{◌∙◌, ap, sym, unwrap_or, Option, ℤ, List}
use mir.Syntax.{w32}
use Rattle.std.proofs.lemmas.Int.{to_z-of_z}
use Rattle.abc_bars_voice.specs.declared.accidentals.LetterAccidentals.{LetterAccidentals}
use Rattle.abc_bars_voice.specs.Accidentals.{letters_in, no_letters}
use Rattle.abc_bars_voice.specs.OctaveGroups.{group_at}
use Rattle.abc_bars_voice.proofs.Groups.{in_group}
use Rattle.abc_bars_voice.proofs.accidentals.OctaveAccidentals.letters_in.Goals as goal

pub returns : goal.returns
unfolding letters_in
returns c =
    c.letters_in.ensures
    ∙ ap (λ (z : ℤ). letters_in (group_at c.self.inside.groups z) z) (to_z-of_z w32 c.args.octave c.ranges.octave)
    ∙ ap (λ (o : Option LetterAccidentals). unwrap_or o no_letters) (sym (in_group c.args.octave c.self.inside.groups c.self.invariant))
    ∙ ap (λ (octaves : List (ℤ × LetterAccidentals)). letters_in octaves c.args.octave) c.self.view_is
