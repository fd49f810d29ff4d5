use Rattle.std.proofs.Common.{◌∙◌, ap, sym, subst, ℤ, List, int_cmp}
use mir.Syntax.{w8, w32}
use Rattle.std.proofs.lemmas.Int.{to_z-of_z}
use Rattle.std.specs.BTreeMap.{insert_entry}
use Rattle.abc_bars_voice.specs.declared.accidentals.LetterAccidentals.{LetterAccidentals}
use Rattle.abc_bars_voice.specs.Accidentals.{letters_in, with_letter, with_octave}
use Rattle.abc_bars_voice.specs.OctaveGroups.{AreGrouped, octaves_of, with_value}
use Rattle.abc_bars_voice.proofs.Groups.{one_list, still_grouped}
use Rattle.abc_bars_voice.proofs.accidentals.OctaveAccidentals.set.Goals as goal

pub invariant_of-self : goal.invariant_of-self
invariant_of-self c =
    let made = c.in_ok-self-inside.ensures ∙ ap (λ (z : ℤ). with_value c.self.inside.groups z c.set.new.self) (to_z-of_z w32 c.args.octave c.ranges.octave) in
    subst AreGrouped (sym made) (still_grouped c.args.octave c.set.new.self c.self.inside.groups c.self.invariant)

pub returns-clause-ok : goal.returns-clause-ok
unfolding with_octave
returns-clause-ok c =
    let octave = to_z-of_z w32 c.args.octave c.ranges.octave in
    let made = c.in_ok-self-inside.ensures ∙ ap (λ (z : ℤ). with_value c.self.inside.groups z c.set.new.self) octave in
    let letters = c.set.ensures ∙ ap (with_letter c.letters_in-letters.result c.args.letter) (to_z-of_z w8 c.args.by c.ranges.by)
    ∙ ap (λ (l : LetterAccidentals). with_letter l c.args.letter c.args.by) (c.letters_in-letters.ensures ∙ ap (letters_in c.args.self.now) octave) in
    ap octaves_of made ∙ one_list c.args.octave c.set.new.self c.self.inside.groups c.self.invariant
    ∙ ap (λ (octaves : List (ℤ × LetterAccidentals)). insert_entry int_cmp octaves c.args.octave c.set.new.self) c.self.view_is
    ∙ ap (λ (l : LetterAccidentals). insert_entry int_cmp c.args.self.now c.args.octave l) letters
