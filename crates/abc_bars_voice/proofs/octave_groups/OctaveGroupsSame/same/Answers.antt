use Rattle.std.proofs.Common.{◌≡◌, ◌∙◌, ap, sym, int_eq, Bool, ◌&&◌, ℤ, List, Some}
use Rattle.std.specs.Bool.{Decides}
use Rattle.std.specs.BTreeMap.{BTreeMap}
use Rattle.std.specs.Cmp.Lexicographic.{pointwise}
use Rattle.std.proofs.lemmas.Bool.Decides.{Decides-int_eq}
use Rattle.std.proofs.lemmas.Map.Lookups.{btree_map_eq-Decides}
use Rattle.abc_bars_voice.specs.declared.accidentals.LetterAccidentals.{LetterAccidentals}
use Rattle.abc_bars_voice.specs.OctaveGroups.{groups_in, octaves_equality}
use Rattle.abc_bars_voice.proofs.octave_groups.OctaveGroupsSame.same.Goals as goal

abbrev Group : Type 0
Group = ℤ × List (ℤ × LetterAccidentals)

-- What the test of two maps of groups says.
tested : (groups others : BTreeMap ℤ (List (ℤ × LetterAccidentals))) (seen with : List Group) (result : Bool)
    → groups.entries ≡ seen → others.entries ≡ with
    → result ≡ pointwise (λ (p q : Group). int_eq p.0 q.0 && octaves_equality.same p.1 q.1) groups.entries others.entries
    → Decides result (seen ≡ with)
tested groups others seen with result s w t =
    let found = btree_map_eq-Decides Decides-int_eq octaves_equality.exact groups others result t in
    (λ e. sym s ∙ found.0 e ∙ w, λ e. found.1 (s ∙ e ∙ sym w))

pub returns-in-Some-Some : goal.returns-in-Some-Some
returns-in-Some-Some c =
    tested c.get.result.now c.get-in-Some-Some.result.now c.args.self.now c.args.other.now c.eq.result
    (ap groups_in (ap Some c.get.ensures ∙ sym c.in-Some-Some.is-0) ∙ c.self.view_is)
    (ap groups_in (ap Some c.get-in-Some-Some.ensures ∙ sym c.in-Some-Some.is-1) ∙ c.other.view_is)
    c.eq.ensures
