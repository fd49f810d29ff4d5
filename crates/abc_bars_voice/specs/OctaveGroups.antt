-- How the accidentals of octaves are stored: in groups of adjacent octaves. Not in ABC 2.1.
use Rattle.std.specs.Prelude.{◌≡◌, ℤ, pos, List, [], ◌∷◌, ◌++◌, Option, Some, None, unwrap_or, refl}
use Rattle.std.specs.BTreeMap.{BTreeMap, insert_entry, is_at}
use Rattle.std.specs.Int.{int_div_euclid}
use Rattle.std.specs.Int.Signed.{◌<ℤ◌}
use Rattle.std.specs.Map.{lookup}
use Rattle.std.specs.Ordering.{int_cmp}
use Rattle.abc_bars_voice.specs.declared.accidentals.LetterAccidentals.{LetterAccidentals}
use Rattle.abc_bars_voice.specs.Equality.{Equality, by_parts, lists, options, pairs, sevens, integers}

-- The number of the group of an octave.
abbrev pub group_of : ℤ → ℤ
group_of octave = int_div_euclid octave (pos 32)

-- The groups of a map, or none without one.
abbrev pub groups_in : {V : Type 0} → Option (BTreeMap ℤ (List (ℤ × V))) → List (ℤ × List (ℤ × V))
groups_in None = []
groups_in (Some groups) = groups.entries

-- The octaves of the group of an octave.
abbrev pub group_at : {V : Type 0} → List (ℤ × List (ℤ × V)) → ℤ → List (ℤ × V)
group_at groups octave = unwrap_or (lookup (is_at (int_cmp (group_of octave))) groups) []

-- The groups with this value for an octave.
abbrev pub with_value : {V : Type 0} → List (ℤ × List (ℤ × V)) → ℤ → V → List (ℤ × List (ℤ × V))
with_value groups octave value =
    insert_entry int_cmp groups (group_of octave) (insert_entry int_cmp (group_at groups octave) octave value)

-- The octaves of all groups, one group after the other.
abbrev pub octaves_of : {V : Type 0} → List (ℤ × List (ℤ × V)) → List (ℤ × V)
octaves_of [] = []
octaves_of (group ∷ groups) = group.1 ++ octaves_of groups

-- Every key is above this one.
abbrev pub AllAbove : {V : Type 0} → ℤ → List (ℤ × V) → Type 0
AllAbove key [] = Unit {0}
AllAbove key (first ∷ entries) = (key <ℤ first.0) × AllAbove key entries

-- Octaves are of this group.
abbrev pub LieIn : {V : Type 0} → ℤ → List (ℤ × V) → Type 0
LieIn group [] = Unit {0}
LieIn group (first ∷ octaves) = (group_of first.0 ≡ group) × LieIn group octaves

-- The groups rise, and each has octaves, all of its own.
abbrev pub AreGrouped : {V : Type 0} → List (ℤ × List (ℤ × V)) → Type 0
AreGrouped [] = Unit {0}
AreGrouped (group ∷ groups) = AllAbove group.0 groups × LieIn group.0 group.1 × (¬ (group.1 ≡ [])) × AreGrouped groups

-- The accidentals on letters, letter by letter.
abbrev pub letters_equality : Equality LetterAccidentals
letters_equality = by_parts (sevens (options integers)) (λ l. (l.c, (l.d, (l.e, (l.f, (l.g, (l.a, l.b)))))))
    (λ p. record {
      c = p.0;
      d = p.1.0;
      e = p.1.1.0;
      f = p.1.1.1.0;
      g = p.1.1.1.1.0;
      a = p.1.1.1.1.1.0;
      b = p.1.1.1.1.1.1;
    }) (λ _. refl)

-- The accidentals of octaves, octave by octave.
abbrev pub octaves_equality : Equality (List (ℤ × LetterAccidentals))
octaves_equality = lists (pairs integers letters_equality)
