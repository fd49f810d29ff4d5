-- Octaves in groups are one list of octaves.
use Rattle.std.proofs.Common.{Ordering, ◌≡◌, ◌∙◌, ℤ, pos, negsuc, int_eq, int_cmp, Bool, true, false, cond, ◌/◌, List, [], ◌∷◌, ◌++◌, Option, Some, None, unwrap_or, refl, sym, ap, subst, arith}
use Rattle.std.specs.Ordering.{is_eq, match_ordering}
use Rattle.std.specs.declared.cmp.Ordering.TheVariants.{Less, Equal, Greater}
use Rattle.std.specs.BTreeMap.{insert_entry, is_at}
use Rattle.std.specs.Map.{lookup}
use Rattle.std.specs.Cmp.{int_chain}
use Rattle.std.specs.Int.Signed.{◌<ℤ◌, <ℤ_irrefl, lt_z_yes}
use Rattle.std.proofs.lemmas.Bool.{false_from_ne_true}
use Rattle.std.proofs.lemmas.Bool.Decides.{Decides-int_eq}
use Rattle.std.proofs.lemmas.Cmp.{int_ranked}
use Rattle.std.proofs.Math.Dec.{ltb→lt, lt→ltb}
use Rattle.abc_bars_voice.specs.OctaveGroups.{AllAbove, AreGrouped, LieIn, group_at, group_of, octaves_of, with_value}

-- Keys that differ are not equal by their test.
pub apart : (x y : ℤ) → ¬ (x ≡ y) → int_eq x y ≡ false
apart x y h = false_from_ne_true (int_eq x y) (λ e. h ((Decides-int_eq x y).0 e))

pub above_apart : (x y : ℤ) → x <ℤ y → int_eq x y ≡ false
above_apart x y below = apart x y (λ e. <ℤ_irrefl (subst (λ z. x <ℤ z) (sym e) below))

less_by : (x y : ℤ) (r : Ordering) → r ≡ int_cmp x y → x <ℤ y → r ≡ Less
less_by x y Less e h = refl
less_by x y Equal e h = absurd (<ℤ_irrefl (subst (λ z. x <ℤ z) (sym (int_ranked x y Equal e)) h))
less_by x y Greater e h = absurd (<ℤ_irrefl (int_chain x y x h (int_ranked x y Greater e)))

less : (x y : ℤ) → x <ℤ y → int_cmp x y ≡ Less
less x y h = less_by x y (int_cmp x y) refl h

greater_by : (x y : ℤ) (r : Ordering) → r ≡ int_cmp x y → y <ℤ x → r ≡ Greater
greater_by x y Greater e h = refl
greater_by x y Equal e h = absurd (<ℤ_irrefl (subst (λ z. y <ℤ z) (int_ranked x y Equal e) h))
greater_by x y Less e h = absurd (<ℤ_irrefl (int_chain x y x (int_ranked x y Less e) h))

greater : (x y : ℤ) → y <ℤ x → int_cmp x y ≡ Greater
greater x y h = greater_by x y (int_cmp x y) refl h

-- An octave of a lower group is lower.
by_groups : (x y : ℤ) → group_of x <ℤ group_of y → x <ℤ y
by_groups (pos a) (pos b) h = lt_z_yes (lt→ltb a b (let k = ltb→lt (a / 32) (b / 32) h.lt in omega (arith, k)))
by_groups (pos a) (negsuc b) h = absurd h.lt
by_groups (negsuc a) (pos b) h = lt_z_yes tt
by_groups (negsuc a) (negsuc b) h = lt_z_yes (lt→ltb b a (let k = ltb→lt (b / 32) (a / 32) h.lt in omega (arith, k)))

-- Keys that rise.
module _ {V : Type 0} where
  pub above_more : (low key : ℤ) (entries : List (ℤ × V)) → low <ℤ key → AllAbove key entries → AllAbove low entries
  above_more low key [] below h = tt
  above_more low key (first ∷ entries) below h = (int_chain low key first.0 below h.0, above_more low key entries below h.1)

  above_put_by : (low key : ℤ) (value : V) (first : ℤ × V) (entries : List (ℤ × V)) (r : Ordering)
      → low <ℤ key → AllAbove low (first ∷ entries) → AllAbove low (insert_entry int_cmp entries key value)
      → AllAbove low (match_ordering r ((key, value) ∷ first ∷ entries) ((first.0, value) ∷ entries) (first ∷ insert_entry int_cmp entries key value))
  above_put_by low key value first entries Less below h rest = (below, h)
  above_put_by low key value first entries Equal below h rest = h
  above_put_by low key value first entries Greater below h rest = (h.0, rest)

  pub above_put : (low key : ℤ) (value : V) (entries : List (ℤ × V)) → low <ℤ key → AllAbove low entries → AllAbove low (insert_entry int_cmp entries key value)
  above_put low key value [] below h = (below, tt)
  above_put low key value (first ∷ entries) below h =
      above_put_by low key value first entries (int_cmp key first.0) below h (above_put low key value entries below h.1)

  above_append : (low : ℤ) (entries others : List (ℤ × V)) → AllAbove low entries → AllAbove low others → AllAbove low (entries ++ others)
  above_append low [] others h k = k
  above_append low (first ∷ entries) others h k = (h.0, above_append low entries others h.1 k)

  -- Every key lies below this one.
  abbrev AllBelow : ℤ → List (ℤ × V) → Type 0
  AllBelow key [] = Unit {0}
  AllBelow key (first ∷ entries) = (first.0 <ℤ key) × AllBelow key entries

  -- What is found of a key.
  abbrev pub found : List (ℤ × V) → ℤ → Option V
  found entries key = lookup (is_at (int_cmp key)) entries

  pub none_below : (key : ℤ) (entries : List (ℤ × V)) → AllAbove key entries → found entries key ≡ None
  none_below key [] h = refl
  none_below key (first ∷ entries) h = rw (above_apart key first.0 h.0) (none_below key entries h.1)

  after_by : (first : V) (here there : Option V) (same : Bool) → (here ≡ None → there ≡ None) → cond same (Some first) here ≡ None → cond same (Some first) there ≡ None
  after_by first here there true h e = e
  after_by first here there false h e = h e

  found_after_by : (first : V) (here both there : Option V) (same : Bool) → (here ≡ None → both ≡ there) → cond same (Some first) here ≡ None → cond same (Some first) both ≡ there
  found_after_by first here both there true h e = cc
  found_after_by first here both there false h e = h e

  found_after : (entries others : List (ℤ × V)) (key : ℤ) → found entries key ≡ None → found (entries ++ others) key ≡ found others key
  found_after [] others key h = refl
  found_after (first ∷ entries) others key h =
      found_after_by first.1 (found entries key) (found (entries ++ others) key) (found others key) (int_eq key first.0) (found_after entries others key) h

  found_front : (entries others : List (ℤ × V)) (key : ℤ) → found others key ≡ None → found (entries ++ others) key ≡ found entries key
  found_front [] others key h = h
  found_front (first ∷ entries) others key h = ap (cond (int_eq key first.0) (Some first.1)) (found_front entries others key h)

  -- An entry is put before those above it, after those below it, and among the others.
  put_above : (entries : List (ℤ × V)) (key : ℤ) (value : V) → AllAbove key entries → insert_entry int_cmp entries key value ≡ (key, value) ∷ entries
  put_above [] key value h = refl
  put_above (first ∷ entries) key value h = rw (less key first.0 h.0) refl

  put_after : (entries others : List (ℤ × V)) (key : ℤ) (value : V) → AllBelow key entries
      → insert_entry int_cmp (entries ++ others) key value ≡ entries ++ insert_entry int_cmp others key value
  put_after [] others key value h = refl
  put_after (first ∷ entries) others key value h = rw (greater key first.0 h.0) (ap (λ rest. first ∷ rest) (put_after entries others key value h.1))

  put_front_by : (first : ℤ × V) (entries others : List (ℤ × V)) (key : ℤ) (value : V) (r : Ordering)
      → insert_entry int_cmp (entries ++ others) key value ≡ insert_entry int_cmp entries key value ++ others
      → match_ordering r ((key, value) ∷ first ∷ (entries ++ others)) ((first.0, value) ∷ (entries ++ others)) (first ∷ insert_entry int_cmp (entries ++ others) key value)
      ≡ match_ordering r ((key, value) ∷ first ∷ entries) ((first.0, value) ∷ entries) (first ∷ insert_entry int_cmp entries key value) ++ others
  put_front_by first entries others key value Less rest = refl
  put_front_by first entries others key value Equal rest = refl
  put_front_by first entries others key value Greater rest = ap (λ more. first ∷ more) rest

  put_front : (entries others : List (ℤ × V)) (key : ℤ) (value : V) → AllAbove key others
      → insert_entry int_cmp (entries ++ others) key value ≡ insert_entry int_cmp entries key value ++ others
  put_front [] others key value h = put_above others key value h
  put_front (first ∷ entries) others key value h =
      put_front_by first entries others key value (int_cmp key first.0) (put_front entries others key value h)

-- Octaves of one group.
module _ {V : Type 0} where
  above_lie : (octave group : ℤ) (octaves : List (ℤ × V)) → group_of octave <ℤ group → LieIn group octaves → AllAbove octave octaves
  above_lie octave group [] below h = tt
  above_lie octave group (first ∷ octaves) below h =
      (by_groups octave first.0 (subst (λ g. group_of octave <ℤ g) (sym h.0) below), above_lie octave group octaves below h.1)

  below_lie : (octave group : ℤ) (octaves : List (ℤ × V)) → group <ℤ group_of octave → LieIn group octaves → AllBelow octave octaves
  below_lie octave group [] above h = tt
  below_lie octave group (first ∷ octaves) above h =
      (by_groups first.0 octave (subst (λ g. g <ℤ group_of octave) (sym h.0) above), below_lie octave group octaves above h.1)

  none_elsewhere : (octave group : ℤ) (octaves : List (ℤ × V)) → ¬ (group_of octave ≡ group) → LieIn group octaves → found octaves octave ≡ None
  none_elsewhere octave group [] other h = refl
  none_elsewhere octave group (first ∷ octaves) other h =
      rw (apart octave first.0 (λ e. other (ap group_of e ∙ h.0))) (none_elsewhere octave group octaves other h.1)

  lie_put_by : (group octave : ℤ) (value : V) (first : ℤ × V) (octaves : List (ℤ × V)) (r : Ordering) → group_of octave ≡ group
      → LieIn group (first ∷ octaves) → LieIn group (insert_entry int_cmp octaves octave value)
      → LieIn group (match_ordering r ((octave, value) ∷ first ∷ octaves) ((first.0, value) ∷ octaves) (first ∷ insert_entry int_cmp octaves octave value))
  lie_put_by group octave value first octaves Less is h rest = (is, h)
  lie_put_by group octave value first octaves Equal is h rest = h
  lie_put_by group octave value first octaves Greater is h rest = (h.0, rest)

  lie_put : (group octave : ℤ) (value : V) (octaves : List (ℤ × V)) → group_of octave ≡ group → LieIn group octaves → LieIn group (insert_entry int_cmp octaves octave value)
  lie_put group octave value [] is h = (is, tt)
  lie_put group octave value (first ∷ octaves) is h =
      lie_put_by group octave value first octaves (int_cmp octave first.0) is h (lie_put group octave value octaves is h.1)

  some_put_by : (octave : ℤ) (value : V) (first : ℤ × V) (octaves more : List (ℤ × V)) (r : Ordering)
      → ¬ (match_ordering r ((octave, value) ∷ first ∷ octaves) ((first.0, value) ∷ octaves) (first ∷ more) ≡ [])
  some_put_by octave value first octaves more Less e = cc
  some_put_by octave value first octaves more Equal e = cc
  some_put_by octave value first octaves more Greater e = cc

  some_put : (octave : ℤ) (value : V) (octaves : List (ℤ × V)) → ¬ (insert_entry int_cmp octaves octave value ≡ [])
  some_put octave value [] e = cc
  some_put octave value (first ∷ octaves) e = some_put_by octave value first octaves (insert_entry int_cmp octaves octave value) (int_cmp octave first.0) e

  -- Above a group there is no octave of it, nor a lower one.
  none_above : (octave group : ℤ) (groups : List (ℤ × List (ℤ × V))) → group_of octave ≡ group → AllAbove group groups → AreGrouped groups → found (octaves_of groups) octave ≡ None
  none_above octave group [] is above h = refl
  none_above octave group (first ∷ groups) is above h =
      let other : ¬ (group_of octave ≡ first.0) = λ e. <ℤ_irrefl (subst (λ g. group <ℤ g) (sym e ∙ is) above.0) in
      found_after first.1 (octaves_of groups) octave (none_elsewhere octave first.0 first.1 other h.1)
      ∙ none_above octave group groups is above.1 h.3

  all_above : (octave : ℤ) (groups : List (ℤ × List (ℤ × V))) → AllAbove (group_of octave) groups → AreGrouped groups → AllAbove octave (octaves_of groups)
  all_above octave [] above h = tt
  all_above octave (first ∷ groups) above h =
      above_append octave first.1 (octaves_of groups) (above_lie octave first.0 first.1 above.0 h.1) (all_above octave groups above.1 h.3)

  -- What is found of an octave is found in its group.
  in_group_by : (octave : ℤ) (group : ℤ × List (ℤ × V)) (groups : List (ℤ × List (ℤ × V))) (same : Bool) → int_eq (group_of octave) group.0 ≡ same → AreGrouped (group ∷ groups)
      → found (octaves_of groups) octave ≡ found (group_at groups octave) octave
      → found (group.1 ++ octaves_of groups) octave ≡ found (unwrap_or (cond same (Some group.1) (lookup (is_at (int_cmp (group_of octave))) groups)) []) octave
  in_group_by octave group groups true e h rest =
      found_front group.1 (octaves_of groups) octave (none_above octave group.0 groups ((Decides-int_eq (group_of octave) group.0).0 e) h.0 h.3)
  in_group_by octave group groups false e h rest =
      let other : ¬ (group_of octave ≡ group.0) = λ is. cc (e, (Decides-int_eq (group_of octave) group.0).1 is) in
      found_after group.1 (octaves_of groups) octave (none_elsewhere octave group.0 group.1 other h.1) ∙ rest

  pub in_group : (octave : ℤ) (groups : List (ℤ × List (ℤ × V))) → AreGrouped groups → found (octaves_of groups) octave ≡ found (group_at groups octave) octave
  in_group octave [] h = refl
  in_group octave (group ∷ groups) h =
      in_group_by octave group groups (int_eq (group_of octave) group.0) refl h (in_group octave groups h.3)

  -- The octaves of the group of an octave, by how the first of the groups compares to it.
  abbrev own_by : Ordering → List (ℤ × V) → List (ℤ × List (ℤ × V)) → ℤ → List (ℤ × V)
  own_by r first groups octave = unwrap_or (cond (is_eq r) (Some first) (lookup (is_at (int_cmp (group_of octave))) groups)) []

  -- The groups after a value is put, by how the first of them compares to that of the octave.
  abbrev put_by : Ordering → ℤ → V → ℤ × List (ℤ × V) → List (ℤ × List (ℤ × V)) → List (ℤ × List (ℤ × V))
  put_by r octave value first groups =
      let own = insert_entry int_cmp (own_by r first.1 groups octave) octave value in
      match_ordering r ((group_of octave, own) ∷ first ∷ groups) ((first.0, own) ∷ groups) (first ∷ insert_entry int_cmp groups (group_of octave) own)

  none_of_group : (octave : ℤ) (groups : List (ℤ × List (ℤ × V))) → AllAbove (group_of octave) groups → group_at groups octave ≡ []
  none_of_group octave groups above = ap (λ (o : Option (List (ℤ × V))). unwrap_or o []) (none_below (group_of octave) groups above)

  -- A value is put at the place that it would have in the one list.
  one_list_by : (octave : ℤ) (value : V) (first : ℤ × List (ℤ × V)) (groups : List (ℤ × List (ℤ × V))) (r : Ordering) → r ≡ int_cmp (group_of octave) first.0 → AreGrouped (first ∷ groups)
      → octaves_of (with_value groups octave value) ≡ insert_entry int_cmp (octaves_of groups) octave value
      → octaves_of (put_by r octave value first groups) ≡ insert_entry int_cmp (first.1 ++ octaves_of groups) octave value
  one_list_by octave value first groups Less e h rest =
      let below : group_of octave <ℤ first.0 = int_ranked (group_of octave) first.0 Less e in
      let none = none_of_group octave groups (above_more (group_of octave) first.0 groups below h.0) in
      let all = all_above octave (first ∷ groups) (below, above_more (group_of octave) first.0 groups below h.0) h in
      ap (λ (own : List (ℤ × V)). insert_entry int_cmp own octave value ++ (first.1 ++ octaves_of groups)) none
      ∙ sym (put_above (first.1 ++ octaves_of groups) octave value all)
  one_list_by octave value first groups Equal e h rest =
      let is : group_of octave ≡ first.0 = int_ranked (group_of octave) first.0 Equal e in
      sym (put_front first.1 (octaves_of groups) octave value (all_above octave groups (subst (λ g. AllAbove g groups) (sym is) h.0) h.3))
  one_list_by octave value first groups Greater e h rest =
      let above : first.0 <ℤ group_of octave = int_ranked (group_of octave) first.0 Greater e in
      ap (λ more. first.1 ++ more) rest ∙ sym (put_after first.1 (octaves_of groups) octave value (below_lie octave first.0 first.1 above h.1))

  pub one_list : (octave : ℤ) (value : V) (groups : List (ℤ × List (ℤ × V))) → AreGrouped groups → octaves_of (with_value groups octave value) ≡ insert_entry int_cmp (octaves_of groups) octave value
  one_list octave value [] h = refl
  one_list octave value (first ∷ groups) h =
      one_list_by octave value first groups (int_cmp (group_of octave) first.0) refl h (one_list octave value groups h.3)

  -- List (ℤ × List (ℤ × V)) stay groups.
  still_grouped_by : (octave : ℤ) (value : V) (first : ℤ × List (ℤ × V)) (groups : List (ℤ × List (ℤ × V))) (r : Ordering) → r ≡ int_cmp (group_of octave) first.0 → AreGrouped (first ∷ groups)
      → AreGrouped (with_value groups octave value) → AreGrouped (put_by r octave value first groups)
  still_grouped_by octave value first groups Less e h rest =
      let below : group_of octave <ℤ first.0 = int_ranked (group_of octave) first.0 Less e in
      let more = above_more (group_of octave) first.0 groups below h.0 in
      let none = none_of_group octave groups more in
      ((below, more), lie_put (group_of octave) octave value (group_at groups octave) refl (subst (LieIn (group_of octave)) (sym none) tt), some_put octave value (group_at groups octave), h)
  still_grouped_by octave value first groups Equal e h rest =
      let is : group_of octave ≡ first.0 = int_ranked (group_of octave) first.0 Equal e in
      (h.0, lie_put first.0 octave value first.1 is h.1, some_put octave value first.1, h.3)
  still_grouped_by octave value first groups Greater e h rest =
      let above : first.0 <ℤ group_of octave = int_ranked (group_of octave) first.0 Greater e in
      (above_put first.0 (group_of octave) (insert_entry int_cmp (group_at groups octave) octave value) groups above h.0, h.1, h.2, rest)

  pub still_grouped : (octave : ℤ) (value : V) (groups : List (ℤ × List (ℤ × V))) → AreGrouped groups → AreGrouped (with_value groups octave value)
  still_grouped octave value [] h = (tt, (refl, tt), some_put octave value [], tt)
  still_grouped octave value (first ∷ groups) h =
      still_grouped_by octave value first groups (int_cmp (group_of octave) first.0) refl h (still_grouped octave value groups h.3)

  -- List (ℤ × V) lie in one way in groups.
  abbrev BeginsElsewhere : ℤ → List (ℤ × V) → Type 0
  BeginsElsewhere group [] = Unit {0}
  BeginsElsewhere group (first ∷ octaves) = ¬ (group_of first.0 ≡ group)

  begins_elsewhere_in : (group : ℤ) (first : ℤ × List (ℤ × V)) (rest : List (ℤ × V)) → group <ℤ first.0 → LieIn first.0 first.1 → ¬ (first.1 ≡ []) → BeginsElsewhere group (first.1 ++ rest)
  begins_elsewhere_in group (number, []) rest above lie some = absurd (some refl)
  begins_elsewhere_in group (number, octave ∷ octaves) rest above lie some = λ e. <ℤ_irrefl (subst (λ g. group <ℤ g) (sym lie.0 ∙ e) above)

  begins_elsewhere : (group : ℤ) (groups : List (ℤ × List (ℤ × V))) → AllAbove group groups → AreGrouped groups → BeginsElsewhere group (octaves_of groups)
  begins_elsewhere group [] above h = tt
  begins_elsewhere group (first ∷ groups) above h = begins_elsewhere_in group first (octaves_of groups) above.0 h.1 h.2

  first_same : (x y : ℤ × V) (xs ys : List (ℤ × V)) → x ∷ xs ≡ y ∷ ys → x ≡ y
  first_same x y xs ys e = cc

  rest_same : (x y : ℤ × V) (xs ys : List (ℤ × V)) → x ∷ xs ≡ y ∷ ys → xs ≡ ys
  rest_same x y xs ys e = cc

  no_more : (group : ℤ) (octave : ℤ × V) (more rest : List (ℤ × V)) → group_of octave.0 ≡ group → BeginsElsewhere group rest → rest ≡ octave ∷ more → ⊥
  no_more group octave more [] is begins e = cc
  no_more group octave more (first ∷ rest) is begins e = begins (ap (λ (o : ℤ × V). group_of o.0) (first_same first octave rest more e) ∙ is)

  parted : (group : ℤ) (xs ys more others : List (ℤ × V)) → LieIn group xs → LieIn group ys → BeginsElsewhere group more → BeginsElsewhere group others
      → xs ++ more ≡ ys ++ others → (xs ≡ ys) × (more ≡ others)
  parted group [] [] more others lie also begins too e = (refl, e)
  parted group [] (y ∷ ys) more others lie also begins too e = absurd (no_more group y (ys ++ others) more also.0 begins e)
  parted group (x ∷ xs) [] more others lie also begins too e = absurd (no_more group x (xs ++ more) others lie.0 too (sym e))
  parted group (x ∷ xs) (y ∷ ys) more others lie also begins too e =
      let rest = parted group xs ys more others lie.1 also.1 begins too (rest_same x y (xs ++ more) (ys ++ others) e) in
      let first = first_same x y (xs ++ more) (ys ++ others) e in
      ((λ i. first i ∷ rest.0 i), rest.1)

  not_none : (octaves more : List (ℤ × V)) → ¬ (octaves ≡ []) → ¬ (octaves ++ more ≡ [])
  not_none [] more some e = some refl
  not_none (first ∷ octaves) more some e = cc

  same_number : (first other : ℤ × List (ℤ × V)) (more others : List (ℤ × V)) → LieIn first.0 first.1 → LieIn other.0 other.1 → ¬ (first.1 ≡ []) → ¬ (other.1 ≡ [])
      → first.1 ++ more ≡ other.1 ++ others → first.0 ≡ other.0
  same_number (number, []) other more others lie also some too e = absurd (some refl)
  same_number (number, octave ∷ octaves) (with, []) more others lie also some too e = absurd (too refl)
  same_number (number, octave ∷ octaves) (with, octave2 ∷ octaves2) more others lie also some too e =
      sym lie.0 ∙ ap (λ (o : ℤ × V). group_of o.0) (first_same octave octave2 (octaves ++ more) (octaves2 ++ others) e) ∙ also.0

  pub one_grouping : (groups others : List (ℤ × List (ℤ × V))) → AreGrouped groups → AreGrouped others → octaves_of groups ≡ octaves_of others → groups ≡ others
  one_grouping [] [] h k e = refl
  one_grouping [] (other ∷ others) h k e = absurd (not_none other.1 (octaves_of others) k.2 (sym e))
  one_grouping (first ∷ groups) [] h k e = absurd (not_none first.1 (octaves_of groups) h.2 e)
  one_grouping (first ∷ groups) (other ∷ others) h k e =
      let number = same_number first other (octaves_of groups) (octaves_of others) h.1 k.1 h.2 k.2 e in
      let above : AllAbove first.0 others = subst (λ g. AllAbove g others) (sym number) k.0 in
      let lie : LieIn first.0 other.1 = subst (λ g. LieIn g other.1) (sym number) k.1 in
      let parts = parted first.0 first.1 other.1 (octaves_of groups) (octaves_of others) h.1 lie (begins_elsewhere first.0 groups h.0 h.3) (begins_elsewhere first.0 others above k.3) e in
      let rest = one_grouping groups others h.3 k.3 parts.1 in
      λ i. (number i, parts.0 i) ∷ rest i
