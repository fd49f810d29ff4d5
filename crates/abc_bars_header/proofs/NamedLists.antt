-- Names and what is known of each, as one list of pairs.
use Rattle.std.proofs.Common.{◌≡◌, ◌∙◌, ℕ, zero, suc, Bool, true, false, cond, List, [], ◌∷◌, ◌++◌, Option, Some, None, length, slice_get, refl, sym, ap, arith, ◌≤◌}
use Rattle.std.proofs.lemmas.Option.{slice_get-get_or}
use Rattle.std.specs.List.{AllZip, ItemBy, IsDistinct, list_any, position, zip}
use Rattle.std.specs.Option.{option_map}
use Rattle.std.specs.Map.{keys_of, values_of}
use Rattle.std.proofs.Math.ListN.{set}
use Rattle.indexmap.specs.IndexSet.{insert_key}
use Rattle.indexmap.specs.Layout.{set_value_at}
use Rattle.abc_bars_header.proofs.NamePlaces.{find_place}

-- An empty list has no two equal names.
pub distinct_none : {K : Type 0} (eq : K → K → Bool) → IsDistinct eq []
unfolding IsDistinct
distinct_none eq = tt

-- A name without a place is not among the names.
absent : {K : Type 0} (p : K → Bool) (xs : List K) → position p xs ≡ None → list_any p xs ≡ false
absent p xs none = by (list_any p xs) refl
  where
    by : (b : Bool) → list_any p xs ≡ b → list_any p xs ≡ false
    by true is = let found = find_place p xs is in absurd (cc (none, found.1))
    by false is = is

-- A name without a place is put after the others.
pub put_after : {K : Type 0} (eq : K → K → Bool) (names : List K) (name : K) → position (eq name) names ≡ None → insert_key eq names name ≡ names ++ name ∷ []
put_after eq names name none = ap (λ b. cond b names (names ++ name ∷ [])) (absent (eq name) names none)

-- Past the end there is nothing.
pub past_end : {X : Type 0} (xs : List X) (at : ℕ) → length xs ≤ at → slice_get xs at ≡ None
past_end [] at past = refl
past_end (x ∷ xs) zero past = absurd (omega arith)
past_end (x ∷ xs) (suc at) past = past_end xs at (omega arith)

-- The borrowed item of a list is the one at the index.
pub lent_at : {R X : Type 0} (now : R → X) (xs : List X) (at : ℕ) (lent : Option R) → ItemBy now xs at at lent → option_map now lent ≡ slice_get xs at
lent_at now xs at None is = sym (past_end xs at is.3)
lent_at now xs at (Some r) is = ap Some is.1 ∙ sym (slice_get-get_or xs at (now r) is.3.0)

module _ {K X : Type 0} where
  pub length_of-zip : (ks : List K) (vs : List X) → length vs ≡ length ks → length (zip ks vs) ≡ length ks
  length_of-zip [] vs even = refl
  length_of-zip (k ∷ ks) [] even = absurd (omega arith)
  length_of-zip (k ∷ ks) (v ∷ vs) even = ap suc (length_of-zip ks vs (omega arith))

  pub names_of-zip : (ks : List K) (vs : List X) → length vs ≡ length ks → keys_of (zip ks vs) ≡ ks
  names_of-zip [] vs even = refl
  names_of-zip (k ∷ ks) [] even = absurd (omega arith)
  names_of-zip (k ∷ ks) (v ∷ vs) even = ap (λ l. k ∷ l) (names_of-zip ks vs (omega arith))

  pub known_of-zip : (ks : List K) (vs : List X) → length vs ≡ length ks → values_of (zip ks vs) ≡ vs
  known_of-zip [] [] even = refl
  known_of-zip [] (v ∷ vs) even = absurd (omega arith)
  known_of-zip (k ∷ ks) [] even = absurd (omega arith)
  known_of-zip (k ∷ ks) (v ∷ vs) even = ap (λ l. v ∷ l) (known_of-zip ks vs (omega arith))

  -- The pair at a place is of the name and of what is known there.
  pub pair_at-zip : (ks : List K) (vs : List X) (at : ℕ) (k : K) (v : X) → slice_get ks at ≡ Some k → slice_get vs at ≡ Some v → slice_get (zip ks vs) at ≡ Some (k, v)
  pair_at-zip [] vs at k v here known = absurd (cc)
  pair_at-zip (x ∷ ks) [] at k v here known = absurd (cc)
  pair_at-zip (x ∷ ks) (y ∷ vs) zero k v here known = let a : x ≡ k = cc in let b : y ≡ v = cc in λ i. Some (a i, b i)
  pair_at-zip (x ∷ ks) (y ∷ vs) (suc at) k v here known = pair_at-zip ks vs at k v here known

  -- Without a name there is no pair.
  pub no_name-zip : (ks : List K) (vs : List X) (at : ℕ) → slice_get ks at ≡ None → slice_get (zip ks vs) at ≡ None
  no_name-zip [] vs at none = refl
  no_name-zip (x ∷ ks) [] at none = refl
  no_name-zip (x ∷ ks) (y ∷ vs) zero none = absurd (cc)
  no_name-zip (x ∷ ks) (y ∷ vs) (suc at) none = no_name-zip ks vs at none

  -- Without a value there is no pair.
  pub none_known-zip : (ks : List K) (vs : List X) (at : ℕ) → slice_get vs at ≡ None → slice_get (zip ks vs) at ≡ None
  none_known-zip [] vs at none = refl
  none_known-zip (x ∷ ks) [] at none = refl
  none_known-zip (x ∷ ks) (y ∷ vs) zero none = absurd (cc)
  none_known-zip (x ∷ ks) (y ∷ vs) (suc at) none = none_known-zip ks vs at none

  -- One more name with what is known.
  pub zip-one_more : (ks : List K) (vs : List X) (k : K) (v : X) → length vs ≡ length ks → zip (ks ++ k ∷ []) (vs ++ v ∷ []) ≡ zip ks vs ++ (k, v) ∷ []
  zip-one_more [] [] k v even = refl
  zip-one_more [] (y ∷ vs) k v even = absurd (omega arith)
  zip-one_more (x ∷ ks) [] k v even = absurd (omega arith)
  zip-one_more (x ∷ ks) (y ∷ vs) k v even = ap (λ l. (x, y) ∷ l) (zip-one_more ks vs k v (omega arith))

  -- The pairs that names and what is known of each make.
  pub record Seen (ks : List K) (vs : List X) (pairs : List (K × X)) : Type 0 where
    pub entries : zip ks vs ≡ pairs
    pub names : ks ≡ keys_of pairs
    pub known : vs ≡ values_of pairs
    pub names_count : length ks ≡ length pairs
    pub known_count : length vs ≡ length pairs

  pub seen : (ks : List K) (vs : List X) (pairs : List (K × X)) → zip ks vs ≡ pairs → length vs ≡ length ks → Seen ks vs pairs
  seen ks vs pairs is even =
      let count : length ks ≡ length pairs = sym (length_of-zip ks vs even) ∙ ap length is in
      record {
        entries = is;
        names = sym (names_of-zip ks vs even) ∙ ap keys_of is;
        known = sym (known_of-zip ks vs even) ∙ ap values_of is;
        names_count = count;
        known_count = even ∙ count;
      }

  -- With other things known at a place.
  pub zip-changed : (ks : List K) (vs : List X) (at : ℕ) (v : X) → zip ks (set vs at v) ≡ set_value_at (zip ks vs) at v
  zip-changed [] vs at v = refl
  zip-changed (x ∷ ks) [] at v = refl
  zip-changed (x ∷ ks) (y ∷ vs) zero v = refl
  zip-changed (x ∷ ks) (y ∷ vs) (suc at) v = ap (λ l. (x, y) ∷ l) (zip-changed ks vs at v)

  -- Copies of what is known, with the same names.
  pub zip-copies : (C : X → X → Type 0) (ks : List K) (vs ws : List X) → AllZip C vs ws → length vs ≡ length ks → AllZip (λ p q. (q.0 ≡ p.0) × C p.1 q.1) (zip ks vs) (zip ks ws)
  zip-copies C [] vs ws copies even = tt
  zip-copies C (k ∷ ks) [] ws copies even = absurd (omega arith)
  zip-copies C (k ∷ ks) (v ∷ vs) [] copies even = absurd copies
  zip-copies C (k ∷ ks) (v ∷ vs) (w ∷ ws) copies even = ((refl, copies.0), zip-copies C ks vs ws copies.1 (omega arith))
