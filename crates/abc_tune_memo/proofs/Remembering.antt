-- What is remembered of a key is what is built of its items.
use Rattle.std.proofs.Common.{◌≡◌, Bool, true, false, ◌&&◌, ◌⊎◌, inl, inr, List, [], ◌∷◌, Contains, Option, Some, None, refl, sym, ap, subst, ⊎_elim, ◌∙◌}
use Rattle.std.specs.Prelude.{IsTrue, cond, nat_eq, Result, Ok, Err, OnErr, OnOk}
use Rattle.std.specs.Cmp.Lexicographic.{pointwise, same_text}
use Rattle.std.specs.List.{flat_map}
use Rattle.std.specs.Map.{lookup, lookup_entry, remove_entry}
use Rattle.std.specs.Option.{option_map_or}
use Rattle.std.proofs.lemmas.Bool.{and_parts}
use Rattle.lru.specs.LruCache.{lru_cache, promoted, put_entries}
use Rattle.lru.proofs.CallerLemmas.{Contains-lookup, Contains-promoted, Contains-put_entries}
use Rattle.abc_tune_compiler.specs.declared.built.Built.{Built}
use Rattle.abc_tune_compiler.specs.Lawful.{AreLawful}
use Rattle.abc_fold.specs.Steps.{Steps, IsResumable, items_from}
use Rattle.abc_fold.proofs.Alike.{equal_items}
use Rattle.abc_tune_compiler.specs.Rules.{Rules}
use Rattle.abc_tune_memo.specs.declared.key.TuneKey.{TuneKey}
use Rattle.abc_tune_memo.specs.Memo.{AreItemsOf, IsBuiltOf, IsFirstOrForgotten, Remembers}
use Rattle.abc_tune_memo.proofs.Tunes.{same_cells}

-- Whether code finds two keys equal.
abbrev pub is_same : {Defaults : Type 0} → (Defaults → Defaults → Bool) → TuneKey Defaults → TuneKey Defaults → Bool
is_same test a b = test a.defaults b.defaults && pointwise nat_eq a.bytes b.bytes

-- Keys that code finds equal are equal.
same_key : {Defaults : Type 0} (test : Defaults → Defaults → Bool) → ((a b : Defaults) → IsTrue (test a b) → a ≡ b) → (a b : TuneKey Defaults) → is_same test a b ≡ true → a ≡ b
same_key test sound a b is =
    let parts = and_parts (test a.defaults b.defaults) (pointwise nat_eq a.bytes b.bytes) is in
    let one = sound a.defaults b.defaults parts.0 in
    let other = same_text a.bytes b.bytes (sym parts.1) in
    ap (λ defaults. record { defaults = defaults; bytes = a.bytes }) one ∙ ap (λ bytes. record { defaults = b.defaults; bytes = bytes }) other

some_is_none : {A : Type 0} (a : A) → Some a ≡ None → ⊥
some_is_none a is = cc

module _ {K V : Type 0} (test : K → Bool) where
  unfound : (entries : List (K × V)) → lookup test entries ≡ None → lookup_entry test entries ≡ None
  unfound [] none = refl
  unfound (e ∷ entries) none = (elim (test e.0) as (λ found. cond found (Some e.1) (lookup test entries) ≡ None → cond found (Some e) (lookup_entry test entries) ≡ None) [
    | true ↦ λ never. absurd (some_is_none e.1 never)
    | false ↦ λ others. unfound entries others
  ]) none

  -- What is not there does not go first.
  not_promoted : (entries : List (K × V)) → lookup test entries ≡ None → promoted test entries ≡ entries
  not_promoted entries none = ap (λ found. option_map_or (λ e. e ∷ remove_entry test entries) found entries) (unfound entries none)

not_some : {A : Type 0} (option : Option A) → ((a : A) → option ≡ Some a → ⊥) → option ≡ None
not_some None never = refl
not_some (Some a) never = absurd (never a refl)

-- What was tried is done, or was refused.
pub done_or_refused : {T E Done Refused : Type 0} (result : Result T E) → OnOk result Done → OnErr result Refused → Refused ⊎ Done
done_or_refused (Ok v) done refused = inr done
done_or_refused (Err e) done refused = inl refused

-- What was built of a key that was not there may be put first.
pub kept_after : {Defaults : Type 0} (test : Defaults → Defaults → Bool) (key : TuneKey Defaults) (known : Option Built) (built : Built) (old asked now : List (TuneKey Defaults × Built))
    → known ≡ lookup (is_same test key) old → ((one : Built) → known ≡ Some one → ⊥)
    → asked ≡ promoted (is_same test key) old → (now ≡ asked) ⊎ (now ≡ put_entries (is_same test) (lru_cache asked 64) key built)
    → IsFirstOrForgotten (is_same test) key built old now
kept_after test key known built old asked now found never is cases =
    let none = sym found ∙ not_some known never in
    ⊎_elim
    (λ all. inl (all ∙ is))
    (λ put. inr (put ∙ ap (λ entries. put_entries (is_same test) (lru_cache entries 64) key built) (is ∙ not_promoted (is_same test key) old none)))
    cases

-- A memo keeps its entries if the one that was asked for goes first.
pub after_asking : {State Cell Items Defaults : Type 0} (steps : Steps State Cell Items) (rules : Rules State Cell Items Defaults) (same : TuneKey Defaults → Bool)
    (entries now : List (TuneKey Defaults × Built)) → now ≡ promoted same entries → Remembers steps rules entries → Remembers steps rules now
after_asking steps rules same entries now is remembers entry in_now = remembers entry (Contains-promoted same entries entry (subst (λ l. Contains l entry) is in_now))

module _ {State Cell Items Defaults : Type 0} (steps : Steps State Cell Items) (rules : Rules State Cell Items Defaults)
    (laws : IsResumable steps) (lawful : AreLawful steps rules) (test : Defaults → Defaults → Bool) (sound : (a b : Defaults) → IsTrue (test a b) → a ≡ b) where
  -- A key has one list of items.
  same_items : (key : TuneKey Defaults) (some other : List Items) → AreItemsOf steps rules key some → AreItemsOf steps rules key other → some ≡ other
  same_items key some other one two =
      let cells = same_cells rules.class rules.cells (λ line is. (lawful.without_cells line).1 (inr is)) one.lines two.lines one.limits two.limits (one.own_bytes ∙ sym two.own_bytes) in
      let alike = lawful.alike_openings one.header two.header (one.own_defaults ∙ sym two.own_defaults) in
      one.own_items
      ∙ equal_items steps laws (rules.tune (Some one.header)) (rules.tune (Some two.header)) (flat_map rules.cells one.lines) alike
      ∙ ap (items_from steps (rules.tune (Some two.header))) cells
      ∙ sym two.own_items

  module _ (entries : List (TuneKey Defaults × Built)) (remembers : Remembers steps rules entries) (key : TuneKey Defaults) where
    -- What is found under a key was built of its items.
    found : (built : Built) → lookup (is_same test key) entries ≡ Some built → IsBuiltOf steps rules key built
    found built is =
        let at = Contains-lookup (is_same test key) entries built is in
        let own = remembers (at.0, built) at.1 in
        subst (λ k. IsBuiltOf steps rules k built) (sym (same_key test sound key at.0 at.2)) own

    -- And so it is what is built of any list of items of the key.
    pub found_values : (items : List Items) (built : Built) → AreItemsOf steps rules key items → lookup (is_same test key) entries ≡ Some built
        → (built.bytes ≡ rules.bytes items) × (built.faults ≡ rules.build_faults items)
    found_values items built own is =
        let of = found built is in
        let same = same_items key of.items items of.of_key own in
        (of.bytes ∙ ap rules.bytes same, of.faults ∙ ap rules.build_faults same)

    -- What was built of a key may be remembered under it.
    pub after_keeping : (now : List (TuneKey Defaults × Built)) (built : Built) → IsBuiltOf steps rules key built
        → (now ≡ entries) ⊎ (now ≡ put_entries (is_same test) (lru_cache entries 64) key built)
        → Remembers steps rules now
    after_keeping now built own cases entry in_now = ⊎_elim
        (λ same. remembers entry (subst (λ l. Contains l entry) same in_now))
        (λ put. ⊎_elim
        (λ was. remembers entry was)
        (λ new. ⊎_elim
        (λ (here : entry.0 ≡ key). subst (λ b. IsBuiltOf steps rules entry.0 b) (sym new.0) (subst (λ k. IsBuiltOf steps rules k built) (sym here) own))
        (λ there. subst (λ b. IsBuiltOf steps rules entry.0 b) (sym new.0) (subst (λ k. IsBuiltOf steps rules k built) (same_key test sound key entry.0 there.2) own))
        new.1)
        (Contains-put_entries (is_same test) (lru_cache entries 64) key built entry (subst (λ l. Contains l entry) put in_now)))
        cases
