-- What differs between the files of two lists of tunes.
use Rattle.std.proofs.Common.{◌≡◌, ℕ, ◌+◌, ◌-◌, ◌<◌, ◌≤◌, ◌==◌, eqb-true, eq-eqb, Bool, true, false, not, cond, List, [], ◌∷◌}
use Rattle.std.proofs.Common.{◌++◌, take, drop, Contains, filter, ◌↔◌, ◌⊎◌, inl, inr, ⊎_elim, Option, Some, None, IsSome, is_some}
use Rattle.std.proofs.Common.{option_and_then, slice_get, refl, sym, ap, ◌∙◌, subst, arith}
use Rattle.std.specs.List.Sorted.{IsStrictlyIncreasing, IsStrictlySortedBy}
use Rattle.std.specs.Map.{keys_of}
use Rattle.std.specs.Option.{option_eq}
use Rattle.std.specs.Ordering.{nat_cmp}
use Rattle.std.specs.Str.{bytes_eq}
use Rattle.std.specs.declared.cmp.Ordering.TheVariants.{Equal}
use Rattle.std.proofs.lemmas.Bool.{cases_lt, false≢true}
use Rattle.std.proofs.lemmas.Cmp.{nat_cmp_total, ranked}
use Rattle.std.proofs.lemmas.List.Elements.{filter_agree, Contains-append_left, Contains-push, Contains-push_cases}
use Rattle.std.proofs.lemmas.Map.Keys.{sorted_from_strictly_increasing}
use Rattle.std.proofs.lemmas.Slice.Eq.{bytes_eq-Decides}
use Rattle.abc_live_index.proofs.Lists.{same_before, same_after}
use Rattle.abc_live_index.proofs.Orders.{one_order}
use Rattle.abc_live_index.proofs.FileOwners.{Answers, file_by_owner, keys_agree, owner_answers}
use Rattle.abc_live_index.specs.Outputs.{files_of}
use Rattle.abc_live_index.specs.Owners.{Owners, bytes_at, claims_of, owner_at, owners_after, owners_of}
use Rattle.abc_live_index.specs.Report.{changed_number_at, changed_number_by}
use Rattle.abc_live_index.specs.declared.output.Output.{Output}
use Rattle.abc_tune_compiler.proofs.Difference.{from_numbers, rising_written, to_numbers}
use Rattle.abc_tune_compiler.proofs.Members.{contains_head, contains_none, from_filter, to_filter, from_sorted, to_sorted}
use Rattle.abc_tune_compiler.specs.Files.{file_at, removed_numbers, written_numbers}
use Rattle.abc_tune_compiler.specs.Sort.{sort_dedup}

-- the meaning of the test of bytes
same_bytes : (a b : Option (List ℕ)) → a ≡ b → option_eq bytes_eq a b ≡ true
same_bytes None None e = refl
same_bytes None (Some y) e = absurd cc
same_bytes (Some x) None e = absurd cc
same_bytes (Some x) (Some y) e = let one : x ≡ y = cc in (bytes_eq-Decides x y).1 one

pub differs_not : (a b : Option (List ℕ)) → a ≡ b → false ≡ not (option_eq bytes_eq a b)
differs_not a b same = sym (ap not (same_bytes a b same))

not_true : (b : Bool) → not b ≡ true → b ≡ false
not_true true e = absurd (false≢true e)
not_true false e = refl

no_elements : (xs : List ℕ) → ((n : ℕ) → Contains xs n → ⊥) → [] ≡ xs
no_elements [] none = refl
no_elements (x ∷ xs) none = absurd (none x (contains_head x xs x refl))

apart : (x y : ℕ) → nat_cmp x y ≡ Equal → x ≡ y
apart x y e = ranked x y Equal (sym e)

-- numbers in order are the same numbers
sorted_members : (found : List ℕ) (n : ℕ) → Contains (sort_dedup nat_cmp found) n ↔ Contains found n
sorted_members found n = (
  (λ h. ⊎_elim (λ early. contains_none n early) (λ late. late) (from_sorted nat_cmp [] found n h)),
  λ h. to_sorted nat_cmp apart [] found n (inr h),
)

lt_or_same : (m n : ℕ) → m < n + 1 → (m < n) ⊎ (m ≡ n)
lt_or_same m n order = elim (cases_lt m n) [ inl less ↦ inl less | inr following ↦ inr (omega (arith, order, following)) ]

-- the numbers that have an owner are those that have a file
pub keys_of-owners : (outputs : List Output) (owners : Owners) → owners ≡ owners_of outputs → keys_of owners ≡ keys_of (files_of outputs)
keys_of-owners outputs owners are = ap (λ (o : Owners). keys_of o) are ∙ keys_agree outputs

gone_step : (outputs : List Output) (n : ℕ) (owner : Option ℕ) (file : Option (List ℕ)) → Answers outputs n owner file → not (is_some owner) ≡ not (is_some file)
gone_step outputs n None None says = refl
gone_step outputs n None (Some bytes) says = absurd says
gone_step outputs n (Some place) None says = absurd says
gone_step outputs n (Some place) (Some bytes) says = refl

-- a number that has no owner has no file
owner_gone : (outputs : List Output) (n : ℕ) (owners : Owners) → owners ≡ owners_of outputs → not (is_some (owner_at owners n)) ≡ not (is_some (file_at (files_of outputs) n))
owner_gone outputs n owners are =
    ap (λ (o : Owners). not (is_some (owner_at o n))) are ∙ gone_step outputs n (owner_at (owners_of outputs) n) (file_at (files_of outputs) n) (owner_answers outputs n)

-- the numbers that have no owner any more have lost their file
pub filter-owners_lost : (before after : List Output) (numbers : List ℕ) (owners : Owners) → owners ≡ owners_of after → numbers ≡ keys_of (files_of before)
    → filter (λ n. not (is_some (owner_at owners n))) numbers ≡ removed_numbers (files_of before) (files_of after)
unfolding removed_numbers
filter-owners_lost before after numbers owners are all =
    filter_agree (λ n. not (is_some (owner_at owners n))) (λ n. not (is_some (file_at (files_of after) n))) (λ n. owner_gone after n owners are) numbers
    ∙ ap (filter (λ n. not (is_some (file_at (files_of after) n)))) all

module _ (before after : List Output) where
  -- a number whose owner is the same tune has the same file
  pub owner_kept : (n : ℕ) (old new : Option ℕ) (first last : Owners) → first ≡ owners_of before → last ≡ owners_of after → old ≡ owner_at first n → new ≡ owner_at last n
      → option_and_then (bytes_at before) old ≡ option_and_then (bytes_at after) new → false ≡ not (option_eq bytes_eq (file_at (files_of before) n) (file_at (files_of after) n))
  owner_kept n old new first last early late is was same =
      differs_not (file_at (files_of before) n) (file_at (files_of after) n)
      (sym (file_by_owner before n) ∙ ap (λ (o : Owners). option_and_then (bytes_at before) (owner_at o n)) (sym early) ∙ ap (option_and_then (bytes_at before)) (sym is) ∙ same
      ∙ ap (option_and_then (bytes_at after)) was ∙ ap (λ (o : Owners). option_and_then (bytes_at after) (owner_at o n)) late ∙ file_by_owner after n)

  -- else its files are what the two give
  pub not_owner_differs : (n : ℕ) (old new : Option ℕ) (first last : Owners) → first ≡ owners_of before → last ≡ owners_of after → old ≡ owner_at first n → new ≡ owner_at last n
      → not (option_eq bytes_eq (option_and_then (bytes_at before) old) (option_and_then (bytes_at after) new)) ≡ not (option_eq bytes_eq (file_at (files_of before) n) (file_at (files_of after) n))
  not_owner_differs n old new first last early late is was =
      let one : option_and_then (bytes_at before) old ≡ file_at (files_of before) n =
      ap (option_and_then (bytes_at before)) is ∙ ap (λ (o : Owners). option_and_then (bytes_at before) (owner_at o n)) early ∙ file_by_owner before n in
      let other : option_and_then (bytes_at after) new ≡ file_at (files_of after) n =
      ap (option_and_then (bytes_at after)) was ∙ ap (λ (o : Owners). option_and_then (bytes_at after) (owner_at o n)) late ∙ file_by_owner after n in
      ap (λ f. not (option_eq bytes_eq f (option_and_then (bytes_at after) new))) one ∙ ap (λ f. not (option_eq bytes_eq (file_at (files_of before) n) f)) other

  module _ (owners : Owners) where
    -- the meaning of a number that is found
    pub record Rewrites (place n : ℕ) : Type 0 where
      pub output : Output
      pub here : slice_get after place ≡ Some output
      pub addresses_from : output.number ≡ n
      pub owns : owner_at owners n ≡ Some place
      pub differs : option_eq bytes_eq (bytes_at before place) output.built.bytes ≡ false

    owner_is : (owner : Option ℕ) (place : ℕ) → option_eq ◌==◌ owner (Some place) ≡ true → owner ≡ Some place
    owner_is None place e = absurd (false≢true e)
    owner_is (Some p) place e = ap Some (eqb-true p place e)

    read_by : (place n : ℕ) (output : Output) → slice_get after place ≡ Some output → (own same : Bool) → option_eq ◌==◌ (owner_at owners output.number) (Some place) ≡ own
        → option_eq bytes_eq (bytes_at before place) output.built.bytes ≡ same → cond own (cond same None (Some output.number)) None ≡ Some n → Rewrites place n
    read_by place n output here true true mine one e = absurd cc
    read_by place n output here true false mine one e =
        let is : output.number ≡ n = cc in
        record { output = output; here = here; addresses_from = is; owns = ap (owner_at owners) (sym is) ∙ owner_is (owner_at owners output.number) place mine; differs = one }
    read_by place n output here false same mine one e = absurd cc

    read_at : (place n : ℕ) (found : Option Output) → slice_get after place ≡ found → option_and_then (changed_number_by before owners place) found ≡ Some n → Rewrites place n
    read_at place n None here e = absurd cc
    read_at place n (Some output) here e =
        read_by place n output here (option_eq ◌==◌ (owner_at owners output.number) (Some place)) (option_eq bytes_eq (bytes_at before place) output.built.bytes) refl refl e

    rewrites : (place n : ℕ) → changed_number_at before after owners place ≡ Some n → Rewrites place n
    rewrites place n e = read_at place n (slice_get after place) refl e

    rewritten_there : (place n : ℕ) → Rewrites place n → changed_number_at before after owners place ≡ Some n
    rewritten_there place n r =
        ap (option_and_then (changed_number_by before owners place)) r.here
        ∙ ap (λ (own : Option ℕ). cond (option_eq ◌==◌ own (Some place))
        (cond (option_eq bytes_eq (bytes_at before place) r.output.built.bytes) None (Some r.output.number)) None) (ap (owner_at owners) r.addresses_from ∙ r.owns)
        ∙ ap (λ b. cond b (cond (option_eq bytes_eq (bytes_at before place) r.output.built.bytes) None (Some r.output.number)) None) (eq-eqb place place refl)
        ∙ ap (λ b. cond b None (Some r.output.number)) r.differs
        ∙ ap Some r.addresses_from

    -- the numbers found from one place to another
    abbrev pub Within : ℕ → ℕ → ℕ → Type 0
    Within from to n = (place : ℕ) × (from ≤ place) × (place < to) × (changed_number_at before after owners place ≡ Some n)

    pub record AreFound (from to : ℕ) (found : List ℕ) : Type 0 where
      pub sound : (n : ℕ) → Contains found n → Within from to n
      pub whole : (n : ℕ) → Within from to n → Contains found n

    pub found_none : (from : ℕ) → AreFound from from []
    found_none from = record {
      sound = λ n h. contains_none n h;
      whole = λ n w. absurd (omega (arith, w.1, w.2));
    }

    further : (from to n : ℕ) → Within from to n → Within from (to + 1) n
    further from to n w = (w.0, w.1, omega (arith, w.2), w.3)

    last_none : (from to n : ℕ) → changed_number_at before after owners to ≡ None → Within from (to + 1) n → Within from to n
    last_none from to n none w =
        elim (lt_or_same w.0 to (omega (arith, w.2))) [
          | inl less ↦ (w.0, w.1, less, w.3)
          | inr same ↦ absurd (let e = sym none ∙ ap (changed_number_at before after owners) (sym same) ∙ w.3 in cc)
        ]

    pub found_same : (from to : ℕ) (found : List ℕ) → changed_number_at before after owners to ≡ None → AreFound from to found → AreFound from (to + 1) found
    found_same from to found none so = record {
      sound = λ n h. further from to n (so.sound n h);
      whole = λ n w. so.whole n (last_none from to n none w);
    }

    found_last : (from to n m : ℕ) (found : List ℕ) → changed_number_at before after owners to ≡ Some m → AreFound from to found
        → (w : Within from (to + 1) n) → (w.0 < to) ⊎ (w.0 ≡ to) → Contains (found ++ m ∷ []) n
    found_last from to n m found here so w (inl less) = Contains-append_left found (m ∷ []) n (so.whole n (w.0, w.1, less, w.3))
    found_last from to n m found here so w (inr same) =
        let is : m ≡ n = let e = sym here ∙ ap (changed_number_at before after owners) (sym same) ∙ w.3 in cc in
        subst (λ k. Contains (found ++ m ∷ []) k) is (Contains-push found m)

    pub found_more : (from to m : ℕ) (found next : List ℕ) → from ≤ to → changed_number_at before after owners to ≡ Some m
        → next ≡ found ++ m ∷ [] → AreFound from to found → AreFound from (to + 1) next
    found_more from to m found next order here put so = record {
      sound = λ n h. elim (Contains-push_cases found m n (subst (λ l. Contains l n) put h)) [
        | inl early ↦ further from to n (so.sound n early)
        | inr is ↦ (to, order, omega arith, here ∙ ap Some is)
      ];
      whole = λ n w. subst (λ l. Contains l n) (sym put) (found_last from to n m found here so w (lt_or_same w.0 to (omega (arith, w.2))));
    }

  -- what follows from the numbers that are found of a stretch if all tunes claim what they did
  module _ (claims : claims_of before ≡ claims_of after) where
    same_owners : owners_of before ≡ owners_of after
    same_owners = ap (owners_after [] 0) claims

    old_file : (n : ℕ) (place : ℕ) → owner_at (owners_of before) n ≡ Some place → file_at (files_of before) n ≡ bytes_at before place
    old_file n place owns = sym (file_by_owner before n) ∙ ap (option_and_then (bytes_at before)) owns

    new_file : (n : ℕ) (place : ℕ) → owner_at (owners_of before) n ≡ Some place → file_at (files_of after) n ≡ bytes_at after place
    new_file n place owns = sym (file_by_owner after n) ∙ ap (λ (o : Owners). option_and_then (bytes_at after) (owner_at o n)) (sym same_owners) ∙ ap (option_and_then (bytes_at after)) owns

    has_file : (n place : ℕ) (owner : Option ℕ) (file : Option (List ℕ)) → owner ≡ Some place → Answers after n owner file → IsSome file
    has_file n place None None owns says = absurd cc
    has_file n place None (Some bytes) owns says = absurd says
    has_file n place (Some p) None owns says = absurd says
    has_file n place (Some p) (Some bytes) owns says = refl

    found_new : (place n : ℕ) → Rewrites (owners_of before) place n → Contains (written_numbers (files_of before) (files_of after)) n
    unfolding written_numbers
    found_new place n r =
        let has : IsSome (file_at (files_of after) n) =
        has_file n place (owner_at (owners_of after) n) (file_at (files_of after) n) (ap (λ (o : Owners). owner_at o n) (sym same_owners) ∙ r.owns) (owner_answers after n) in
        let gives : file_at (files_of after) n ≡ r.output.built.bytes = new_file n place r.owns ∙ ap (option_and_then (λ (o : Output). o.built.bytes)) r.here in
        let test : not (option_eq bytes_eq (file_at (files_of before) n) (file_at (files_of after) n)) ≡ true =
        ap (λ f. not (option_eq bytes_eq f (file_at (files_of after) n))) (old_file n place r.owns) ∙ ap (λ f. not (option_eq bytes_eq (bytes_at before place) f)) gives ∙ ap not r.differs in
        to_filter _ (keys_of (files_of after)) n (to_numbers (files_of after) n has) test

    -- an owner whose file is new is found, and is in the stretch
    owned_new : (n : ℕ) → not (option_eq bytes_eq (file_at (files_of before) n) (file_at (files_of after) n)) ≡ true → (owner : Option ℕ) (file : Option (List ℕ))
        → owner_at (owners_of after) n ≡ owner → file_at (files_of after) n ≡ file → IsSome file → Answers after n owner file → (place : ℕ) × Rewrites (owners_of before) place n
    owned_new n test None None owns is has says = absurd (false≢true has)
    owned_new n test None (Some bytes) owns is has says = absurd says
    owned_new n test (Some place) None owns is has says = absurd says
    owned_new n test (Some place) (Some bytes) owns is has says =
        let was : owner_at (owners_of before) n ≡ Some place = ap (λ (o : Owners). owner_at o n) same_owners ∙ owns in
        let gives : file_at (files_of after) n ≡ says.output.built.bytes = is ∙ sym says.gives in
        let tells : not (option_eq bytes_eq (bytes_at before place) says.output.built.bytes) ≡ true =
        ap (λ f. not (option_eq bytes_eq f says.output.built.bytes)) (sym (old_file n place was)) ∙ ap (λ f. not (option_eq bytes_eq (file_at (files_of before) n) f)) (sym gives) ∙ test in (
          place,
          record {
            output = says.output;
            here = says.here;
            addresses_from = says.addresses_from;
            owns = was;
            differs = not_true (option_eq bytes_eq (bytes_at before place) says.output.built.bytes) tells;
          },
        )

    changed_there : (place n : ℕ) → Rewrites (owners_of before) place n → slice_get before place ≡ slice_get after place → ⊥
    changed_there place n r same =
        let gives : bytes_at before place ≡ r.output.built.bytes = ap (option_and_then (λ (o : Output). o.built.bytes)) (same ∙ r.here) in
        false≢true (sym r.differs ∙ same_bytes (bytes_at before place) r.output.built.bytes gives)

    module _ (front came following to : ℕ) (order : front ≤ following) (count : came ≡ following - front) (past : following ≤ to)
        (start : take front after ≡ take front before) (rest : drop (front + came) after ≡ drop following before) where
      in_stretch : (place n : ℕ) → Rewrites (owners_of before) place n → Within (owners_of before) front to n
      in_stretch place n r =
          let low : front ≤ place = elim (cases_lt place front) [ inl less ↦ absurd (changed_there place n r (same_before before after front place less start)) | inr there ↦ there ] in
          let high : place < to = elim (cases_lt place following) [
            | inl less ↦ omega (arith, less, past)
            | inr there ↦ absurd (changed_there place n r (same_after before after following (front + came) place place there
                (omega (arith, order, count, there)) (omega (arith, order, count, there)) rest))
          ] in
          (place, low, high, rewritten_there (owners_of before) place n r)

      pub found_all : (found sorted : List ℕ) → AreFound (owners_of before) front to found → IsStrictlyIncreasing (keys_of (files_of after))
          → IsStrictlySortedBy nat_cmp sorted → ((n : ℕ) → Contains sorted n ↔ Contains found n) → sorted ≡ written_numbers (files_of before) (files_of after)
      unfolding written_numbers
      found_all found sorted are rises ordered same =
          one_order nat_cmp nat_cmp_total sorted (written_numbers (files_of before) (files_of after)) ordered
          (sorted_from_strictly_increasing (written_numbers (files_of before) (files_of after)) (rising_written (files_of before) (files_of after) rises))
          (λ n there. let w = are.sound n ((same n).0 there) in found_new w.0 n (rewrites (owners_of before) w.0 n w.3))
          (λ n there.
          let kept = from_filter _ (keys_of (files_of after)) n there in
          let one = owned_new n kept.1 (owner_at (owners_of after) n) (file_at (files_of after) n) refl refl (from_numbers (files_of after) n kept.0) (owner_answers after n) in
          (same n).1 (are.whole n (in_stretch one.0 n one.1)))

      pub found_sorted : (found sorted : List ℕ) → AreFound (owners_of before) front to found → IsStrictlyIncreasing (keys_of (files_of after))
          → IsStrictlySortedBy nat_cmp sorted → sorted ≡ sort_dedup nat_cmp found → sorted ≡ written_numbers (files_of before) (files_of after)
      found_sorted found sorted are rises ordered is =
          found_all found sorted are rises ordered (λ n. subst (λ (l : List ℕ). Contains l n ↔ Contains found n) (sym is) (sorted_members found n))

    -- the numbers that have a file are those that owners had before
    pub keys_of-stay : (owners : Owners) → owners ≡ owners_of before → keys_of owners ≡ keys_of (files_of after)
    keys_of-stay owners are = ap (λ (o : Owners). keys_of o) (are ∙ same_owners) ∙ keys_agree after

    -- and no number has lost its file
    pub none_lost : [] ≡ removed_numbers (files_of before) (files_of after)
    unfolding removed_numbers
    none_lost = no_elements _ (λ n there.
        let kept = from_filter _ (keys_of (files_of before)) n there in
        let keys : keys_of (files_of before) ≡ keys_of (files_of after) = sym (keys_agree before) ∙ ap keys_of same_owners ∙ keys_agree after in
        let has = from_numbers (files_of after) n (subst (λ l. Contains l n) keys kept.0) in
        false≢true (sym (ap not has) ∙ kept.1))
