-- Laws of a store that is followed.
use Rattle.std.proofs.Common.{◌≡◌, ◌≢◌, ℕ, ◌+◌, ◌<◌, ◌^◌, true, false, cond, codes, List, [], ◌∷◌, ◌++◌, length, length-append}
use Rattle.std.proofs.Common.{Option, Some, None, Result, Ok, Err, inl, inr, refl, sym, ap, ◌∙◌, subst, arith}
use Rattle.std.specs.Prelude.{decimal, OnErr}
use Rattle.std.specs.Str.{bytes_eq}
use Rattle.std.specs.Ordering.{eq_by_cmp, nat_cmp}
use Rattle.std.specs.Cmp.Lexicographic.{slice_cmp}
use Rattle.std.specs.FinMap.{get, insert, remove, get-insert, get-remove}
use Rattle.std.proofs.lemmas.Fmt.{decimal_injective}
use Rattle.std.proofs.lemmas.List.{append_cancel_right}
use Rattle.std.proofs.lemmas.Slice.Eq.{bytes_eq-Decides}
use Rattle.std.proofs.lemmas.Map.Text.{is_eq-slice_cmp}
use Rattle.std.proofs.lemmas.Cmp.{nat_list_cmp_total}
use Rattle.std.proofs.lemmas.Bool.Decides.{nat_tests}
use Rattle.std.proofs.lemmas.Bool.{cases_Bool, cases_eq}
use Rattle.abc_fold.specs.Work.{raised}
use Rattle.abc_publish.specs.Publisher.{Directory, stored_as, with_entry}
use Rattle.abc_publish.specs.declared.slot.Stored.{Stored}
use Rattle.abc_publish.specs.declared.slot.Stored.TheVariants.{Unknown}
use Rattle.abc2midi_live.specs.Streams.{Contents, Puts, TakesOut, KeepsOthers}
use Rattle.abc2midi_live.specs.Storing.{StoreAnswer, Done, Fault, faults_among, file_name, IsStored, Mirrors, MirrorsWhereTold}
use Rattle.abc2midi_live.specs.Storing.{HasNoFiles, StoreView, Follows}
use Rattle.abc2midi_live.specs.Transcript.{no_directory}
use Rattle.abc2midi_live.proofs.Counts.{raised_none, raised_twice}

-- Two numbers have two names.
pub file_name-injective : (m n : ℕ) → m < 2 ^ 32 → n < 2 ^ 32 → file_name m ≡ file_name n → m ≡ n
unfolding file_name
file_name-injective m n small small' e =
    decimal_injective m n (omega arith) (omega arith) (append_cancel_right (decimal m) (decimal n) (codes ".mid") e)

name_eq : (q k : List ℕ) → q ≡ k → eq_by_cmp (slice_cmp nat_cmp) q k ≡ true
name_eq q k e = is_eq-slice_cmp q k ∙ (bytes_eq-Decides q k).1 e

name_differs : (q k : List ℕ) → q ≢ k → eq_by_cmp (slice_cmp nat_cmp) q k ≡ false
name_differs q k differs = elim (cases_Bool (bytes_eq q k)) [
  | inl same ↦ absurd (differs ((bytes_eq-Decides q k).0 same))
  | inr other ↦ is_eq-slice_cmp q k ∙ other
]

-- what is put under a name, and every other name
got_put : (m : Contents) (name bytes : List ℕ) → get (insert m name bytes) name ≡ Some bytes
got_put m name bytes = get-insert nat_list_cmp_total m name bytes name ∙ ap (λ b. cond b (Some bytes) (get m name)) (name_eq name name refl)

kept_put : (m : Contents) (name bytes other : List ℕ) → other ≢ name → get (insert m name bytes) other ≡ get m other
kept_put m name bytes other differs = get-insert nat_list_cmp_total m name bytes other ∙ ap (λ b. cond b (Some bytes) (get m other)) (name_differs other name differs)

got_removed : (m : Contents) (name : List ℕ) → get (remove m name) name ≡ None
got_removed m name = get-remove nat_list_cmp_total m name name ∙ ap (λ b. cond b None (get m name)) (name_eq name name refl)

kept_removed : (m : Contents) (name other : List ℕ) → other ≢ name → get (remove m name) other ≡ get m other
kept_removed m name other differs = get-remove nat_list_cmp_total m name other ∙ ap (λ b. cond b None (get m other)) (name_differs other name differs)

entry_there : (d : Directory) (n : ℕ) (entry : Option Stored) (k : ℕ) → k ≡ n → with_entry d n entry k ≡ entry
entry_there d n entry k e = grind (arith, nat_tests)

entry_elsewhere : (d : Directory) (n : ℕ) (entry : Option Stored) (k : ℕ) → k ≢ n → with_entry d n entry k ≡ d k
entry_elsewhere d n entry k differs = grind (arith, nat_tests)

-- the file of a number changes, and no other
changed : (first old new : Contents) (d : Directory) (n : ℕ) (entry : Option Stored) → n < 2 ^ 32 → Mirrors first old d → IsStored (get new (file_name n)) entry
    → ((other : List ℕ) → other ≢ file_name n → get new other ≡ get old other) → Mirrors first new (with_entry d n entry)
changed first old new d n entry small m there others = record {
  files = λ k small'. elim (cases_eq k n) [
    | inl same ↦ subst (IsStored (get new (file_name k))) (sym (entry_there d n entry k same)) (subst (λ i. IsStored (get new (file_name i)) entry) (sym same) there)
    | inr differs ↦ subst (IsStored (get new (file_name k))) (sym (entry_elsewhere d n entry k differs))
        (subst (λ f. IsStored f (d k)) (sym (others (file_name k) (λ e. differs (file_name-injective k n small' small e)))) (m.files k small'))
  ];
  others = λ name away. others name (away n small) ∙ m.others name away;
}

mirrors_put : (first old new : Option Contents) (d : Directory) (n : ℕ) (bytes : List ℕ) → n < 2 ^ 32 → Puts old new (file_name n) bytes
    → MirrorsWhereTold first old d → MirrorsWhereTold first new (with_entry d n (stored_as (Some bytes)))
mirrors_put None old new d n bytes small p m = tt
mirrors_put (Some f) None new d n bytes small p m = absurd m
mirrors_put (Some f) (Some o) None d n bytes small p m = absurd p
mirrors_put (Some f) (Some o) (Some c) d n bytes small p m =
    changed f o c d n (stored_as (Some bytes)) small m (ap (λ x. get x (file_name n)) p ∙ got_put o (file_name n) bytes)
    (λ other differs. ap (λ x. get x other) p ∙ kept_put o (file_name n) bytes other differs)

mirrors_removed : (first old new : Option Contents) (d : Directory) (n : ℕ) → n < 2 ^ 32 → TakesOut old new (file_name n)
    → MirrorsWhereTold first old d → MirrorsWhereTold first new (with_entry d n (stored_as None))
mirrors_removed None old new d n small p m = tt
mirrors_removed (Some f) None new d n small p m = absurd m
mirrors_removed (Some f) (Some o) None d n small p m = absurd p
mirrors_removed (Some f) (Some o) (Some c) d n small p m =
    changed f o c d n (stored_as None) small m (ap (λ x. get x (file_name n)) p ∙ got_removed o (file_name n))
    (λ other differs. ap (λ x. get x other) p ∙ kept_removed o (file_name n) other differs)

mirrors_fault : (first old new : Option Contents) (d : Directory) (n : ℕ) → n < 2 ^ 32 → KeepsOthers old new (file_name n)
    → MirrorsWhereTold first old d → MirrorsWhereTold first new (with_entry d n (Some Unknown))
mirrors_fault None old new d n small p m = tt
mirrors_fault (Some f) None new d n small p m = absurd m
mirrors_fault (Some f) (Some o) None d n small p m = absurd p
mirrors_fault (Some f) (Some o) (Some c) d n small p m = changed f o c d n (Some Unknown) small m tt p

-- A file was put.
pub follows_put : (old new : StoreView) (d : Directory) (n : ℕ) (name bytes : List ℕ) → n < 2 ^ 32 → name ≡ file_name n → Puts old.contents new.contents name bytes
    → new.failures ≡ raised old.failures 0 → new.calls ≡ raised old.calls 1 → Follows old new (Done ∷ []) d (with_entry d n (stored_as (Some bytes)))
follows_put old new d n name bytes small e p counted called = record {
  failures = counted;
  calls = called;
  contents = λ first. mirrors_put first old.contents new.contents d n bytes small (subst (λ name. Puts old.contents new.contents name bytes) e p);
}

-- A file was removed.
pub follows_removed : (old new : StoreView) (d : Directory) (n : ℕ) (name : List ℕ) → n < 2 ^ 32 → name ≡ file_name n → TakesOut old.contents new.contents name
    → new.failures ≡ raised old.failures 0 → new.calls ≡ raised old.calls 1 → Follows old new (Done ∷ []) d (with_entry d n (stored_as None))
follows_removed old new d n name small e p counted called = record {
  failures = counted;
  calls = called;
  contents = λ first. mirrors_removed first old.contents new.contents d n small (subst (λ name. TakesOut old.contents new.contents name) e p);
}

-- The store failed.
pub follows_fault : (old new : StoreView) (d : Directory) (n : ℕ) (name : List ℕ) → n < 2 ^ 32 → name ≡ file_name n → KeepsOthers old.contents new.contents name
    → new.failures ≡ raised old.failures 1 → new.calls ≡ raised old.calls 1 → Follows old new (Fault ∷ []) d (with_entry d n (Some Unknown))
follows_fault old new d n name small e p counted called = record {
  failures = counted;
  calls = called;
  contents = λ first. mirrors_fault first old.contents new.contents d n small (subst (λ name. KeepsOthers old.contents new.contents name) e p);
}

-- The store was not called.
pub follows_none : (s : StoreView) (d : Directory) → Follows s s [] d d
follows_none s d = record { failures = sym (raised_none s.failures); calls = sym (raised_none s.calls); contents = λ first m. m }

pub follows_same : (s : StoreView) (d after : Directory) → after ≡ d → Follows s s [] d after
follows_same s d after same = subst (λ e. Follows s s [] d e) (sym same) (follows_none s d)

faults_among-append : (a b : List StoreAnswer) → faults_among (a ++ b) ≡ faults_among a + faults_among b
faults_among-append [] b = omega arith
faults_among-append (Done ∷ a) b = faults_among-append a b
faults_among-append (Fault ∷ a) b = omega (arith, faults_among-append a b)

-- Two steps make one.
pub follows_both : (old mid new : StoreView) (a b : List StoreAnswer) (d e f : Directory) → Follows old mid a d e → Follows mid new b e f → Follows old new (a ++ b) d f
follows_both old mid new a b d e f first second = record {
  failures = second.failures ∙ ap (λ c. raised c (faults_among b)) first.failures ∙ raised_twice old.failures (faults_among a) (faults_among b)
      ∙ ap (raised old.failures) (sym (faults_among-append a b));
  calls = second.calls ∙ ap (λ c. raised c (length b)) first.calls ∙ raised_twice old.calls (length a) (length b)
      ∙ ap (raised old.calls) (sym (length-append a b));
  contents = λ empty_dialogue m. second.contents empty_dialogue (first.contents empty_dialogue m);
}

-- A store without files of numbers mirrors a directory without files.
pub mirrors_first : (contents : Option Contents) → HasNoFiles contents → MirrorsWhereTold contents contents no_directory
mirrors_first None h = tt
mirrors_first (Some contents) h = record { files = h; others = λ name away. refl }

-- a fact for the case that a result is an error
pub on_err : {T E : Type 0} (r : Result T E) (P : Type 0) → P → OnErr r P
on_err (Ok x) P p = tt
on_err (Err e) P p = p
