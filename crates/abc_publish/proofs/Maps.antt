-- A change of one slot, as the two maps see it.
use Rattle.std.proofs.Common.{◌≡◌, ℕ, ◌==◌, cond, true, false, Bool, List, Option, Some, None, is_some, refl, sym, ap, subst, ◌∙◌}
use Rattle.std.proofs.Common.{arith, Result, Ok, Err}
use Rattle.std.specs.Prelude.{OnOk, OnErr}
use mathlib.Core.Path.{fun_ext}
use Rattle.std.specs.BTreeMap.{is_at}
use Rattle.std.specs.Ordering.{nat_cmp}
use Rattle.std.proofs.lemmas.Bool.{false≢true}
use Rattle.std.proofs.lemmas.Bool.Decides.{nat_tests}
use Rattle.abc_publish.specs.Publisher.{Stored, SlotView, Slots, slot_at, stored_of, job_bytes_of, maps_of, publishing_of}
use Rattle.abc_publish.specs.Publisher.{with_entry, with_job, without_job}

-- the slots new are old, but w at k
abbrev pub Puts : Slots → Slots → ℕ → Option SlotView → Type 0
Puts old new k w = (q : ℕ) → slot_at new q ≡ cond (is_at (nat_cmp k) q) w (slot_at old q)

is_key : (k q : ℕ) → is_at (nat_cmp k) q ≡ (q == k)
is_key k q = grind (arith, nat_tests)

pick : {A : Type 0} (f : Option SlotView → Option A) (b : Bool) (w o : Option SlotView) → f (cond b w o) ≡ cond b (f w) (f o)
pick f true w o = refl
pick f false w o = refl

seen : {A : Type 0} (f : Option SlotView → Option A) (old new : Slots) (k : ℕ) (w : Option SlotView) → Puts old new k w → (λ n. f (slot_at new n)) ≡ with_entry (λ n. f (slot_at old n)) k (f w)
seen f old new k w puts = fun_ext (λ n. ap f (puts n) ∙ pick f (is_at (nat_cmp k) n) w (slot_at old n) ∙ ap (λ b. cond b (f w) (f (slot_at old n))) (is_key k n))

-- an entry written again changes nothing
again : {A : Type 0} (f : ℕ → Option A) (k n : ℕ) (b : Bool) → (n == k) ≡ b → cond b (f k) (f n) ≡ f n
again f k n true same = let e : n ≡ k = grind (arith, nat_tests) in ap f (sym e)
again f k n false other = refl

stays : {A : Type 0} (f : ℕ → Option A) (k : ℕ) (entry : Option A) → entry ≡ f k → with_entry f k entry ≡ f
stays f k entry is = fun_ext (λ n. ap (λ e. cond (n == k) e (f n)) is ∙ again f k n (n == k) refl)

both : {d e : ℕ → Option Stored} {i j : ℕ → Option (Option (List ℕ))} → d ≡ e → i ≡ j → publishing_of d i ≡ publishing_of e j
both p q = λ t. publishing_of (p t) (q t)

pub begins : (held old new : Slots) (k : ℕ) (w : SlotView) (bytes : Option (List ℕ)) → held ≡ old → Puts held new k (Some w)
    → w.stored ≡ stored_of (slot_at old k) → w.job_bytes ≡ Some bytes → maps_of new ≡ with_job (maps_of old) k bytes
begins held old new k w bytes is put stored job_bytes =
    let puts : Puts old new k (Some w) = subst (λ slots. Puts slots new k (Some w)) is put in
    both (seen stored_of old new k (Some w) puts ∙ stays (λ n. stored_of (slot_at old n)) k w.stored stored)
    (seen job_bytes_of old new k (Some w) puts ∙ ap (λ c. with_entry (λ n. job_bytes_of (slot_at old n)) k c) job_bytes)

pub ends : (held old new : Slots) (k : ℕ) (w : Option SlotView) (stored : Option Stored) → held ≡ old → Puts held new k w
    → stored_of w ≡ stored → job_bytes_of w ≡ None → maps_of new ≡ without_job (maps_of old) k stored
ends held old new k w stored is put here none =
    let puts : Puts old new k w = subst (λ slots. Puts slots new k w) is put in
    both (seen stored_of old new k w puts ∙ ap (λ s. with_entry (λ n. stored_of (slot_at old n)) k s) here)
    (seen job_bytes_of old new k w puts ∙ ap (λ c. with_entry (λ n. job_bytes_of (slot_at old n)) k c) none)

-- an insertion that fails only without a slot succeeds with one
pub succeeds : {A E : Type 0} {P : Type 0} (r : Result A E) (slot : Option SlotView) → OnOk r P → OnErr r (slot ≡ None) → is_some slot ≡ true → P
succeeds (Ok x) slot done missing there = done
succeeds (Err e) slot done missing there = absurd (false≢true (sym (ap is_some missing) ∙ there))

-- a job under way has a slot
under_way : (slot : Option SlotView) (bytes : Option (List ℕ)) → job_bytes_of slot ≡ Some bytes → is_some slot ≡ true
under_way None bytes is = absurd (false≢true (ap is_some is))
under_way (Some slot) bytes is = refl

pub has_slot : (slots : Slots) (k : ℕ) (bytes : Option (List ℕ)) → (maps_of slots).jobs k ≡ Some bytes → is_some (slot_at slots k) ≡ true
has_slot slots k bytes is = under_way (slot_at slots k) bytes is
