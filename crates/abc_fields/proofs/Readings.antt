-- The steps of a reader, and its refusals.
use Rattle.std.proofs.Common.{◌≡◌, ◌⊎◌, ℕ, Bool, true, false, cond, List, Option, Some, None, Result, Ok, Err, refl, sym, subst, inl, inr, IfOk}
use Rattle.std.specs.Prelude.{◌↔◌, option_and_then, option_map, ok_or}
use Rattle.std.specs.Str.{bytes_eq}
use Rattle.std.proofs.lemmas.Slice.Eq.{bytes_eq-Decides}
use Rattle.abc_fields.specs.declared.fault_code.FaultCode.{FaultCode}
use Rattle.abc_fields.specs.Reading.{IsReading}

-- a step that goes on has a value
pub bound : {A B : Type 0} (f : A → Option B) (o : Option A) (y : B) → option_and_then f o ≡ Some y → (x : A) × (o ≡ Some x) × (f x ≡ Some y)
bound f None y e = cc
bound f (Some x) y e = (x, refl, e)

-- so has a step that maps
pub map_some : {A B : Type 0} (f : A → B) (o : Option A) (y : B) → option_map f o ≡ Some y → (x : A) × (o ≡ Some x) × (y ≡ f x)
map_some f None y e = cc
map_some f (Some x) y e = (x, refl, cc)

-- a choice is one of its branches
pub branches : {A : Type 0} (t : Bool) (x y z : A) → cond t x y ≡ z → ((t ≡ true) × (x ≡ z)) ⊎ ((t ≡ false) × (y ≡ z))
branches true x y z e = inl (refl, e)
branches false x y z e = inr (refl, e)

-- a text that equals a name is that name
pub named : (text name : List ℕ) → bytes_eq text name ≡ true → name ≡ text
named text name e = sym ((bytes_eq-Decides text name).0 e)

-- a reader answers the value of the grammar, which is in range, or its fault if there is none
pub record Reads {V : Type 0} (Says : V → Type 0) (InRange : V → Type 0) (fault : FaultCode) (r : Result V FaultCode) : Type 0 where
  pub ok : (v : V) → (r ≡ Ok v) ↔ Says v
  pub refused : (r ≡ Err fault) ↔ ((v : V) → ¬ Says v)
  pub range : IfOk r InRange

pub exact_reading : {V : Type 0} {Says InRange : V → Type 0} {fault : FaultCode} {r : Result V FaultCode} → Reads Says InRange fault r → IsReading Says fault r
exact_reading reads = record { ok = reads.ok; refused = reads.refused }

read_by : {V : Type 0} (Says InRange : V → Type 0) (fault : FaultCode) (o : Option V) → ((v : V) → o ≡ Some v → Says v) → ((v : V) → Says v → o ≡ Some v) → ((v : V) → Says v → InRange v)
    → Reads Says InRange fault (ok_or o fault)
read_by Says InRange fault None from to range = record {
  ok = λ v. (λ e. cc, λ says. let some = to v says in cc);
  refused = (λ e v says. let some = to v says in cc, λ no. refl);
  range = tt;
}
read_by Says InRange fault (Some x) from to range = record {
  ok = λ v. (λ e. let same : x ≡ v = cc in subst Says same (from x refl), λ says. let some = to v says in cc);
  refused = (λ e. cc, λ no. absurd (no x (from x refl)));
  range = range x (from x refl);
}

-- the same, if an option has a value exactly if the grammar has it
pub reads : {V : Type 0} (Says InRange : V → Type 0) (fault : FaultCode) (o : Option V) → ((v : V) → o ≡ Some v → Says v) → ((v : V) → Says v → o ≡ Some v) → ((v : V) → Says v → InRange v)
    → (r : Result V FaultCode) → r ≡ ok_or o fault → Reads Says InRange fault r
reads Says InRange fault o from to range r e = subst (Reads Says InRange fault) (sym e) (read_by Says InRange fault o from to range)
