-- The owner of a number is the first tune of the number that has a file.
use Rattle.std.proofs.Common.{◌≡◌, ℕ, ◌+◌, ◌==◌, ◌&&◌, eqb-true, Bool, true, false, cond, List, [], ◌∷◌, Option, Some, None, is_some}
use Rattle.std.proofs.Common.{refl, sym, ap, ◌∙◌, arith}
use Rattle.std.specs.BTreeMap.{insert_entry}
use Rattle.std.specs.Ordering.{nat_cmp}
use Rattle.std.proofs.lemmas.Bool.Decides.{nat_tests}
use Rattle.abc_live_index.specs.Owners.{Owners, claim_of, claims_of, owner_among, owner_at, owner_by, owners_after, owners_of}
use Rattle.abc_live_index.specs.Owners.{owners_with_claim}
use Rattle.abc_live_index.specs.declared.output.Output.{Output}

-- the first of two places, if there is one
abbrev pub either : Option ℕ → Option ℕ → Option ℕ
either None other = other
either (Some place) other = Some place

-- the first owner among outputs from a place on
abbrev pub owner_on : ℕ → List Output → ℕ → Option ℕ
owner_on at outputs n = owner_by (λ (output : Output). output.number) (λ (output : Output). output.built.bytes) at outputs n

-- an owner put among others is found at its number, the others at theirs
inserted : (owners : Owners) (k place n : ℕ) → owner_at (insert_entry nat_cmp owners k place) n ≡ cond (k == n) (Some place) (owner_at owners n)
inserted [] k place n = refl
inserted (owner ∷ owners) k place n =
    let rest = inserted owners k place n in
    grind (arith, nat_tests)

put_step : (owners : Owners) (k place n : ℕ) (rest here : Option ℕ) (same : Bool) → here ≡ owner_at owners k → (k == n) ≡ same
    → either (owner_at (cond (is_some here) owners (insert_entry nat_cmp owners k place)) n) rest ≡ either (owner_at owners n) (cond same (Some place) rest)
put_step owners k place n rest None true e same =
    let at : k ≡ n = eqb-true k n same in
    ap (λ owner. either owner rest) (inserted owners k place n ∙ ap (λ t. cond t (Some place) (owner_at owners n)) same)
    ∙ ap (λ owner. either owner (Some place)) (e ∙ ap (owner_at owners) at)
put_step owners k place n rest None false e same = ap (λ owner. either owner rest) (inserted owners k place n ∙ ap (λ t. cond t (Some place) (owner_at owners n)) same)
put_step owners k place n rest (Some other) true e same =
    let has : owner_at owners n ≡ Some other = ap (owner_at owners) (sym (eqb-true k n same)) ∙ sym e in
    ap (λ owner. either owner rest) has ∙ ap (λ owner. either owner (Some place)) (sym has)
put_step owners k place n rest (Some other) false e same = refl

-- the claim of a tune comes after those that are there
claimed : (owners : Owners) (output : Output) (place n : ℕ) (rest : Option ℕ) (same : Bool) → (output.number == n) ≡ same
    → (has : Bool) → is_some output.built.bytes ≡ has
    → either (owner_at (owners_with_claim owners (claim_of output) place) n) rest ≡ either (owner_at owners n) (cond (same && has) (Some place) rest)
claimed owners output place n rest true same true has =
    ap (λ b. either (owner_at (cond b (cond (is_some (owner_at owners output.number)) owners (insert_entry nat_cmp owners output.number place)) owners) n) rest) has
    ∙ put_step owners output.number place n rest (owner_at owners output.number) true refl same
claimed owners output place n rest false same true has =
    ap (λ b. either (owner_at (cond b (cond (is_some (owner_at owners output.number)) owners (insert_entry nat_cmp owners output.number place)) owners) n) rest) has
    ∙ put_step owners output.number place n rest (owner_at owners output.number) false refl same
claimed owners output place n rest true same false has =
    ap (λ b. either (owner_at (cond b (cond (is_some (owner_at owners output.number)) owners (insert_entry nat_cmp owners output.number place)) owners) n) rest) has
claimed owners output place n rest false same false has =
    ap (λ b. either (owner_at (cond b (cond (is_some (owner_at owners output.number)) owners (insert_entry nat_cmp owners output.number place)) owners) n) rest) has

nothing_following : (owner : Option ℕ) → owner ≡ either owner None
nothing_following None = refl
nothing_following (Some place) = refl

first_among : (owners : Owners) (outputs : List Output) (at n : ℕ) → owner_at (owners_after owners at (claims_of outputs)) n ≡ either (owner_at owners n) (owner_on at outputs n)
first_among owners [] at n = nothing_following (owner_at owners n)
first_among owners (output ∷ outputs) at n =
    first_among (owners_with_claim owners (claim_of output) at) outputs (at + 1) n
    ∙ claimed owners output at n (owner_on (at + 1) outputs n) (output.number == n) refl (is_some output.built.bytes) refl

pub first_owner : (outputs : List Output) (n : ℕ) → owner_at (owners_of outputs) n ≡ owner_among outputs n
first_owner outputs n = first_among [] outputs 0 n
