-- Which tune gives the file of each number. Not in ABC 2.1.
use Rattle.std.specs.Prelude.{ℕ, ◌+◌, ◌==◌, ◌&&◌, if◌then◌else◌, List, [], ◌∷◌, map, is_some, Option, Some, None, option_and_then}
use Rattle.std.specs.Prelude.{slice_get}
use Rattle.std.specs.BTreeMap.{insert_entry}
use Rattle.std.specs.Map.{lookup}
use Rattle.std.specs.Ordering.{nat_cmp}
use Rattle.abc_live_index.specs.declared.owners.Claim.{Claim}
use Rattle.abc_live_index.specs.declared.output.Output.{Output}

-- The numbers that have a file, rising, each with the place of the tune that gives it, counted from 0.
abbrev pub Owners : Type 0
Owners = List (ℕ × ℕ)

-- The place of the tune that gives the file of a number, if it has one.
abbrev pub owner_at : Owners → ℕ → Option ℕ
owner_at owners number = lookup (λ n. n == number) owners

-- What a tune claims: its number, if it has a file.
abbrev pub claim_of : Output → Claim
claim_of output = record { number = output.number; has_file = is_some output.built.bytes }

-- What tunes claim, one by one.
abbrev pub claims_of : List Output → List Claim
claims_of outputs = map claim_of outputs

-- A number that has an owner keeps it.
abbrev pub owners_with : Owners → ℕ → ℕ → Owners
owners_with owners number place = if is_some (owner_at owners number) then owners else insert_entry nat_cmp owners number place

-- The owners after the claim of a tune.
abbrev pub owners_with_claim : Owners → Claim → ℕ → Owners
owners_with_claim owners claim place = if claim.has_file then owners_with owners claim.number place else owners

-- The owners after the claims of tunes, of which the first is at a place.
abbrev pub owners_after : Owners → ℕ → List Claim → Owners
owners_after owners place [] = owners
owners_after owners place (claim ∷ claims) = owners_after (owners_with_claim owners claim place) (place + 1) claims

-- The owners among tunes.
abbrev pub owners_of : List Output → Owners
owners_of outputs = owners_after [] 0 (claims_of outputs)

-- The file that the tune at a place gives, if it gives one.
abbrev pub bytes_at : List Output → ℕ → Option (List ℕ)
bytes_at outputs place = option_and_then (λ output. output.built.bytes) (slice_get outputs place)

-- The index of the first element that has a number and a file, of elements whose first has the index `at`.
abbrev pub owner_by : {A : Type 0} → (A → ℕ) → (A → Option (List ℕ)) → ℕ → List A → ℕ → Option ℕ
owner_by number_of file_of at [] number = None
owner_by number_of file_of at (one ∷ rest) number =
    if (number_of one == number) && is_some (file_of one) then Some at else owner_by number_of file_of (at + 1) rest number

-- The index of the tune that gives the file of a number: the first of its tunes that has one.
abbrev pub owner_among : List Output → ℕ → Option ℕ
owner_among outputs number = owner_by (λ output. output.number) (λ output. output.built.bytes) 0 outputs number
