-- The files of tunes are those that the owners of their numbers give.
use Rattle.std.proofs.Common.{◌≡◌, ℕ, ◌+◌, ◌==◌, eqb-true, Bool, true, false, cond, List, [], ◌∷◌, drop, Option, Some, None}
use Rattle.std.proofs.Common.{is_some, option_and_then, slice_get, refl, sym, ap, ◌∙◌, subst, arith}
use Rattle.std.proofs.lemmas.Cmp.{ranked}
use Rattle.std.proofs.lemmas.List.{drop-drop}
use Rattle.abc_live_index.proofs.Lists.{get_after}
use Rattle.std.specs.BTreeMap.{insert_entry}
use Rattle.std.specs.List.{AllZip}
use Rattle.std.specs.Map.{keys_of}
use Rattle.std.specs.Ordering.{match_ordering, nat_cmp}
use Rattle.std.specs.declared.cmp.Ordering.{Ordering}
use Rattle.std.specs.declared.cmp.Ordering.TheVariants.{Less, Equal, Greater}
use Rattle.abc_live_index.specs.Outputs.{files_of}
use Rattle.abc_live_index.specs.Owners.{Owners, bytes_at, claim_of, owners_with_claim, claims_of, owners_with, owner_at}
use Rattle.abc_live_index.specs.Owners.{owners_after, owners_of}
use Rattle.abc_live_index.specs.declared.output.Output.{Output}
use Rattle.abc_tune_compiler.specs.Files.{Files, file_at, files_by, with_file_of}

module _ (whole : List Output) where
  -- the tune at a place has a number and gives a file
  pub record Gives (place number : ℕ) (bytes : List ℕ) : Type 0 where
    pub output : Output
    pub here : slice_get whole place ≡ Some output
    pub addresses_from : output.number ≡ number
    pub gives : output.built.bytes ≡ Some bytes

  -- an owner gives the file of its number
  abbrev pub IsBacked : ℕ × ℕ → ℕ × List ℕ → Type 0
  IsBacked owner file = (owner.0 ≡ file.0) × Gives owner.1 file.0 file.1

  given_at : (place m n : ℕ) (bytes : List ℕ) → m ≡ n → Gives place m bytes → Gives place n bytes
  given_at place m n bytes same gives = subst (λ k. Gives place k bytes) same gives

  put_step : (owner : ℕ × ℕ) (owners : Owners) (file : ℕ × List ℕ) (files : Files) (n place : ℕ) (bytes : List ℕ)
      → IsBacked owner file → AllZip IsBacked owners files → Gives place n bytes
      → AllZip IsBacked (insert_entry nat_cmp owners n place) (insert_entry nat_cmp files n bytes)
      → (o : Ordering) → o ≡ nat_cmp n file.0
      → AllZip IsBacked (match_ordering o ((n, place) ∷ owner ∷ owners) ((owner.0, place) ∷ owners) (owner ∷ insert_entry nat_cmp owners n place))
      (match_ordering o ((n, bytes) ∷ file ∷ files) ((file.0, bytes) ∷ files) (file ∷ insert_entry nat_cmp files n bytes))
  put_step owner owners file files n place bytes here all gives rest Less e = ((refl, gives), (here, all))
  put_step owner owners file files n place bytes here all gives rest Equal e = ((here.0, given_at place n file.0 bytes (ranked n file.0 Equal e) gives), all)
  put_step owner owners file files n place bytes here all gives rest Greater e = (here, rest)

  put : (owners : Owners) (files : Files) (n place : ℕ) (bytes : List ℕ) → AllZip IsBacked owners files → Gives place n bytes
      → AllZip IsBacked (insert_entry nat_cmp owners n place) (insert_entry nat_cmp files n bytes)
  put [] [] n place bytes all gives = ((refl, gives), tt)
  put [] (file ∷ files) n place bytes all gives = absurd all
  put (owner ∷ owners) [] n place bytes all gives = absurd all
  put (owner ∷ owners) (file ∷ files) n place bytes all gives =
      subst (λ (k : ℕ). AllZip IsBacked (match_ordering (nat_cmp n k) ((n, place) ∷ owner ∷ owners) ((owner.0, place) ∷ owners)
      (owner ∷ insert_entry nat_cmp owners n place)) (insert_entry nat_cmp (file ∷ files) n bytes)) (sym all.0.0)
      (put_step owner owners file files n place bytes all.0 all.1 gives (put owners files n place bytes all.1 gives) (nat_cmp n file.0) refl)

  -- the meaning of an owner and a file of a number
  abbrev pub Answers : ℕ → Option ℕ → Option (List ℕ) → Type 0
  Answers n None None = Unit {0}
  Answers n None (Some bytes) = ⊥
  Answers n (Some place) None = ⊥
  Answers n (Some place) (Some bytes) = Gives place n bytes

  answer_step : (owner : ℕ × ℕ) (file : ℕ × List ℕ) (n : ℕ) (place : Option ℕ) (bytes : Option (List ℕ)) → IsBacked owner file → Answers n place bytes
      → (b : Bool) → (file.0 == n) ≡ b → Answers n (cond b (Some owner.1) place) (cond b (Some file.1) bytes)
  answer_step owner file n place bytes here rest true same = given_at owner.1 file.0 n file.1 (eqb-true file.0 n same) here.1
  answer_step owner file n place bytes here rest false other = rest

  answers : (owners : Owners) (files : Files) (n : ℕ) → AllZip IsBacked owners files → Answers n (owner_at owners n) (file_at files n)
  answers [] [] n all = tt
  answers [] (file ∷ files) n all = absurd all
  answers (owner ∷ owners) [] n all = absurd all
  answers (owner ∷ owners) (file ∷ files) n all =
      subst (λ (k : ℕ). Answers n (cond (k == n) (Some owner.1) (owner_at owners n)) (file_at (file ∷ files) n)) (sym all.0.0)
      (answer_step owner file n (owner_at owners n) (file_at files n) all.0 (answers owners files n all.1) (file.0 == n) refl)

  -- a claim keeps the files backed
  owned_step : (owners : Owners) (files : Files) (n place : ℕ) (bytes : List ℕ) → AllZip IsBacked owners files → Gives place n bytes
      → (owner : Option ℕ) (file : Option (List ℕ)) → Answers n owner file
      → AllZip IsBacked (cond (is_some owner) owners (insert_entry nat_cmp owners n place)) (cond (is_some file) files (insert_entry nat_cmp files n bytes))
  owned_step owners files n place bytes all gives None None says = put owners files n place bytes all gives
  owned_step owners files n place bytes all gives None (Some other) says = absurd says
  owned_step owners files n place bytes all gives (Some p) None says = absurd says
  owned_step owners files n place bytes all gives (Some p) (Some other) says = all

  claim_step : (owners : Owners) (files : Files) (output : Output) (place : ℕ) → AllZip IsBacked owners files → slice_get whole place ≡ Some output
      → (bytes : Option (List ℕ)) → output.built.bytes ≡ bytes
      → AllZip IsBacked (cond (is_some bytes) (owners_with owners output.number place) owners) (with_file_of files output.number bytes)
  claim_step owners files output place all here None is = all
  claim_step owners files output place all here (Some bytes) is =
      owned_step owners files output.number place bytes all (record {
        output = output;
        here = here;
        addresses_from = refl;
        gives = is;
      }) (owner_at owners output.number) (file_at files output.number) (answers owners files output.number all)

  first_on : (rest : List Output) (place : ℕ) (output : Output) → drop place whole ≡ output ∷ rest → (slice_get whole place ≡ Some output) × (drop (place + 1) whole ≡ rest)
  first_on rest place output is =
      let zeroth : place ≡ place + 0 = omega arith in
      (ap (slice_get whole) zeroth ∙ sym (get_after place whole 0) ∙ ap (λ l. slice_get l 0) is, sym (drop-drop 1 place whole) ∙ ap (drop 1) is)

  backed_on : (rest : List Output) (place : ℕ) (owners : Owners) (files : Files) → drop place whole ≡ rest → AllZip IsBacked owners files
      → AllZip IsBacked (owners_after owners place (claims_of rest)) (files_by (λ (o : Output). o.number) (λ (o : Output). o.built.bytes) files rest)
  backed_on [] place owners files is all = all
  backed_on (output ∷ rest) place owners files is all =
      let first = first_on rest place output is in
      backed_on rest (place + 1) (owners_with_claim owners (claim_of output) place)
      (with_file_of files output.number output.built.bytes) first.1 (claim_step owners files output place all first.0 output.built.bytes refl)

  keys_step : (owners : Owners) (files : Files) → AllZip IsBacked owners files → keys_of owners ≡ keys_of files
  keys_step [] [] all = refl
  keys_step [] (file ∷ files) all = absurd all
  keys_step (owner ∷ owners) [] all = absurd all
  keys_step (owner ∷ owners) (file ∷ files) all = ap (λ k. k ∷ keys_of owners) all.0.0 ∙ ap (λ l. file.0 ∷ l) (keys_step owners files all.1)

  bytes_step : (n : ℕ) (owner : Option ℕ) (file : Option (List ℕ)) → Answers n owner file → option_and_then (bytes_at whole) owner ≡ file
  bytes_step n None None says = refl
  bytes_step n None (Some bytes) says = absurd says
  bytes_step n (Some place) None says = absurd says
  bytes_step n (Some place) (Some bytes) says = ap (option_and_then (λ (o : Output). o.built.bytes)) says.here ∙ says.gives

backed : (outputs : List Output) → AllZip (IsBacked outputs) (owners_of outputs) (files_of outputs)
backed outputs = backed_on outputs outputs 0 [] [] refl tt

-- the numbers that have an owner are those that have a file
pub keys_agree : (outputs : List Output) → keys_of (owners_of outputs) ≡ keys_of (files_of outputs)
keys_agree outputs = keys_step outputs (owners_of outputs) (files_of outputs) (backed outputs)

-- a number has an owner that gives its file, or neither
pub owner_answers : (outputs : List Output) (n : ℕ) → Answers outputs n (owner_at (owners_of outputs) n) (file_at (files_of outputs) n)
owner_answers outputs n = answers outputs (owners_of outputs) (files_of outputs) n (backed outputs)

-- the file of a number is what its owner gives
pub file_by_owner : (outputs : List Output) (n : ℕ) → option_and_then (bytes_at outputs) (owner_at (owners_of outputs) n) ≡ file_at (files_of outputs) n
file_by_owner outputs n = bytes_step outputs n (owner_at (owners_of outputs) n) (file_at (files_of outputs) n) (owner_answers outputs n)
