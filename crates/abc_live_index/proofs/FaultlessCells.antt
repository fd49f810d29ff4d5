-- Cells without faults.
use Rattle.std.proofs.Common.{◌≡◌, ℕ, zero, suc, ◌+◌, ◌==◌, if◌then◌else◌, Bool, true, false, List, [], ◌∷◌, ◌++◌, map, length}
use Rattle.std.proofs.Common.{take, drop, refl, sym, ◌∙◌, ap, arith}
use Rattle.std.proofs.lemmas.Bool.{eqb-true}
use Rattle.std.proofs.lemmas.Grind.{flat_map-append}
use Rattle.std.proofs.lemmas.List.{append-nil}
use Rattle.abc_book.specs.declared.block.Block.{Block}
use Rattle.abc_fields.specs.declared.fault_code.FaultCode.{FaultCode}
use Rattle.abc_fold.specs.Chain.{ChainView}
use Rattle.abc_live_index.specs.Output.{has_faults, output_in, placed_from}
use Rattle.abc_live_index.specs.Tunes.{counts_in, tune_faults_by}
use Rattle.abc_live_index.specs.declared.output.Output.{Output}
use Rattle.abc_tune_compiler.specs.Placed.{Placed, placed_at}
use Rattle.abc_tune_compiler.specs.Rules.{Rules}
use Rattle.abc_tune_compiler.specs.Tune.{fault_in, fault_of_tune, faults_along}
use Rattle.abc_tune_compiler.specs.declared.fault.Fault.{Fault}

empty_if : {A : Type 0} (xs : List A) → (length xs == 0) ≡ true → xs ≡ []
empty_if [] e = refl
empty_if (x ∷ xs) e = absurd (let none : suc (length xs) ≡ 0 = eqb-true (suc (length xs)) 0 e in omega (arith, none))

both_none : (here rest : Bool) → (if here then rest else true) ≡ false → (here ≡ true) × (rest ≡ false)
both_none true rest e = (refl, e)
both_none false rest e = absurd (cc)

module _ {State Cell Items Defaults : Type 0} (rules : Rules State Cell Items Defaults) where
  take_none : (n : ℕ) (items : List Items) → has_faults rules items ≡ false → has_faults rules (take n items) ≡ false
  take_none zero items e = refl
  take_none (suc n) [] e = refl
  take_none (suc n) (one ∷ rest) e =
      let both = both_none (length (rules.faults one) == 0) (has_faults rules rest) e in
      ap (λ b. if b then has_faults rules (take n rest) else true) both.0 ∙ take_none n rest both.1

  drop_none : (n : ℕ) (items : List Items) → has_faults rules items ≡ false → has_faults rules (drop n items) ≡ false
  drop_none zero items e = e
  drop_none (suc n) [] e = refl
  drop_none (suc n) (one ∷ rest) e = drop_none n rest (both_none (length (rules.faults one) == 0) (has_faults rules rest) e).1

  line_none : (line : ℕ) (items : List Items) → has_faults rules items ≡ false → faults_along rules.faults (map (placed_at line) items) ≡ []
  line_none line [] e = refl
  line_none line (one ∷ rest) e =
      let both = both_none (length (rules.faults one) == 0) (has_faults rules rest) e in
      let here : rules.faults one ≡ [] = empty_if (rules.faults one) both.0 in
      λ i. map (fault_in line) (here i) ++ line_none line rest both.1 i

  lines_none : (line : ℕ) (counts : List ℕ) (items : List Items) → has_faults rules items ≡ false → faults_along rules.faults (placed_from line counts items) ≡ []
  lines_none line [] items e = refl
  lines_none line (count ∷ counts) items e =
      flat_map-append (λ (one : Placed Items). map (fault_in one.line) (rules.faults one.here)) (map (placed_at line) (take count items)) (placed_from (line + 1) counts (drop count items))
      ∙ (λ i. line_none line (take count items) (take_none count items e) i ++ lines_none (line + 1) counts (drop count items) (drop_none count items e) i)

  -- Of a tune of which no cell has faults, those as a whole are all.
  pub faultless : (output : Output) (chain : ChainView State Cell Items) (before : ℕ) (counts : List ℕ) (place : Block)
      (codes : List FaultCode) (old new : List Fault) → output ≡ output_in rules chain → output.faulty ≡ false → codes ≡ output.built.faults
      → new ≡ old ++ map (fault_of_tune (place.from + 1)) codes → new ≡ old ++ tune_faults_by rules before counts chain place
  faultless output chain before counts place codes old new is none own put =
      let clean : has_faults rules chain.items ≡ false = sym (ap (λ (o : Output). o.faulty) is) ∙ none in
      let whole = map (fault_of_tune (place.from + 1)) (output_in rules chain).built.faults in
      put
      ∙ ap (λ codes. old ++ map (fault_of_tune (place.from + 1)) codes) (own ∙ ap (λ (o : Output). o.built.faults) is)
      ∙ ap (λ l. old ++ l) (sym (append-nil whole))
      ∙ ap (λ l. old ++ (whole ++ l)) (sym (lines_none (place.from + 1) (counts_in before counts place) chain.items clean))
