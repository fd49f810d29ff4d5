-- The faults of the tunes from a place on.
use Rattle.std.proofs.Common.{◌≡◌, ℕ, suc, ◌+◌, ◌<◌, List, [], ◌∷◌, ◌++◌, length, drop, Some, slice_get, get_or, ap, ◌∙◌, subst}
use Rattle.std.proofs.Common.{arith}
use Rattle.std.proofs.Math.Seq.{drop-cons}
use Rattle.std.proofs.lemmas.List.{drop-drop, length-drop}
use Rattle.std.proofs.lemmas.Option.{slice_get_within}
use Rattle.std.specs.List.{AllZip}
use Rattle.abc_book.specs.declared.block.Block.{Block}
use Rattle.abc_fold.specs.Chain.{ChainView}
use Rattle.abc_live_index.specs.Tunes.{HasCells, faults_by, tune_faults_by}
use Rattle.abc_live_index.proofs.OutputLists.{put_more, zipped_count}
use Rattle.abc_live_index.proofs.Lists.{one_on}
use Rattle.abc_tune_compiler.specs.Rules.{Rules}
use Rattle.abc_tune_compiler.specs.declared.fault.Fault.{Fault}

-- the place that is read, and those after it
place_on : (places : List Block) (at : ℕ) (other : Block) → at < length places → drop at places ≡ get_or places at other ∷ drop (at + 1) places
place_on places at other inside =
    let next : suc at ≡ at + 1 = omega arith in
    drop-cons places at other inside ∙ ap (λ k. get_or places at other ∷ drop k places) next

-- the rest of two lists that go together
zipped_rest : {A B : Type 0} (R : A → B → Type 0) (x : A) (xs : List A) (ys : List B) → AllZip R (x ∷ xs) ys → AllZip R xs (drop 1 ys)
zipped_rest R x xs [] all = absurd all
zipped_rest R x xs (y ∷ ys) all = all.1

module _ {State Cell Items Defaults : Type 0} (rules : Rules State Cell Items Defaults) (before : ℕ) (counts : List ℕ)
    (chains : List (ChainView State Cell Items)) (places : List Block) (at : ℕ) (chain : ChainView State Cell Items)
    (there : slice_get chains at ≡ Some chain) (cells : AllZip (HasCells before counts) (drop at chains) (drop at places)) where
  as_many : at < length places
  as_many =
      let inside = slice_get_within chains at chain there in
      let count : length (drop at chains) ≡ length (drop at places) = zipped_count (HasCells before counts) (drop at chains) (drop at places) cells in
      let ours = length-drop at chains in
      let others = length-drop at places in
      omega (arith, inside, count, ours, others)

  -- The cells of the rest.
  pub cells_on : AllZip (HasCells before counts) (drop (at + 1) chains) (drop (at + 1) places)
  cells_on =
      let both : AllZip (HasCells before counts) (chain ∷ drop (at + 1) chains) (drop at places) =
      subst (λ l. AllZip (HasCells before counts) l (drop at places)) (one_on chains at chain there) cells in
      subst (AllZip (HasCells before counts) (drop (at + 1) chains)) (drop-drop 1 at places) (zipped_rest (HasCells before counts) chain (drop (at + 1) chains) (drop at places) both)

  -- One tune more, and the rest.
  pub places_on : (other : Block) (out more whole : List Fault) → more ≡ out ++ tune_faults_by rules before counts chain (get_or places at other)
      → out ++ faults_by rules before counts (drop at chains) (drop at places) ≡ whole
      → more ++ faults_by rules before counts (drop (at + 1) chains) (drop (at + 1) places) ≡ whole
  places_on other out more whole put is =
      let left : faults_by rules before counts (drop at chains) (drop at places) ≡ tune_faults_by rules before counts chain
      (get_or places at other) ++ faults_by rules before counts (drop (at + 1) chains) (drop (at + 1) places) =
      ap (λ l. faults_by rules before counts l (drop at places)) (one_on chains at chain there)
      ∙ ap (faults_by rules before counts (chain ∷ drop (at + 1) chains)) (place_on places at other as_many) in
      put_more out more (tune_faults_by rules before counts chain (get_or places at other)) _ _ whole put left is
