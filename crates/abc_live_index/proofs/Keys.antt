-- The items of a tune are those of what it is known by.
use Rattle.std.proofs.Common.{◌≡◌, ℕ, zero, suc, ◌-◌, ◌<◌, Bool, true, false, ◌&&◌, List, [], ◌∷◌, length, take, drop, map}
use Rattle.std.proofs.Common.{flat_map, get_or, Option, Some, None, slice_get, refl, sym, ap, ◌∙◌, subst}
use Rattle.std.specs.List.{AllZip, list_all}
use Rattle.std.specs.Borrow.{Bor}
use Rattle.std.specs.Prelude.{unwrap_or}
use Rattle.std.proofs.lemmas.Bool.{and_parts}
use Rattle.std.proofs.lemmas.List.{drop-map, take-map}
use Rattle.std.proofs.lemmas.Option.{slice_get-get_or}
use Rattle.abc_book.specs.declared.block.Block.{Block}
use Rattle.abc_tune_compiler.specs.Lawful.{AreLawful}
use Rattle.abc_fold.specs.Chain.{ChainView}
use Rattle.abc_fold.specs.Steps.{Steps, IsResumable, items_from}
use Rattle.abc_fold.proofs.Alike.{equal_items}
use Rattle.abc_lines.specs.Text.{Text, is_line, seen_lines}
use Rattle.abc_tune_memo.specs.Memo.{AreItemsOf}
use Rattle.abc_tune_memo.specs.declared.key.TuneKey.{TuneKey}
use Rattle.abc_tune_compiler.specs.Rules.{Rules}
use Rattle.abc_tune_compiler.specs.Tune.{lines_in}
use Rattle.abc_live_index.specs.Key.{key_by}
use Rattle.abc_live_index.specs.Output.{ReusesOutput, output_in, output_of}
use Rattle.abc_live_index.specs.Tunes.{IsTuneAt, LiesAmong, line_run, lowered_place}
use Rattle.abc_live_index.specs.declared.output.Output.{Output}
use Rattle.abc_live_index.proofs.OutputLists.{some_at, zipped_at, zipped_count}
use Rattle.abc_live_index.proofs.OutputReuse.{mapped_at}

-- the lines of a place, seen at their place
pub seen_there : (lines : List (Bor (List ℕ))) (place : Block) → seen_lines (take (place.to - place.from) (drop place.from lines)) ≡ lines_in (seen_lines lines) place
seen_there lines place =
    sym (ap (take (place.to - place.from)) (drop-map (λ (line : Bor (List ℕ)). line.now) place.from lines)
    ∙ take-map (λ (line : Bor (List ℕ)). line.now) (place.to - place.from) (drop place.from lines))

-- what all of a list pass, the first few pass and those after them
module _ {A : Type 0} (passes : A → Bool) where
  both : (p q : Bool) → p ≡ true → q ≡ true → (p && q) ≡ true
  both true q one other = other
  both false q one other = one

  pub all_dropped : (n : ℕ) (xs : List A) → list_all passes xs ≡ true → list_all passes (drop n xs) ≡ true
  all_dropped zero xs all = all
  all_dropped (suc n) [] all = all
  all_dropped (suc n) (x ∷ xs) all = all_dropped n xs (and_parts (passes x) (list_all passes xs) all).1

  pub all_reused_tunes : (n : ℕ) (xs : List A) → list_all passes xs ≡ true → list_all passes (take n xs) ≡ true
  all_reused_tunes zero xs all = refl
  all_reused_tunes (suc n) [] all = all
  all_reused_tunes (suc n) (x ∷ xs) all =
      let parts = and_parts (passes x) (list_all passes xs) all in
      both (passes x) (list_all passes (take n xs)) parts.0 (all_reused_tunes n xs parts.1)

module _ {State Cell Items Defaults : Type 0} (steps : Steps State Cell Items) (rules : Rules State Cell Items Defaults) (laws : IsResumable steps) (lawful : AreLawful steps rules) where
  -- a tune without a file header has the items of one after a file header without cells
  same_items : (left : Option State) (cells : List Cell) → items_from steps (rules.tune left) cells ≡ items_from steps (rules.tune (Some (unwrap_or left rules.header))) cells
  same_items None cells = equal_items steps laws (rules.tune None) (rules.tune (Some rules.header)) cells lawful.without_header
  same_items (Some state) cells = refl

  module _ (left : Option State) (before : ℕ) (lines : Text) where
    items_of_key : (chain : ChainView State Cell Items) (place : Block) → list_all is_line lines ≡ true → IsTuneAt steps rules (line_run left before lines) chain place
        → AreItemsOf steps rules (key_by rules left lines (lowered_place before place)) chain.items
    items_of_key chain place limits is =
        let there = lowered_place before place in
        record {
          header = unwrap_or left rules.header;
          lines = lines_in lines there;
          own_defaults = refl;
          limits = all_reused_tunes is_line (there.to - there.from) (drop there.from lines) (all_dropped is_line there.from lines limits);
          own_bytes = refl;
          own_items = is.items ∙ same_items left (flat_map rules.cells (lines_in lines there));
        }

    module _ (chains : List (ChainView State Cell Items)) (places : List Block) (all : AllZip (IsTuneAt steps rules (line_run left before lines)) chains places) where
      -- each chain has its place
      pub as_many : (at : ℕ) → at < length chains → at < length places
      as_many at inside = subst (λ n. at < n) (zipped_count (IsTuneAt steps rules (line_run left before lines)) chains places all) inside

      tune_there : (at : ℕ) (other : Block) (chain : ChainView State Cell Items) → at < length chains
          → slice_get chains at ≡ Some chain → IsTuneAt steps rules (line_run left before lines) chain (get_or places at other)
      tune_there at other chain inside is =
          zipped_at (IsTuneAt steps rules (line_run left before lines)) chains places at chain (get_or places at other) all is (slice_get-get_or places at other (as_many at inside))

      -- which lies among the lines
      pub lies_there : (at : ℕ) (other : Block) → at < length chains → LiesAmong before (length lines) (get_or places at other)
      lies_there at other inside = let chain = some_at chains at inside in (tune_there at other chain.0 inside chain.1).lies

      -- the items of a chain are those of the key of its place
      pub items_of_tune : (at : ℕ) (other : Block) (chain : ChainView State Cell Items) (key : TuneKey Defaults) (items : List Items) → list_all is_line lines ≡ true
          → at < length chains → slice_get chains at ≡ Some chain → key ≡ key_by rules left lines (lowered_place before (get_or places at other)) → items ≡ chain.items
          → AreItemsOf steps rules key items
      items_of_tune at other chain key items limits inside is key_is items_are =
          let place = get_or places at other in
          let are = items_of_key chain place limits (tune_there at other chain inside is) in
          subst (λ k. AreItemsOf steps rules k items) (sym key_is) (subst (AreItemsOf steps rules (key_by rules left lines (lowered_place before place))) (sym items_are) are)

-- what the items of a tune give
pub value_there : {State Cell Items Defaults : Type 0} (rules : Rules State Cell Items Defaults)
    (chains : List (ChainView State Cell Items)) (place : ℕ) (chain : ChainView State Cell Items) (items : List Items) (output : Output)
    → slice_get chains place ≡ Some chain → items ≡ chain.items → output ≡ output_of rules items
    → slice_get (map (output_in rules) chains) place ≡ Some output
value_there rules chains place chain items output is are value =
    mapped_at (output_in rules) chains place chain is ∙ ap Some (sym (value ∙ ap (output_of rules) are))

-- what a tune reuses
pub taken_there : {State Cell Items Defaults : Type 0} (rules : Rules State Cell Items Defaults) (outputs : List Output)
    (chains : List (ChainView State Cell Items)) (taken : List (Option ℕ)) (place : ℕ) (none : Option ℕ) (old : ℕ)
    → AllZip (ReusesOutput rules outputs) chains taken → place < length taken → get_or taken place none ≡ Some old
    → (chain : ChainView State Cell Items) × (slice_get chains place ≡ Some chain) × (slice_get outputs old ≡ Some (output_in rules chain))
taken_there rules outputs chains taken place none old all inside is =
    let count = zipped_count (ReusesOutput rules outputs) chains taken all in
    let within : place < length chains = subst (λ n. place < n) (sym count) inside in
    let found = some_at chains place within in
    let there : slice_get taken place ≡ Some (Some old) = slice_get-get_or taken place none inside ∙ ap Some is in
    (found.0, found.1, zipped_at (ReusesOutput rules outputs) chains taken place found.0 (Some old) all found.1 there)
