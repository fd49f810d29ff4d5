-- The tune that owns a number has a chain, and is not too long.
use Rattle.std.proofs.Common.{◌≡◌, ℕ, zero, suc, ◌+◌, ◌<◌, ◌==◌, ◌&&◌, Bool, true, false, cond, List, [], ◌∷◌, Option, Some, None, is_some, slice_get, map}
use Rattle.std.proofs.Common.{length, refl, sym, ap, subst, ◌∙◌, arith}
use Rattle.std.specs.List.{AllZip}
use Rattle.std.specs.Option.{option_map}
use Rattle.std.proofs.lemmas.Bool.{false≢true}
use Rattle.std.proofs.lemmas.Option.{none-some, same_Some, slice_get-map}
use Rattle.abc_bars_body.specs.declared.entry.Entry.{Entry}
use Rattle.abc_bars_items.specs.Item.{Items}
use Rattle.abc_book.specs.declared.block.Block.{Block}
use Rattle.abc_fold.specs.Chain.{ChainView}
use Rattle.abc_fold.specs.Steps.{items_from}
use Rattle.abc_lines.specs.Text.{Text}
use Rattle.abc_live_cost.specs.OldItems.{IsChainOf}
use Rattle.abc_live_index.proofs.ChainOutputs.{output_follows}
use Rattle.abc_live_index.specs.Owners.{owner_by}
use Rattle.abc_live_session.specs.Owner.{owner_of}
use Rattle.abc_live_text.specs.Chains.{AreChains}
use Rattle.abc_scan.specs.declared.spanned.Spanned.{Spanned}
use Rattle.abc_scan.specs.declared.token.TokenKind.{TokenKind}
use Rattle.abc_tune.specs.Abc.{rules_of_abc, steps_of_abc}
use Rattle.abc_tune.specs.Built.{bytes_of}
use Rattle.abc_tune_compiler.specs.Book.{blocks_in, tunes_in}
use Rattle.abc_tune_compiler.specs.Tune.{Tune, tune_of}
use Rattle.abc_voices.specs.Layout.{is_too_long, items_in}
use Rattle.abc_play.specs.Play.{block_items, opening_in, tunes_of}

abbrev pub ChainOf : Type 0
ChainOf = ChainView Entry (List (Spanned TokenKind)) Items

-- an owner has a file
pub record Owns {A : Type 0} (number_of : A → ℕ) (file_of : A → Option (List ℕ)) (at : ℕ) (all : List A) (i : ℕ) : Type 0 where
  pub one : A
  pub k : ℕ
  pub place : i ≡ at + k
  pub here : slice_get all k ≡ Some one
  pub file : is_some (file_of one) ≡ true

after_one : {A : Type 0} (number_of : A → ℕ) (file_of : A → Option (List ℕ)) (at : ℕ) (one : A) (rest : List A) (i : ℕ)
    → Owns number_of file_of (at + 1) rest i → Owns number_of file_of at (one ∷ rest) i
after_one number_of file_of at one rest i owns =
    let same = owns.place in
    record { one = owns.one; k = suc owns.k; place = omega (arith, same); here = owns.here; file = owns.file }

by_test : {A : Type 0} (number_of : A → ℕ) (file_of : A → Option (List ℕ)) (at : ℕ) (one : A) (rest : List A) (i : ℕ) (same has : Bool) (later : Option ℕ)
    → is_some (file_of one) ≡ has → cond (same && has) (Some at) later ≡ Some i → (later ≡ Some i → Owns number_of file_of (at + 1) rest i)
    → Owns number_of file_of at (one ∷ rest) i
by_test number_of file_of at one rest i true true later has is others =
    let place : at ≡ i = same_Some at i is in
    record { one = one; k = 0; place = omega (arith, place); here = refl; file = has }
by_test number_of file_of at one rest i true false later has is others = after_one number_of file_of at one rest i (others is)
by_test number_of file_of at one rest i false has_file later has is others = after_one number_of file_of at one rest i (others is)

pub owned : {A : Type 0} (number_of : A → ℕ) (file_of : A → Option (List ℕ)) (at : ℕ) (all : List A) (number i : ℕ)
    → owner_by number_of file_of at all number ≡ Some i → Owns number_of file_of at all i
owned number_of file_of at [] number i is = absurd (none-some i is)
owned number_of file_of at (one ∷ rest) number i is =
    by_test number_of file_of at one rest i (number_of one == number) (is_some (file_of one)) (owner_by number_of file_of (at + 1) rest number) refl is
    (owned number_of file_of (at + 1) rest number i)

-- a tune with a file is not too long
has_file : (long : Bool) (file : List ℕ) → is_some (cond long None (Some file)) ≡ true → long ≡ false
has_file true file is = absurd (false≢true is)
has_file false file is = refl

pub built_short : (given : List Items) → is_some (bytes_of given) ≡ true → is_too_long (items_in given) ≡ false
unfolding bytes_of
built_short given is = has_file (is_too_long (items_in given)) _ is

module _ (text : Text) where
  -- the items of a chain are those that its cells give
  pub chain_items : (chain : ChainOf) (block : Block) → IsChainOf steps_of_abc rules_of_abc.cells (opening_in text) text chain block → chain.items ≡ block_items text block
  chain_items chain block is = is.folds.items ∙ ap (items_from steps_of_abc (opening_in text)) is.cells

  -- the owner of a number is not too long
  pub owner_short : (number i : ℕ) (chain : ChainOf) (block : Block) → owner_of (tunes_of text) number ≡ Some i
      → slice_get (tunes_in (blocks_in rules_of_abc text)) i ≡ Some block → IsChainOf steps_of_abc rules_of_abc.cells (opening_in text) text chain block
      → is_too_long (items_in chain.items) ≡ false
  owner_short number i chain block owner here is =
      let make : Block → Tune = tune_of steps_of_abc.next steps_of_abc.gives rules_of_abc (opening_in text) text in
      let blocks = tunes_in (blocks_in rules_of_abc text) in
      let owns = owned (λ (tune : Tune). tune.number) (λ (tune : Tune). tune.bytes) 0 (tunes_of text) number i owner in
      let place : owns.k ≡ i = let same = owns.place in omega (arith, same) in
      let tune : make block ≡ owns.one = same_Some (make block) owns.one
      (sym (ap (option_map make) here) ∙ sym (slice_get-map make blocks i) ∙ ap (slice_get (map make blocks)) (sym place) ∙ owns.here) in
      let agrees = output_follows steps_of_abc rules_of_abc (opening_in text) text chain block is in
      built_short chain.items (ap is_some agrees.bytes ∙ ap (λ (t : Tune). is_some t.bytes) tune ∙ owns.file)

  zip_at : (P : ChainOf → Block → Type 0) (chains : List ChainOf) (blocks : List Block) (i : ℕ) (chain : ChainOf) (block : Block) → AllZip P chains blocks
      → slice_get chains i ≡ Some chain → slice_get blocks i ≡ Some block → P chain block
  zip_at P [] blocks i chain block all at here = absurd (none-some chain at)
  zip_at P (one ∷ chains) [] i chain block all at here = absurd all
  zip_at P (one ∷ chains) (other ∷ blocks) zero chain block all at here =
      subst (λ c. P c block) (same_Some one chain at) (subst (P one) (same_Some other block here) all.0)
  zip_at P (one ∷ chains) (other ∷ blocks) (suc i) chain block all at here = zip_at P chains blocks i chain block all.1 at here

  zip_none : (P : ChainOf → Block → Type 0) (chains : List ChainOf) (blocks : List Block) (i : ℕ) → AllZip P chains blocks
      → slice_get chains i ≡ None → i < length blocks → ⊥
  zip_none P [] [] i all at inside = omega (arith, inside)
  zip_none P [] (other ∷ blocks) i all at inside = absurd all
  zip_none P (one ∷ chains) [] i all at inside = absurd all
  zip_none P (one ∷ chains) (other ∷ blocks) zero all at inside = none-some one (sym at)
  zip_none P (one ∷ chains) (other ∷ blocks) (suc i) all at inside = zip_none P chains blocks i all.1 at (omega (arith, inside))

  -- the chain of a tune
  pub chain_at : (chains : List ChainOf) (i : ℕ) (chain : ChainOf) (block : Block) → AreChains steps_of_abc rules_of_abc text chains
      → slice_get chains (i + 1) ≡ Some chain → slice_get (tunes_in (blocks_in rules_of_abc text)) i ≡ Some block
      → IsChainOf steps_of_abc rules_of_abc.cells (opening_in text) text chain block
  chain_at [] i chain block are at here = absurd are
  chain_at (header ∷ chains) i chain block are at here =
      let next : suc i ≡ i + 1 = omega arith in
      zip_at (IsChainOf steps_of_abc rules_of_abc.cells (opening_in text) text) chains (tunes_in (blocks_in rules_of_abc text)) i chain block are.1
      (ap (slice_get (header ∷ chains)) next ∙ at) here

  -- each tune has one
  pub chain_none : (chains : List ChainOf) (i : ℕ) → AreChains steps_of_abc rules_of_abc text chains
      → slice_get chains (i + 1) ≡ None → i < length (tunes_in (blocks_in rules_of_abc text)) → ⊥
  chain_none [] i are at inside = absurd are
  chain_none (header ∷ chains) i are at inside =
      let next : suc i ≡ i + 1 = omega arith in
      zip_none (IsChainOf steps_of_abc rules_of_abc.cells (opening_in text) text) chains (tunes_in (blocks_in rules_of_abc text)) i are.1
      (ap (slice_get (header ∷ chains)) next ∙ at) inside
