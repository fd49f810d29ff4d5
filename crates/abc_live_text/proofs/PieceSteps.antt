-- The steps of pieces are those along cells and their kept states.
use Rattle.std.proofs.Common.{◌≡◌, ℕ, suc, ◌+◌, ◌<◌, true, false, List, [], ◌∷◌, ◌++◌, length, take, drop, get_or, refl, sym, ◌∙◌}
use Rattle.std.proofs.Common.{ap, subst, ⊎_elim, arith, zero-add}
use Rattle.std.proofs.lemmas.Bool.{cases_Bool}
use Rattle.std.proofs.lemmas.List.{take_more}
use Rattle.std.specs.List.{AllZip, sum_by}
use Rattle.std.proofs.lemmas.Slice.Zip.{all_zipped_more}
use Rattle.std.proofs.lemmas.List.Sums.{sum_by-drop_more}
use Rattle.abc_book.specs.declared.block.Block.{Block}
use Rattle.abc_fold.specs.declared.piece.Piece.{Piece}
use Rattle.abc_fold.specs.declared.piece.Piece.TheVariants.{New, Kept}
use Rattle.abc_fold.specs.Chain.{ChainView}
use Rattle.abc_fold.specs.Piece.{IsKept, cells_of, steps_needed}
use Rattle.abc_fold.specs.Steps.{Steps, IsAlike, IsResumable}
use Rattle.abc_fold.specs.Work.{Counters, IsRaisedUpTo}
use Rattle.abc_fold.proofs.Folding.{IsWithin, within_more}
use Rattle.abc_live_cost.specs.KeptState.{steps_over}
use Rattle.abc_live_text.specs.Pieces.{cells_over, kept_states_in, kept_states_over, steps_taken}
use Rattle.abc_live_text.specs.Row.{CarriedRow}

same_test : {State Cell Items : Type 0} (steps : Steps State Cell Items) (laws : IsResumable steps) (e a b : State) → IsAlike steps a b → steps.alike e a ≡ steps.alike e b
same_test steps laws e a b h = ⊎_elim
    (λ (p : steps.alike e a ≡ true). p ∙ sym (laws.transitive e a b p h))
    (λ (p : steps.alike e a ≡ false). ⊎_elim
    (λ (q : steps.alike e b ≡ true). laws.transitive e b a q (laws.symmetric a b h) ∙ sym q)
    (λ (q : steps.alike e b ≡ false). p ∙ sym q)
    (cases_Bool (steps.alike e b)))
    (cases_Bool (steps.alike e a))

-- A prepared chain counts the steps over its cells and kept states.
pub steps_are_over : {F State Cell Items Work : Type 0} (steps : Steps State Cell Items) (laws : IsResumable steps) (a b : State) (pieces : List (Piece F State Cell Items Work))
    → IsAlike steps a b → ((k : ℕ) (d : Piece F State Cell Items Work) → k < length pieces → IsKept steps (get_or pieces k d))
    → steps_needed steps a pieces ≡ steps_over steps b (cells_of pieces) (kept_states_in pieces)
steps_are_over steps laws a b [] h kept = refl
steps_are_over steps laws a b (New cell ∷ pieces) h kept =
    ap (λ n. 1 + n) (steps_are_over steps laws (steps.next a cell) (steps.next b cell) pieces (laws.alike_states a b cell h) (λ k d l. kept (suc k) d (omega arith)))
steps_are_over {F = F} {State = State} {Cell = Cell} {Items = Items} {Work = Work} steps laws a b (Kept cell entered left items ∷ pieces) h kept =
    let own = kept 0 (Kept cell entered left items) (omega arith) in
    let others : (k : ℕ) (d : Piece F State Cell Items Work) → k < length pieces → IsKept steps (get_or pieces k d) = λ k d l. kept (suc k) d (omega arith) in
    ⊎_elim
    (λ (e : steps.alike entered b ≡ true).
    let first : steps.alike entered a ≡ true = same_test steps laws entered a b h ∙ e in
    let back = laws.symmetric entered a first in
    let next = laws.transitive (steps.next a cell) (steps.next entered cell) left (laws.alike_states a entered cell back) (laws.symmetric left (steps.next entered cell) own.after_alike) in
    simp (e, first, zero-add) (steps_are_over steps laws (steps.next a cell) left pieces next others))
    (λ (e : steps.alike entered b ≡ false).
    let first : steps.alike entered a ≡ false = same_test steps laws entered a b h ∙ e in
    simp (e, first) (ap (λ n. 1 + n) (steps_are_over steps laws (steps.next a cell) (steps.next b cell) pieces (laws.alike_states a b cell h) others)))
    (cases_Bool (steps.alike entered b))

-- The steps of the pieces of a block.
pub block_pieces : {F State Cell Items Work : Type 0} (steps : Steps State Cell Items) (laws : IsResumable steps) (opening : State)
    (old : List (ChainView State Cell Items)) (rows : List (CarriedRow Cell)) (block : Block) (pieces : List (Piece F State Cell Items Work))
    → ((k : ℕ) (d : Piece F State Cell Items Work) → k < length pieces → IsKept steps (get_or pieces k d))
    → cells_of pieces ≡ cells_over rows block → kept_states_in pieces ≡ kept_states_over old rows block
    → steps_needed steps opening pieces ≡ steps_taken steps opening old rows block
block_pieces steps laws opening old rows block pieces kept e h =
    steps_are_over steps laws opening opening pieces (laws.reflexive opening) kept ∙ (λ i. steps_over steps opening (e i) (h i))

pub pieces_cost : {F State Cell Items Work : Type 0} (steps : Steps State Cell Items) (laws : IsResumable steps) (opening : State)
    (old : List (ChainView State Cell Items)) (rows : List (CarriedRow Cell)) (block : Block) (pieces : List (Piece F State Cell Items Work))
    → ((k : ℕ) (d : Piece F State Cell Items Work) → k < length pieces → IsKept steps (get_or pieces k d))
    → cells_of pieces ≡ cells_over rows block → kept_states_in pieces ≡ kept_states_over old rows block → {before after : Counters}
    → IsRaisedUpTo (steps_needed steps opening pieces) before after → IsRaisedUpTo (steps_taken steps opening old rows block) before after
pieces_cost steps laws opening old rows block pieces kept e h {before = before} {after = after} raise =
    subst (λ n. IsRaisedUpTo n before after) (block_pieces steps laws opening old rows block pieces kept e h) raise

-- One more item that counts.
pub sum_next : {X : Type 0} (g : X → ℕ) (xs : List X) (i : ℕ) (d : X) {before now later : Counters} → i < length xs
    → IsWithin before now (sum_by g (drop i xs)) (sum_by g xs) → IsRaisedUpTo (g (get_or xs i d)) now later → IsWithin before later (sum_by g (drop (i + 1) xs)) (sum_by g xs)
sum_next g xs i d {before = before} {now = now} {later = later} inside within raise =
    within_more before now later (g (get_or xs i d)) (sum_by g (drop (i + 1) xs)) (sum_by g xs)
    (subst (λ k. IsWithin before now k (sum_by g xs)) (sum_by-drop_more g xs i d inside) within) raise

pub zip_next : {A B : Type 0} (R : A → B → Type 0) (xs : List A) (ys : List B) (i : ℕ) (x : A) (y : B) → AllZip R xs (take i ys)
    → R x y → y ≡ get_or ys i y → i < length ys → AllZip R (xs ++ x ∷ []) (take (i + 1) ys)
zip_next R xs ys i x y all own is inside =
    subst (AllZip R (xs ++ x ∷ [])) (sym (take_more ys i y inside ∙ ap (λ b. take i ys ++ b ∷ []) (sym is))) (all_zipped_more R xs (take i ys) x y all own)
