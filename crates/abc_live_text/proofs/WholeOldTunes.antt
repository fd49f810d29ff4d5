-- Tunes that are whole tunes of the old text.
use Rattle.std.proofs.Common.{◌≡◌, ℕ, zero, suc, ◌+◌, ◌-◌, ◌<◌, ◌==◌, ◌&&◌, Bool, true, false, List, [], ◌∷◌, ◌++◌, Option, Some}
use Rattle.std.proofs.Common.{None, Result, Ok, Err, IfOk, All, slice_get, length, take, drop, get_or, refl, sym, ◌∙◌, ap, subst}
use Rattle.std.proofs.Common.{arith, add-one, ⊎_elim, inl, inr}
use Rattle.std.proofs.lemmas.Bool.{cases_Bool, ne_eqb, eqb-true, and_parts}
use Rattle.std.proofs.Math.Seq.{drop-cons}
use Rattle.std.specs.List.{AllZip, flat_map}
use Rattle.std.proofs.lemmas.List.{drop_all, take_more, drop-drop}
use Rattle.std.proofs.lemmas.Slice.Zip.{all_zipped_more}
use Rattle.std.proofs.lemmas.Option.{get_or_from_slice_get, slice_get_within}
use Rattle.abc_live_text.proofs.Openings.{folds_alike}
use Rattle.abc_book.specs.declared.block.Block.{Block}
use Rattle.abc_fold.specs.Chain.{ChainView, Folds, no_cells}
use Rattle.abc_fold.specs.Steps.{Steps, AreAlike, IsAlike, IsResumable, items_from, states_from}
use Rattle.abc_fold.proofs.Alike.{equal_items}
use Rattle.abc_live_cost.specs.Origin.{Origin}
use Rattle.abc_live_text.specs.Pieces.{IsCarried, IsChain, IsFolded, IsCarriedAt, cells_at, cells_in, cells_over}
use Rattle.abc_live_text.specs.Row.{CarriedRow}
use Rattle.abc_live_text.specs.ReusedTunes.{GoesAlong, are_alike_both, continues, first_source, is_along, is_origin}
use Rattle.abc_live_cost.specs.OldItems.{HasItemsOf}

-- If there are more cells than there should be.
pub too_far : {Cell : Type 0} (source count place : ℕ) (rows : List (CarriedRow Cell)) → count < place → is_along source count place rows ≡ false
too_far source count place [] far = ne_eqb place count (λ e. omega (arith, e, far))
too_far source count place (row ∷ rows) far =
    ⊎_elim
    (λ (e : continues source place row ≡ true). ap (λ b. b && is_along source count (place + length row.cells) rows) e ∙ too_far source count (place + length row.cells) rows (omega (arith, far)))
    (λ (e : continues source place row ≡ false). ap (λ b. b && is_along source count (place + length row.cells) rows) e)
    (cases_Bool (continues source place row))

-- A list whose elements are, from the first on, those of another.
prefix : {A : Type 0} (xs ys : List A) → ((k : ℕ) → k < length xs → slice_get ys k ≡ slice_get xs k) → ys ≡ xs ++ drop (length xs) ys
prefix [] ys same = refl
prefix (x ∷ xs) [] same = absurd (let e = same 0 (omega arith) in cc)
prefix (x ∷ xs) (y ∷ ys) same =
    let here : y ≡ x = let e = same 0 (omega arith) in cc in
    λ i. here i ∷ prefix xs ys (λ k h. same (suc k) (omega arith)) i

get_after : {A : Type 0} (n : ℕ) (xs : List A) (k : ℕ) → slice_get (drop n xs) k ≡ slice_get xs (n + k)
get_after zero xs k = let e : k ≡ 0 + k = omega arith in ap (slice_get xs) e
get_after (suc n) [] k = refl
get_after (suc n) (x ∷ xs) k = let e : suc (n + k) ≡ suc n + k = omega arith in get_after n xs k ∙ ap (slice_get (x ∷ xs)) e

-- The cells of a line that continues an old chain are those that follow there.
line_along : {Cell : Type 0} (all cells : List Cell) (source place : ℕ) (origin : Option Origin) → is_origin source place origin ≡ true
    → ((o : Origin) → origin ≡ Some o → o.source ≡ source → (k : ℕ) → k < length cells → slice_get all (o.first + k) ≡ slice_get cells k)
    → (k : ℕ) → k < length cells → slice_get (drop place all) k ≡ slice_get cells k
line_along all cells source place None e held = absurd (cc)
line_along all cells source place (Some o) e held = λ k h.
    let both = and_parts (o.source == source) (o.first == place) e in
    let from : place ≡ o.first = sym (eqb-true o.first place both.1) in
    get_after place all k ∙ (ap (λ n. slice_get all (n + k)) from ∙ held o refl (eqb-true o.source source both.0) k h)

held_own : {State Cell Items : Type 0} (chains : List (ChainView State Cell Items)) (all cells : List Cell) (source : ℕ)
    (origin : Option Origin) → cells_at chains source ≡ all → IsCarriedAt chains cells origin
    → (o : Origin) → origin ≡ Some o → o.source ≡ source → (k : ℕ) → k < length cells → slice_get all (o.first + k) ≡ slice_get cells k
held_own chains all cells source None own held o e s = absurd (cc)
held_own chains all cells source (Some p) own held o e s = λ k h.
    let same : p ≡ o = cc in
    let first : o.first ≡ p.first = ap (λ (q : Origin). q.first) (sym same) in
    let there : all ≡ cells_at chains p.source = sym own ∙ ap (cells_at chains) (sym s ∙ ap (λ (q : Origin). q.source) (sym same)) in
    (λ i. slice_get (there i) (first i + k)) ∙ held k h

row_along : {State Cell Items : Type 0} (chains : List (ChainView State Cell Items)) (all : List Cell) (source place : ℕ)
    (row : CarriedRow Cell) → cells_at chains source ≡ all → IsCarried chains row → continues source place row ≡ true
    → (k : ℕ) → k < length row.cells → slice_get (drop place all) k ≡ slice_get row.cells k
row_along chains all source place row own held e = λ k h. ⊎_elim
    (λ (z : (length row.cells == 0) ≡ true). absurd (let none = eqb-true (length row.cells) 0 z in omega (arith, none, h)))
    (λ (z : (length row.cells == 0) ≡ false).
    let is : is_origin source place row.origin ≡ true = simp z at e in
    line_along all row.cells source place row.origin is (held_own chains all row.cells source row.origin own held) k h)
    (cases_Bool (length row.cells == 0))

-- The cells of lines that go along an old chain to its end.
cells_along : {State Cell Items : Type 0} (chains : List (ChainView State Cell Items)) (all : List Cell) (source place : ℕ)
    (rows : List (CarriedRow Cell)) → cells_at chains source ≡ all → All (IsCarried chains) rows
    → is_along source (length all) place rows ≡ true → flat_map cells_in rows ≡ drop place all
cells_along chains all source place [] own held e = sym (drop_all place all (let same = eqb-true place (length all) e in omega (arith, same)))
cells_along chains all source place (row ∷ rows) own held e =
    let both = and_parts (continues source place row) (is_along source (length all) (place + length row.cells) rows) e in
    let here = prefix row.cells (drop place all) (row_along chains all source place row own (held 0 row (omega arith)) both.0) in
    let more = cells_along chains all source (place + length row.cells) rows own (λ i d l. held (suc i) d (omega arith)) both.1 in
    sym (here ∙ ap (λ l. row.cells ++ l) (drop-drop (length row.cells) place all ∙ sym more))

cells_there : {State Cell Items : Type 0} (chains : List (ChainView State Cell Items)) (source : ℕ) (was : ChainView State Cell Items)
    → slice_get chains source ≡ Some was → cells_at chains source ≡ was.cells
cells_there [] source was e = absurd (cc)
cells_there {State = State} {Cell = Cell} {Items = Items} (chain ∷ chains) zero was e = let same : chain ≡ was = cc in ap (λ (c : ChainView State Cell Items). c.cells) same
cells_there (chain ∷ chains) (suc source) was e = cells_there chains source was e

-- The state with which a fold's entries begin.
first_alike : {State Cell Items : Type 0} (steps : Steps State Cell Items) (entries : List State) (opening x : State)
    (cells : List Cell) → AreAlike steps entries (states_from steps opening cells) → slice_get entries 0 ≡ Some x → IsAlike steps x opening
first_alike steps [] opening x [] alike e = absurd alike
first_alike steps [] opening x (cell ∷ cells) alike e = absurd alike
first_alike steps (entry ∷ entries) opening x [] alike e = let same : entry ≡ x = cc in subst (λ y. IsAlike steps y opening) same alike.0
first_alike steps (entry ∷ entries) opening x (cell ∷ cells) alike e = let same : entry ≡ x = cc in subst (λ y. IsAlike steps y opening) same alike.0

both_there : {State : Type 0} (alike : State → State → Bool) (a b : Option State) → are_alike_both alike a b ≡ true → (x : State) × (y : State) × (a ≡ Some x) × (b ≡ Some y) × (alike x y ≡ true)
both_there alike None b e = absurd (cc)
both_there alike (Some x) None e = absurd (cc)
both_there alike (Some x) (Some y) e = (x, y, refl, refl, e)

-- from one line to the next
pub step_far : {Cell : Type 0} (source count place : ℕ) (row : CarriedRow Cell) (rows : List (CarriedRow Cell)) → count < place + length row.cells → is_along source count place (row ∷ rows) ≡ false
step_far source count place row rows far = and_right (continues source place row) (is_along source count (place + length row.cells) rows) (too_far source count (place + length row.cells) rows far)
  where
    and_right : (a b : Bool) → b ≡ false → (a && b) ≡ false
    and_right true b e = e
    and_right false b e = refl

pub step_on : {Cell : Type 0} (source count place : ℕ) (row : CarriedRow Cell) (rows : List (CarriedRow Cell))
    → true ≡ continues source place row → is_along source count place (row ∷ rows) ≡ is_along source count (place + length row.cells) rows
step_on source count place row rows e = ap (λ b. b && is_along source count (place + length row.cells) rows) (sym e)

pub next_row : {A : Type 0} (rows : List A) (i : ℕ) (row : A) → row ≡ get_or rows i row → i < length rows → drop i rows ≡ row ∷ drop (i + 1) rows
next_row rows i row is inside = drop-cons rows i row inside ∙ (λ j. sym is j ∷ drop (sym (add-one i) j) rows)

all_at : {A : Type 0} (P : A → Type 0) (xs : List A) (k : ℕ) (x : A) → All P xs → slice_get xs k ≡ Some x → P x
all_at P xs k x all e = subst P (get_or_from_slice_get xs k x x e) (all k x (slice_get_within xs k x e))

one_less : {A : Type 0} (xs : List A) (source : ℕ) (x : A) → (source ≡ 0 → ⊥) → slice_get xs source ≡ Some x → slice_get (drop 1 xs) (source - 1) ≡ Some x
one_less [] source x some e = absurd (cc)
one_less (y ∷ ys) zero x some e = absurd (some refl)
one_less (y ∷ ys) (suc k) x some e = let same : suc k - 1 ≡ k = omega arith in ap (slice_get ys) same ∙ e

same_items : {State Cell Items : Type 0} (steps : Steps State Cell Items) (opening : State) (was chain : ChainView State Cell Items)
    → IsResumable steps → IsFolded steps was → Folds steps opening chain → chain.cells ≡ was.cells
    → are_alike_both steps.alike (slice_get was.entries 0) (slice_get chain.entries 0) ≡ true → was.items ≡ chain.items
same_items {State = State} {Cell = Cell} {Items = Items} steps opening was chain laws (inl none) folds cells e =
    let empty : was.entries ≡ [] = ap (λ (c : ChainView State Cell Items). c.entries) none in
    let no : false ≡ true = sym (ap (λ (l : List State). are_alike_both steps.alike (slice_get l 0) (slice_get chain.entries 0)) empty) ∙ e in
    absurd (cc)
same_items steps opening was chain laws (inr (begun, own)) folds cells e =
    let at = both_there steps.alike (slice_get was.entries 0) (slice_get chain.entries 0) e in
    let old = first_alike steps was.entries begun at.0 was.cells own.entries at.2 in
    let new = first_alike steps chain.entries opening at.1 chain.cells folds.entries at.3 in
    let alike : IsAlike steps begun opening = laws.transitive begun at.0 opening (laws.symmetric at.0 begun old) (laws.transitive at.0 at.1 opening at.4 new) in
    own.items ∙ (equal_items steps laws begun opening was.cells alike ∙ (ap (items_from steps opening) (sym cells) ∙ sym folds.items))

-- What goes along an old tune, and begins in an equivalent state, has its items.
pub taken_items : {State Cell Items : Type 0} (steps : Steps State Cell Items) (old : List (ChainView State Cell Items))
    (rows : List (CarriedRow Cell)) (source : ℕ) (was chain : ChainView State Cell Items) → IsResumable steps → All (IsCarried old) rows → All (IsFolded steps) old
    → slice_get old source ≡ Some was → (source ≡ 0 → ⊥) → is_along source (length was.cells) 0 rows ≡ true → are_alike_both steps.alike (slice_get was.entries 0) (slice_get chain.entries 0) ≡ true
    → (opening : State) → Folds steps opening chain → chain.cells ≡ flat_map cells_in rows → HasItemsOf (drop 1 old) chain (Some (source - 1))
taken_items steps old rows source was chain laws carried folded there some along alike opening folds cells =
    let own : flat_map cells_in rows ≡ was.cells = cells_along old was.cells source 0 rows (cells_there old source was there) carried along in
    (was, one_less old source was some there, same_items steps opening was chain laws (all_at (IsFolded steps) old source was folded there) folds (cells ∙ own) alike)

-- There is one old chain that lines go along.
old_along : {State Cell Items : Type 0} (steps : Steps State Cell Items) (old : List (ChainView State Cell Items))
    (rows : List (CarriedRow Cell)) (source : ℕ) (was : ChainView State Cell Items)
    → first_source rows ≡ Some source → slice_get old source ≡ Some was → (opening : State) → (goes : GoesAlong steps old opening rows) → was ≡ goes.was
old_along steps old rows source was from there opening goes =
    let number : source ≡ suc goes.number = (let both : Some source ≡ Some (suc goes.number) = sym from ∙ goes.source in cc) in
    let both : Some was ≡ Some goes.was = sym there ∙ (ap (slice_get old) number ∙ goes.there) in cc

-- The old chain that lines go along began in a state equivalent to theirs.
pub begins_alike : {State Cell Items : Type 0} (steps : Steps State Cell Items) (old : List (ChainView State Cell Items))
    (rows : List (CarriedRow Cell)) (source : ℕ) (was : ChainView State Cell Items)
    → first_source rows ≡ Some source → slice_get old source ≡ Some was → (opening : State) → GoesAlong steps old opening rows
    → are_alike_both steps.alike (slice_get was.entries 0) (Some opening) ≡ true
begins_alike steps old rows source was from there opening goes =
    let own = old_along steps old rows source was from there opening goes in
    (λ i. are_alike_both steps.alike (slice_get (own i).entries 0) (Some opening))
    ∙ ((λ i. are_alike_both steps.alike (goes.entry i) (Some opening)) ∙ goes.alike)

-- A tune that goes along an old one begins as that does.
pub begins_so : {State Cell Items : Type 0} (steps : Steps State Cell Items) (old : List (ChainView State Cell Items))
    (rows : List (CarriedRow Cell)) (source : ℕ) (was chain : ChainView State Cell Items) → IsResumable steps
    → first_source rows ≡ Some source → slice_get old source ≡ Some was → (opening : State) → Folds steps opening chain → GoesAlong steps old opening rows
    → are_alike_both steps.alike (slice_get was.entries 0) (slice_get chain.entries 0) ≡ true
begins_so {State = State} {Cell = Cell} {Items = Items} steps old rows source was chain laws from there opening folds goes =
    let own = old_along steps old rows source was from there opening goes in
    let new = new_first steps chain.entries opening chain.cells folds.entries in
    (λ i. are_alike_both steps.alike (slice_get (own i).entries 0) (slice_get chain.entries 0))
    ∙ ((λ i. are_alike_both steps.alike (goes.entry i) (new.1 i)) ∙ laws.transitive goes.begun opening new.0 goes.alike (laws.symmetric new.0 opening new.2))
  where
    new_first : {State Cell Items : Type 0} (steps : Steps State Cell Items) (entries : List State) (own : State)
        (cells : List Cell) → AreAlike steps entries (states_from steps own cells) → (x : State) × (slice_get entries 0 ≡ Some x) × IsAlike steps x own
    new_first steps [] own [] alike = absurd alike
    new_first steps [] own (cell ∷ cells) alike = absurd alike
    new_first steps (entry ∷ entries) own [] alike = (entry, refl, alike.0)
    new_first steps (entry ∷ entries) own (cell ∷ cells) alike = (entry, refl, alike.0)

-- from one tune to the next
pub zip_more : {A B : Type 0} (P : A → B → Type 0) (xs : List A) (made : List B) (i : ℕ) (x : A) (new : B)
    → AllZip P (take i xs) made → P x new → x ≡ get_or xs i x → i < length xs → AllZip P (take (i + 1) xs) (made ++ new ∷ [])
zip_more P xs made i x new all one is inside =
    subst (λ l. AllZip P l (made ++ new ∷ [])) (sym (take_more xs i x inside ∙ ap (λ y. take i xs ++ y ∷ []) (sym is))) (all_zipped_more P (take i xs) made x new all one)

pub zip_at : {A B : Type 0} (P : A → B → Type 0) (xs : List A) (ys : List B) (i : ℕ) (x : A) (y : B) → AllZip P xs ys → x ≡ get_or xs i x → y ≡ get_or ys i y → i < length xs → P x y
zip_at P [] ys i x y all e f inside = absurd (omega arith)
zip_at P (a ∷ xs) [] i x y all e f inside = absurd all
zip_at P (a ∷ xs) (b ∷ ys) zero x y all e f inside = subst (λ z. P x z) (sym f) (subst (λ z. P z b) (sym e) all.0)
zip_at P (a ∷ xs) (b ∷ ys) (suc i) x y all e f inside = zip_at P xs ys i x y all.1 e f (omega arith)

-- A whole old chain that begins in an equivalent state is the fold over the cells of the lines that go along it.
pub whole_folds : {State Cell Items : Type 0} (steps : Steps State Cell Items) (old : List (ChainView State Cell Items)) (source : ℕ)
    (was : ChainView State Cell Items) (opening : State) → IsResumable steps → All (IsFolded steps) old
    → slice_get old source ≡ Some was → are_alike_both steps.alike (slice_get was.entries 0) (Some opening) ≡ true → Folds steps opening was
whole_folds {State = State} {Cell = Cell} {Items = Items} steps old source was opening laws folded there e =
    ⊎_elim
    (λ (none : was ≡ no_cells).
    let empty : was.entries ≡ [] = ap (λ (c : ChainView State Cell Items). c.entries) none in
    let no : false ≡ true = sym (ap (λ (l : List State). are_alike_both steps.alike (slice_get l 0) (Some opening)) empty) ∙ e in
    absurd (cc))
    (λ (own : (begun : State) × Folds steps begun was).
    let at = both_there steps.alike (slice_get was.entries 0) (Some opening) e in
    let begun_alike = first_alike steps was.entries own.0 at.0 was.cells own.1.entries at.2 in
    let same : opening ≡ at.1 = (let both = at.3 in cc) in
    let alike : IsAlike steps own.0 opening = laws.transitive own.0 at.0 opening (laws.symmetric at.0 own.0 begun_alike) (subst (IsAlike steps at.0) (sym same) at.4) in
    folds_alike steps own.0 opening was laws alike own.1)
    (all_at (IsFolded steps) old source was folded there)

-- It has just their cells.
pub whole_cells : {State Cell Items : Type 0} (old : List (ChainView State Cell Items)) (rows : List (CarriedRow Cell)) (source : ℕ) (was : ChainView State Cell Items) → All (IsCarried old) rows
    → slice_get old source ≡ Some was → is_along source (length was.cells) 0 rows ≡ true → was.cells ≡ flat_map cells_in rows
whole_cells old rows source was carried there along = sym (cells_along old was.cells source 0 rows (cells_there old source was there) carried along)

-- An old chain that is shared is the chain of a block.
pub shared_chain : {State Cell Items E : Type 0} (steps : Steps State Cell Items) (opening : State) (rows : List (CarriedRow Cell))
    (block : Block) (was : ChainView State Cell Items) (result : Result (ChainView State Cell Items) E)
    → IfOk result (λ chain. chain ≡ was) → Folds steps opening was → was.cells ≡ cells_over rows block → IfOk result (λ chain. IsChain steps opening rows chain block)
shared_chain steps opening rows block was (Err error) same folds cells = tt
shared_chain steps opening rows block was (Ok chain) same folds cells = subst (λ x. IsChain steps opening rows x block) (sym same) (record { folds = folds; cells = cells })

-- And so is a new one that is shared.
pub shared_new : {State Cell Items E : Type 0} (steps : Steps State Cell Items) (opening : State) (rows : List (CarriedRow Cell))
    (block : Block) (was : ChainView State Cell Items) (result : Result (ChainView State Cell Items) E)
    → IfOk result (λ chain. chain ≡ was) → IsChain steps opening rows was block → IfOk result (λ chain. IsChain steps opening rows chain block)
shared_new steps opening rows block was (Err error) same own = tt
shared_new steps opening rows block was (Ok chain) same own = subst (λ x. IsChain steps opening rows x block) (sym same) own
