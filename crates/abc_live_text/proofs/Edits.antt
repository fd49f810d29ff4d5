-- What an edit keeps of rows.
use Rattle.std.proofs.Common.{◌≡◌, ℕ, ◌+◌, ◌<◌, ◌≤◌, true, false, List, [], ◌∷◌, ◌++◌, map, Option, Some, None, Ok, All}
use Rattle.std.proofs.Common.{length, take, drop, refl, sym, ◌∙◌, ap, append_assoc, ⊎_elim, inl, inr, subst}
use Rattle.std.proofs.lemmas.Bool.{cases_Bool, cases_lt}
use Rattle.std.proofs.lemmas.List.{map-append, drop-map, take-map}
use Rattle.std.proofs.lemmas.List.Elements.{All-cons, All-nil, All-take, All-drop, All-append}
use Rattle.std.specs.List.{AllZip, list_all}
use Rattle.abc_book.specs.declared.block.Block.{Block}
use Rattle.abc_fold.specs.Chain.{ChainView}
use Rattle.abc_fold.specs.Steps.{Steps}
use Rattle.abc_lines.specs.declared.limits.TheConstants.{MOST_LINES}
use Rattle.abc_lines.specs.Edits.{replaced}
use Rattle.abc_lines.specs.Text.{Splice, Text, is_line, spliced}
use Rattle.abc_lines.proofs.Splices.{replaced-bad, replaced-inside, replaced-large, replaced-outside}
use Rattle.abc_live_cost.specs.Layout.{layout_of}
use Rattle.abc_live_cost.specs.Origin.{no_origins, origins, origins_of}
use Rattle.abc_tune_compiler.specs.Book.{blocks_in, header_in, opening_of, tunes_in}
use Rattle.abc_tune_compiler.specs.Rules.{Rules}
use Rattle.abc_live_text.specs.Pieces.{IsCarried, IsFolded, cells_in, class_in, origin_in}
use Rattle.abc_live_text.specs.Chains.{AreChains, IsHeaderChainOf}
use Rattle.abc_live_cost.specs.OldItems.{IsChainOf}
use Rattle.abc_live_text.specs.KeptText.{KeptTextView}
use Rattle.abc_live_text.specs.Row.{CarriedRow, carried_row, new_row}
use Rattle.abc_live_text.proofs.WholeRows.{AreRead}

-- A splice that is accepted lies in the text, and makes the spliced one.
pub accepted_splice : (text : Text) (s : Splice) (after : Text) → replaced text s ≡ Ok after → (s.at + s.removed ≤ length text) × (after ≡ spliced text s)
accepted_splice text s after e = ⊎_elim
    (λ (out : length text < s.at + s.removed). let bad = replaced-outside text s out in absurd (cc (bad, e)))
    (λ (inside : s.at + s.removed ≤ length text). ⊎_elim
    (λ (good : list_all is_line s.lines ≡ true). ⊎_elim
    (λ (large : MOST_LINES < length (spliced text s)). let bad = replaced-large text s inside good large in absurd (cc (bad, e)))
    (λ (small : length (spliced text s) ≤ MOST_LINES). let own = replaced-inside text s inside good small in (inside, cc (own, e)))
    (cases_lt MOST_LINES (length (spliced text s))))
    (λ (wrong : list_all is_line s.lines ≡ false). let bad = replaced-bad text s inside wrong in absurd (cc (bad, e)))
    (cases_Bool (list_all is_line s.lines)))
    (cases_lt (length text) (s.at + s.removed))

-- The same of a kept text, seen as it is now.
pub accepted_now : {C State Cell Items : Type 0} {was now : KeptTextView C State Cell Items} (view : was ≡ now) (s : Splice) (after : Text)
    → replaced was.lines.text s ≡ Ok after → (s.at + s.removed ≤ length now.lines.text) × (after ≡ spliced now.lines.text s)
accepted_now {C = C} {State = State} {Cell = Cell} {Items = Items} {now = now} view s after e =
    accepted_splice now.lines.text s after (subst (λ (k : KeptTextView C State Cell Items). replaced k.lines.text s ≡ Ok after) view e)

-- A new line, whose cells no chain holds.
abbrev pub fresh_row : {State Cell Items Defaults : Type 0} → Rules State Cell Items Defaults → List ℕ → CarriedRow Cell
fresh_row rules line = carried_row (new_row rules line)

-- Rows of which some are replaced.
abbrev pub edit_of : {State Cell Items Defaults : Type 0} → Rules State Cell Items Defaults → Splice → List (CarriedRow Cell) → List (CarriedRow Cell)
edit_of rules s rows = take s.at rows ++ (map (fresh_row rules) s.lines ++ drop (s.at + s.removed) rows)

new_same : {State Cell Items Defaults A : Type 0} (rules : Rules State Cell Items Defaults) (f : CarriedRow Cell → A)
    (h : List ℕ → A) (lines : Text) → ((line : List ℕ) → f (fresh_row rules line) ≡ h line) → map f (map (fresh_row rules) lines) ≡ map h lines
new_same rules f h [] each = refl
new_same rules f h (line ∷ lines) each = λ i. each line i ∷ new_same rules f h lines each i

pub spliced_is : (text : Text) (s : Splice) → spliced text s ≡ take s.at text ++ (s.lines ++ drop (s.at + s.removed) text)
unfolding spliced
spliced_is text s = append_assoc (take s.at text) s.lines (drop (s.at + s.removed) text)

edit_map : {State Cell Items Defaults A : Type 0} (rules : Rules State Cell Items Defaults) (f : CarriedRow Cell → A)
    (h : List ℕ → A) (s : Splice) (rows : List (CarriedRow Cell)) (text : Text)
    → ((line : List ℕ) → f (fresh_row rules line) ≡ h line) → map f rows ≡ map h text → map f (edit_of rules s rows) ≡ map h (spliced text s)
edit_map rules f h s rows text each e =
    let front : map f (take s.at rows) ≡ map h (take s.at text) = sym (take-map f s.at rows) ∙ (ap (take s.at) e ∙ take-map h s.at text) in
    let tail : map f (drop (s.at + s.removed) rows) ≡ map h (drop (s.at + s.removed) text) =
    sym (drop-map f (s.at + s.removed) rows) ∙ (ap (drop (s.at + s.removed)) e ∙ drop-map h (s.at + s.removed) text) in
    map-append f (take s.at rows) (map (fresh_row rules) s.lines ++ drop (s.at + s.removed) rows)
    ∙ ((λ i. front i ++ map-append f (map (fresh_row rules) s.lines) (drop (s.at + s.removed) rows) i)
    ∙ ((λ i. map h (take s.at text) ++ (new_same rules f h s.lines each i ++ tail i))
    ∙ ((λ i. map h (take s.at text) ++ sym (map-append h s.lines (drop (s.at + s.removed) text)) i)
    ∙ (sym (map-append h (take s.at text) (s.lines ++ drop (s.at + s.removed) text))
    ∙ ap (map h) (sym (spliced_is text s))))))

-- They are those of the spliced text.
pub edit_read : {State Cell Items Defaults : Type 0} (rules : Rules State Cell Items Defaults) (s : Splice)
    (rows : List (CarriedRow Cell)) (text : Text) → AreRead rules text rows → AreRead rules (spliced text s) (edit_of rules s rows)
edit_read rules s rows text read = record {
  classes = edit_map rules class_in rules.class s rows text (λ line. refl) read.classes;
  cells = edit_map rules cells_in rules.cells s rows text (λ line. refl) read.cells;
}

new_origins : {State Cell Items Defaults : Type 0} (rules : Rules State Cell Items Defaults) (lines : Text) → map origin_in (map (fresh_row rules) lines) ≡ no_origins lines
new_origins rules [] = refl
new_origins rules (line ∷ lines) = ap (λ l. None ∷ l) (new_origins rules lines)

pub edit_origins : {State Cell Items Defaults : Type 0} (steps : Steps State Cell Items) (rules : Rules State Cell Items Defaults)
    (s : Splice) (rows : List (CarriedRow Cell)) (text : Text)
    → map origin_in rows ≡ origins_of rules.cells (layout_of steps rules text) → map origin_in (edit_of rules s rows) ≡ origins rules.cells (layout_of steps rules text) s
edit_origins steps rules s rows text e =
    map-append origin_in (take s.at rows) (map (fresh_row rules) s.lines ++ drop (s.at + s.removed) rows)
    ∙ ((λ i. sym (take-map origin_in s.at rows) i ++ map-append origin_in (map (fresh_row rules) s.lines) (drop (s.at + s.removed) rows) i)
    ∙ ((λ i. take s.at (map origin_in rows) ++ (new_origins rules s.lines i ++ sym (drop-map origin_in (s.at + s.removed) rows) i))
    ∙ (λ i. take s.at (e i) ++ (no_origins s.lines ++ drop (s.at + s.removed) (e i)))))

new_carried : {State Cell Items Defaults : Type 0} (rules : Rules State Cell Items Defaults)
    (chains : List (ChainView State Cell Items)) (lines : Text) → All (IsCarried chains) (map (fresh_row rules) lines)
new_carried rules chains [] = All-nil (IsCarried chains)
new_carried rules chains (line ∷ lines) = All-cons (IsCarried chains) (fresh_row rules line) (map (fresh_row rules) lines) tt (new_carried rules chains lines)

pub edit_carried : {State Cell Items Defaults : Type 0} (rules : Rules State Cell Items Defaults)
    (chains : List (ChainView State Cell Items)) (s : Splice) (rows : List (CarriedRow Cell)) → All (IsCarried chains) rows → All (IsCarried chains) (edit_of rules s rows)
edit_carried rules chains s rows all =
    All-append (IsCarried chains) (take s.at rows) (map (fresh_row rules) s.lines ++ drop (s.at + s.removed) rows) (All-take (IsCarried chains) s.at rows all)
    (All-append (IsCarried chains) (map (fresh_row rules) s.lines) (drop (s.at + s.removed) rows) (new_carried rules chains s.lines) (All-drop (IsCarried chains) (s.at + s.removed) rows all))

tunes_folded : {State Cell Items : Type 0} (steps : Steps State Cell Items) (read : List ℕ → List Cell) (opening : State)
    (text : Text) (chains : List (ChainView State Cell Items)) (blocks : List Block) → AllZip (IsChainOf steps read opening text) chains blocks → All (IsFolded steps) chains
tunes_folded steps read opening text [] blocks all = All-nil (IsFolded steps)
tunes_folded steps read opening text (chain ∷ chains) [] all = absurd all
tunes_folded steps read opening text (chain ∷ chains) (block ∷ blocks) all =
    All-cons (IsFolded steps) chain chains (inr (opening, all.0.folds)) (tunes_folded steps read opening text chains blocks all.1)

header_folded : {State Cell Items Defaults : Type 0} (steps : Steps State Cell Items) (rules : Rules State Cell Items Defaults)
    (text : Text) (chain : ChainView State Cell Items) (header : Option Block) → IsHeaderChainOf steps rules text chain header → IsFolded steps chain
header_folded steps rules text chain None own = inl own
header_folded steps rules text chain (Some block) own = inr (rules.header, own.folds)

-- The chains of a text are folds.
pub are_folded : {State Cell Items Defaults : Type 0} (steps : Steps State Cell Items) (rules : Rules State Cell Items Defaults)
    (text : Text) (chains : List (ChainView State Cell Items)) → AreChains steps rules text chains → All (IsFolded steps) chains
are_folded steps rules text [] own = absurd own
are_folded steps rules text (chain ∷ chains) own =
    All-cons (IsFolded steps) chain chains (header_folded steps rules text chain (header_in (blocks_in rules text)) own.0)
    (tunes_folded steps rules.cells (opening_of steps.next rules text (blocks_in rules text)) text chains (tunes_in (blocks_in rules text)) own.1)
