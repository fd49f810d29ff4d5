-- The chains and the rows of a text, with others instead of some.
use Rattle.std.proofs.Common.{◌≡◌, ℕ, suc, ◌+◌, ◌-◌, ◌≤◌, List, [], ◌∷◌, ◌++◌, map, Option, Some, None, Result, Ok, Err, IfOk}
use Rattle.std.proofs.Common.{length, take, drop, sym, ◌∙◌, ap, subst, arith, append_assoc}
use Rattle.std.proofs.lemmas.List.{map-append, take-map, drop-map}
use Rattle.abc_fold.specs.Chain.{ChainView}
use Rattle.abc_lines.specs.GapList.{GapListView, replaced_run}
use Rattle.abc_lines.specs.ListSplice.{SplicePatchView, after_splice}
use Rattle.abc_lines.specs.Text.{Text, spliced}
use Rattle.abc_tune_compiler.specs.Rules.{Rules}
use Rattle.abc_live_text.specs.NewParts.{MayReplaceHeader, chains_after, splice_at}
use Rattle.abc_live_text.specs.Row.{Row, new_row, row_cells, row_class}
use Rattle.abc_live_text.specs.KeptText.{AreRows, KeptTextView}
use Rattle.abc_live_text.specs.declared.stretch.Stretch.{Stretch}
use Rattle.abc_live_text.proofs.Edits.{spliced_is}
use Rattle.abc_live_text.proofs.FreshSteps.{map-over}

-- What a splice of a list leaves.
pub items_after : {X : Type 0} (list after : GapListView X) (at removed : ℕ) (new : List X) → after ≡ after_splice list at removed new → after.items ≡ replaced_run list.items at removed new
unfolding after_splice
items_after {X = X} list after at removed new e = ap (λ (l : GapListView X). l.items) e

-- The chains if the file header's stays.
pub chains_same : {State Cell Items : Type 0} (stretch : Stretch) (old made : List (ChainView State Cell Items)) → stretch.tunes.from ≤ stretch.tunes.to → stretch.tunes.to + 1 ≤ length old
    → replaced_run old (stretch.tunes.from + 1) (stretch.tunes.to - stretch.tunes.from) made ≡ chains_after None stretch old made
chains_same stretch [] made order inside = absurd (omega (arith, inside))
chains_same stretch (first ∷ tunes) made order inside =
    let a : stretch.tunes.from + 1 ≡ suc stretch.tunes.from = omega arith in
    let b : stretch.tunes.from + 1 + (stretch.tunes.to - stretch.tunes.from) ≡ suc stretch.tunes.to = omega (arith, order) in
    (λ i. take (a i) (first ∷ tunes) ++ made ++ drop (b i) (first ∷ tunes)) ∙ append_assoc (first ∷ take stretch.tunes.from tunes) made (drop stretch.tunes.to tunes)

-- The chains if it is folded again.
pub chains_anew : {State Cell Items : Type 0} (first : ChainView State Cell Items) (stretch : Stretch) (old made : List (ChainView State Cell Items))
    → stretch.tunes.from ≡ 0 → stretch.tunes.to + 1 ≤ length old
    → replaced_run old 0 (stretch.tunes.to + 1) (first ∷ made) ≡ chains_after (Some first) stretch old made
chains_anew first stretch [] made front inside = absurd (omega (arith, inside))
chains_anew first stretch (chain ∷ tunes) made front inside =
    let b : 0 + (stretch.tunes.to + 1) ≡ suc stretch.tunes.to = omega arith in
    ap (λ n. first ∷ (made ++ drop n (chain ∷ tunes))) b
    ∙ ap (λ n. first ∷ (take n tunes ++ (made ++ drop stretch.tunes.to tunes))) (sym front)

-- A splice of chains that has been prepared.
pub place_same : {State Cell Items E : Type 0} (result : Result (SplicePatchView (ChainView State Cell Items)) E)
    (list : GapListView (ChainView State Cell Items)) (stretch : Stretch) (first : Option (ChainView State Cell Items))
    (made new : List (ChainView State Cell Items)) → first ≡ None → new ≡ made → stretch.tunes.from ≤ stretch.tunes.to → stretch.tunes.to + 1 ≤ length list.items
    → IfOk result (λ patch. patch.after ≡ after_splice list (stretch.tunes.from + 1) (stretch.tunes.to - stretch.tunes.from) new)
    → IfOk result (λ patch. patch.after.items ≡ chains_after first stretch list.items made)
place_same (Err error) list stretch first made new none same order inside after = tt
place_same (Ok patch) list stretch first made new none same order inside after =
    items_after list patch.after (stretch.tunes.from + 1) (stretch.tunes.to - stretch.tunes.from) new after
    ∙ (ap (replaced_run list.items (stretch.tunes.from + 1) (stretch.tunes.to - stretch.tunes.from)) same
    ∙ (chains_same stretch list.items made order inside ∙ ap (λ f. chains_after f stretch list.items made) (sym none)))

pub place_anew : {State Cell Items E : Type 0} (result : Result (SplicePatchView (ChainView State Cell Items)) E)
    (list : GapListView (ChainView State Cell Items)) (stretch : Stretch) (first : Option (ChainView State Cell Items))
    (own : ChainView State Cell Items) (made new : List (ChainView State Cell Items)) → first ≡ Some own → new ≡ own ∷ made → MayReplaceHeader first stretch → stretch.tunes.to + 1 ≤ length list.items
    → IfOk result (λ patch. patch.after ≡ after_splice list 0 (stretch.tunes.to + 1) new) → IfOk result (λ patch. patch.after.items ≡ chains_after first stretch list.items made)
place_anew (Err error) list stretch first own made new some same anew inside after = tt
place_anew (Ok patch) list stretch first own made new some same anew inside after =
    let is = subst (λ f. MayReplaceHeader f stretch) some anew in
    items_after list patch.after 0 (stretch.tunes.to + 1) new after
    ∙ (ap (replaced_run list.items 0 (stretch.tunes.to + 1)) same
    ∙ (chains_anew own stretch list.items made is inside ∙ ap (λ f. chains_after f stretch list.items made) (sym some)))

-- The rows of the new text.
map_run : {A B : Type 0} (g : A → B) (xs new : List A) (at removed : ℕ) → map g (replaced_run xs at removed new) ≡ take at (map g xs) ++ (map g new ++ drop (at + removed) (map g xs))
map_run g xs new at removed =
    map-append g (take at xs ++ new) (drop (at + removed) xs)
    ∙ ((λ i. map-append g (take at xs) new i ++ sym (drop-map g (at + removed) xs) i)
    ∙ (append_assoc (map g (take at xs)) (map g new) (drop (at + removed) (map g xs)) ∙ ap (λ l. l ++ (map g new ++ drop (at + removed) (map g xs))) (sym (take-map g at xs))))

map_spliced : {B : Type 0} (h : List ℕ → B) (text lines : Text) (at removed : ℕ)
    → map h (spliced text (splice_at at removed lines)) ≡ take at (map h text) ++ (map h lines ++ drop (at + removed) (map h text))
map_spliced h text lines at removed =
    ap (map h) (spliced_is text (splice_at at removed lines))
    ∙ (map-append h (take at text) (lines ++ drop (at + removed) text)
    ∙ (λ i. sym (take-map h at text) i ++ (map-append h lines (drop (at + removed) text) ∙ (λ j. map h lines ++ sym (drop-map h (at + removed) text) j)) i))

-- Rows that were read, by the compiler of a kept text as it is now.
pub read_now : {C State Cell Items Defaults : Type 0} (rules : C → Rules State Cell Items Defaults) {was now : KeptTextView C State Cell Items} (view : was ≡ now)
    (lines : Text) {new : List (Row Cell)} → new ≡ map (new_row (rules was.compiler)) lines → new ≡ map (new_row (rules now.compiler)) lines
read_now {C = C} {State = State} {Cell = Cell} {Items = Items} rules view lines e = e ∙ ap (λ (k : KeptTextView C State Cell Items). map (new_row (rules k.compiler)) lines) view

pub rows_after : {State Cell Items Defaults : Type 0} (rules : Rules State Cell Items Defaults) (text lines : Text)
    (rows new : List (Row Cell)) (at removed : ℕ) → AreRows rules text rows → new ≡ map (new_row rules) lines
    → AreRows rules (spliced text (splice_at at removed lines)) (replaced_run rows at removed new)
rows_after rules text lines rows new at removed read e = record {
  classes = map_run row_class rows new at removed ∙ ((λ i. take at (read.classes i) ++
      ((ap (map row_class) e ∙ map-over row_class (new_row rules) lines) i ++ drop (at + removed) (read.classes i))) ∙ sym (map_spliced rules.class text lines at removed));
  cells = map_run row_cells rows new at removed ∙ ((λ i. take at (read.cells i) ++
      ((ap (map row_cells) e ∙ map-over row_cells (new_row rules) lines) i ++ drop (at + removed) (read.cells i))) ∙ sym (map_spliced rules.cells text lines at removed));
}
