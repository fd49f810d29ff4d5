-- The view of a prepared edit, by what was folded again.
use Rattle.std.proofs.Common.{◌≡◌, ◌⊎◌, ℕ, suc, ◌+◌, ◌≤◌, List, [], ◌∷◌, ◌++◌, map, Option, Some, None, All, length, take}
use Rattle.std.proofs.Common.{drop, refl, sym, ◌∙◌, ap, subst, arith, ⊎_elim, inl, inr, length-append, length-drop}
use Rattle.std.proofs.lemmas.List.Elements.{All-cons, All-nil}
use Rattle.abc_book.specs.Laws.{move_block}
use Rattle.abc_book.specs.declared.block.Block.{Block}
use Rattle.abc_fold.specs.Chain.{ChainView}
use Rattle.abc_fold.specs.Steps.{Steps}
use Rattle.abc_lines.specs.Text.{Splice, Text, spliced}
use Rattle.abc_tune_compiler.specs.Rules.{Rules}
use Rattle.abc_live_text.specs.Pieces.{LiesWithin}
use Rattle.abc_live_text.specs.Chains.{AreChains}
use Rattle.abc_live_text.specs.NewParts.{HeaderIsReplaced, AreNewParts, MayReplaceHeader, HeaderStays, chains_after}
use Rattle.abc_live_text.specs.NewParts.{NewPartsView, tunes_after}
use Rattle.abc_live_text.specs.Row.{Row}
use Rattle.abc_live_text.specs.KeptText.{AreRows, TextPatchView, IsStretch, KeptTextView, LiesInNew, ArePartsOf, block_after}
use Rattle.abc_live_text.specs.KeptText.{Parts, text_patch_view, parts}
use Rattle.abc_live_text.proofs.EditCost.{IsKept}
use Rattle.abc_live_text.specs.declared.stretch.Stretch.{Stretch}
use Rattle.std.proofs.lemmas.List.{length-take-le, length-map}
use Rattle.abc_live_text.proofs.Edits.{spliced_is}

all_among : (stretch : Stretch) (tunes : List Block) → All (LiesWithin stretch.lines.came) tunes → All (LiesInNew stretch) (map (move_block stretch.lines.from) tunes)
all_among stretch [] all = All-nil (LiesInNew stretch)
all_among stretch (block ∷ tunes) all =
    let known = all 0 block (omega arith) in
    let own : LiesInNew stretch (move_block stretch.lines.from block) = (omega arith, omega (arith, known.1)) in
    All-cons (LiesInNew stretch) (move_block stretch.lines.from block) (map (move_block stretch.lines.from) tunes) own (all_among stretch tunes (λ i d l. all (suc i) d (omega arith)))

drop-chains_after : {State Cell Items Defaults : Type 0} (steps : Steps State Cell Items) (rules : Rules State Cell Items Defaults)
    (text : Text) (first : Option (ChainView State Cell Items)) (stretch : Stretch) (old made : List (ChainView State Cell Items)) → AreChains steps rules text old
    → drop 1 (chains_after first stretch old made) ≡ take stretch.tunes.from (drop 1 old) ++ (made ++ drop stretch.tunes.to (drop 1 old))
drop-chains_after steps rules text first stretch [] made own = absurd own
drop-chains_after steps rules text None stretch (chain ∷ tunes) made own = refl
drop-chains_after steps rules text (Some new) stretch (chain ∷ tunes) made own = refl

take-chains_after : {State Cell Items Defaults : Type 0} (steps : Steps State Cell Items) (rules : Rules State Cell Items Defaults)
    (text : Text) (first : Option (ChainView State Cell Items)) (stretch : Stretch) (old made : List (ChainView State Cell Items)) → AreChains steps rules text old → first ≡ None
    → take 1 (chains_after first stretch old made) ≡ take 1 old
take-chains_after steps rules text first stretch [] made own none = absurd own
take-chains_after steps rules text None stretch (chain ∷ tunes) made own none = refl
take-chains_after steps rules text (Some new) stretch (chain ∷ tunes) made own none = absurd (cc)

-- What a prepared edit shows of a kept text, the text after it, what is kept of that, and what was folded again.
abbrev pub patch_view : {C State Cell Items : Type 0} → KeptTextView C State Cell Items → Text → Parts State Cell Items → NewPartsView State Cell Items → List Block → TextPatchView C State Cell Items
patch_view on text kept new places = text_patch_view on text kept new.stretch new.new_chains places new.reused_tunes

module _ {C State Cell Items Defaults : Type 0} {steps : Steps State Cell Items} {rules : Rules State Cell Items Defaults}
    {on : KeptTextView C State Cell Items} {s : Splice} {new : NewPartsView State Cell Items}
    (kept : IsKept steps rules on) (new_parts : AreNewParts steps rules on s new) where
  -- A new file header comes with the first tunes.
  pub may_be_anew : MayReplaceHeader new.first new.stretch
  may_be_anew = by_first new.first new_parts.keeps
    where
      by_first : (first : Option (ChainView State Cell Items)) → HeaderStays first new.header on.header new.stretch ⊎ HeaderIsReplaced first new.header on.header new.stretch
          → MayReplaceHeader first new.stretch
      by_first None keeps = tt
      by_first (Some first) (inl stays) = absurd (let bad = stays.none in cc)
      by_first (Some first) (inr anew) = anew.front

  -- What is kept of the new text.
  pub new_parts_are : {text : Text} {rows : List (Row Cell)} {all : List Block} {chains : List (ChainView State Cell Items)} → text ≡ spliced on.lines.text s
      → AreRows rules (spliced on.lines.text s) rows → all ≡ tunes_after new.stretch on.tunes new.tunes → chains ≡ chains_after new.first new.stretch on.chains.items new.new_chains
      → ArePartsOf steps rules text (parts rows new.header all chains)
  new_parts_are {rows = rows} {all = all} {chains = chains} x read t c = subst (λ (text : Text). ArePartsOf steps rules text (parts rows new.header all chains)) (sym x) (record {
    read = read;
    header_is = new_parts.header_is;
    tunes_are = t ∙ sym new_parts.tunes_are;
    chains_are = subst (AreChains steps rules (spliced on.lines.text s)) (sym c) new_parts.chains_are;
  })

  -- The stretch.
  pub new_stretch : {text : Text} {rows : List (Row Cell)} {all places : List Block} {chains : List (ChainView State Cell Items)}
      → text ≡ spliced on.lines.text s → all ≡ tunes_after new.stretch on.tunes new.tunes → places ≡ map (move_block new.stretch.lines.from) new.tunes
      → chains ≡ chains_after new.first new.stretch on.chains.items new.new_chains
      → IsStretch s (patch_view on text (parts rows new.header all chains) new places)
  new_stretch {text = text} {rows = rows} {all = all} {places = places} {chains = chains} x t p c = record {
    order = new_parts.order;
    count = new_parts.most;
    begins = new_parts.begins;
    ends = new_parts.ends;
    inside = new_parts.inside;
    came = new_parts.came;
    chains_are = ap (drop 1) c ∙ drop-chains_after steps rules on.lines.text new.first new.stretch on.chains.items new.new_chains kept.parts_are.chains_are;
    tunes_are = t ∙ ap (λ l. take new.stretch.tunes.from on.tunes ++ (l ++ map (block_after new.stretch) (drop new.stretch.tunes.to on.tunes))) (sym p);
    places_count = ap length p ∙ (length-map new.tunes (move_block new.stretch.lines.from) ∙ sym new_parts.count);
    before = new_parts.before;
    beyond = new_parts.beyond;
    among = subst (All (LiesInNew new.stretch)) (sym p) (all_among new.stretch new.tunes new_parts.among);
    amid = new_parts.amid;
    header_is = ⊎_elim
        (λ (stays : HeaderStays new.first new.header on.header new.stretch). inr (record {
          header = stays.header_stays;
          chain = ap (take 1) c ∙ take-chains_after steps rules on.lines.text new.first new.stretch on.chains.items new.new_chains kept.parts_are.chains_are stays.none;
          before = stays.before;
        }))
        (λ (anew : HeaderIsReplaced new.first new.header on.header new.stretch). inl (record { front = anew.front; from = anew.from; goes = anew.goes; comes = anew.comes }))
        new_parts.keeps;
    lines_before = ap (take new.stretch.lines.from) x ∙ new_parts.lines_before;
    lines_after = ap (drop (new.stretch.lines.from + new.stretch.lines.came)) x ∙ new_parts.lines_after;
  }

-- A stretch has no more lines than the text.
pub came_small : {C State Cell Items Defaults : Type 0} {steps : Steps State Cell Items} {rules : Rules State Cell Items Defaults} {on : KeptTextView C State Cell Items} {s : Splice}
    {new : NewPartsView State Cell Items} → s.at + s.removed ≤ length on.lines.text → AreNewParts steps rules on s new
    → (most : ℕ) → length (spliced on.lines.text s) ≤ most → new.stretch.lines.came ≤ most
came_small {on = on} {s = s} {new = new} inside new_parts most limit =
    let parts = ap length (spliced_is on.lines.text s) in
    let a = length-append (take s.at on.lines.text) (s.lines ++ drop (s.at + s.removed) on.lines.text) in
    let b = length-append s.lines (drop (s.at + s.removed) on.lines.text) in
    let c = length-take-le s.at on.lines.text (omega (arith, inside)) in
    let d = length-drop (s.at + s.removed) on.lines.text in
    omega (arith, parts, a, b, c, d, inside, limit, new_parts.begins, new_parts.ends, new_parts.inside, new_parts.came)
