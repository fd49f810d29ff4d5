-- The stretch of a prepared edit: its lines, its chains and their places.
use Rattle.std.proofs.Common.{◌≡◌, ℕ, ◌+◌, ◌<◌, ◌≤◌, true, List, [], ◌∷◌, ◌++◌, length, drop, map, take, flat_map, Option, Some}
use Rattle.std.proofs.Common.{None, slice_get, refl, sym, ap, ◌∙◌, subst, inl, inr, arith}
use Rattle.std.specs.List.{AllZip, list_all}
use Rattle.std.specs.Prelude.{All, IfSome, ◌⊎◌}
use Rattle.std.proofs.lemmas.List.{drop-map, length-map, take-map, map-append}
use Rattle.std.proofs.lemmas.List.Elements.{All-head, All-tail}
use Rattle.abc_book.specs.declared.block.Block.{Block}
use Rattle.abc_live_text.specs.Chains.{IsHeaderChainOf, state_after_chain}
use Rattle.abc_live_cost.specs.OldItems.{IsChainOf}
use Rattle.abc_live_text.specs.KeptText.{TextPatchView, HoldsHeader, KeepsHeader, block_after, old_tunes}
use Rattle.abc_live_text.proofs.Openings.{opening_alike}
use Rattle.abc_tune_compiler.specs.Lawful.{AreLawful}
use Rattle.abc_fold.specs.Chain.{ChainView}
use Rattle.abc_fold.specs.Steps.{Steps, IsAlike, IsResumable, items_from}
use Rattle.abc_fold.proofs.Alike.{equal_items}
use Rattle.abc_lines.specs.Text.{Splice, Text, is_line}
use Rattle.abc_lines.proofs.Splices.{length-spliced}
use Rattle.abc_live_session.specs.Prepared.{HeaderCells, IsPrepared, count_in}
use Rattle.abc_live_session.proofs.AlikeStates.{chains_alike}
use Rattle.abc_live_session.proofs.TunePlaces.{LiesIn, all_first, all_second, header_lies, tunes_lie}
use Rattle.abc_live_session.proofs.Parts.{map-count_in_rows, header_chain, some_chain, tune_chains}
use Rattle.abc_live_session.proofs.Zips.{zip_after, zip_fronts, zip_middle, zip_rest}
use Rattle.abc_live_index.specs.Output.{ReusesOutput, counts_of, output_in}
use Rattle.abc_live_index.specs.Tunes.{HasCells, IsTuneAt, LiesAmong, counts_among, line_run, lowered_place}
use Rattle.abc_live_index.proofs.ChainOutputs.{has_cells, zipped_cells}
use Rattle.abc_live_index.proofs.Keys.{all_dropped, all_reused_tunes}
use Rattle.abc_live_index.proofs.OutputLists.{zipped_count}
use Rattle.abc_live_index.proofs.OutputPlaces.{among, among_inside}
use Rattle.abc_live_index.proofs.OutputReuse.{items_suffice}
use Rattle.abc_tune_compiler.specs.Book.{state_after_header, blocks_in, opening_of}
use Rattle.abc_tune_compiler.specs.Rules.{Rules}
use Rattle.abc_tune_compiler.specs.Tune.{lines_in}

-- places that lie in order, and among lines
lies_among : (from came count : ℕ) (places : List Block) → All (λ (place : Block). (from ≤ place.from) × (place.to ≤ from + came)) places → All (LiesIn count) places → All (LiesAmong from came) places
lies_among from came count places there own =
    λ k d inside.
    let following = (there k d inside).0 in
    let within = (there k d inside).1 in
    let some = (own k d inside).some in
    record { following = following; order = omega (arith, some); within = within }

-- a tune of a stretch gives the items that its key has
tune_at : {State Cell Items Defaults : Type 0} (steps : Steps State Cell Items) (rules : Rules State Cell Items Defaults)
    (laws : IsResumable steps) (opening : State) (left : Option State) (from came : ℕ) (text : Text) (chain : ChainView State Cell Items) (place : Block)
    → IsAlike steps (rules.tune left) opening → from + came ≤ length text → LiesAmong from came place → IsChainOf steps rules.cells opening text chain place
    → IsTuneAt steps rules (line_run left from (take came (drop from text))) chain place
tune_at steps rules laws opening left from came text chain place alike inside lies is =
    let many = among_inside text from came inside in
    let within = lies.within in
    let cells : chain.cells ≡ flat_map rules.cells (lines_in (take came (drop from text)) (lowered_place from place)) =
    is.cells ∙ ap (flat_map rules.cells) (sym (among text from came place.from place.to lies.following lies.order lies.within)) in
    record {
      lies = record { following = lies.following; order = lies.order; within = omega (arith, within, many) };
      items = is.folds.items ∙ sym (equal_items steps laws (rules.tune left) opening chain.cells alike) ∙ ap (items_from steps (rules.tune left)) cells;
    }

tunes_at : {State Cell Items Defaults : Type 0} (steps : Steps State Cell Items) (rules : Rules State Cell Items Defaults)
    (laws : IsResumable steps) (opening : State) (left : Option State) (from came : ℕ) (text : Text) (chains : List (ChainView State Cell Items)) (places : List Block)
    → IsAlike steps (rules.tune left) opening → from + came ≤ length text → All (LiesAmong from came) places → AllZip (IsChainOf steps rules.cells opening text) chains places
    → AllZip (IsTuneAt steps rules (line_run left from (take came (drop from text)))) chains places
tunes_at steps rules laws opening left from came text [] [] alike inside lie all = tt
tunes_at steps rules laws opening left from came text [] (place ∷ places) alike inside lie all = absurd all
tunes_at steps rules laws opening left from came text (chain ∷ chains) [] alike inside lie all = absurd all
tunes_at steps rules laws opening left from came text (chain ∷ chains) (place ∷ places) alike inside lie all = (
  tune_at steps rules laws opening left from came text chain place alike inside (All-head (LiesAmong from came) place places lie) all.0,
  tunes_at steps rules laws opening left from came text chains places alike inside (All-tail (LiesAmong from came) place places lie) all.1,
)

-- a file header that does not lie before a stretch lies in it, since this then begins with the text
header_cells : {State Cell Items Defaults : Type 0} (steps : Steps State Cell Items) (rules : Rules State Cell Items Defaults)
    (text : Text) (from came : ℕ) (first : ChainView State Cell Items) (header : Option Block)
    → from + came ≤ length text → IfSome header (LiesIn (length text)) → IsHeaderChainOf steps rules text first header
    → ((block : Block) → header ≡ Some block → from < block.to → (from ≡ 0) × (block.to ≤ came))
    → HeaderCells from (counts_among rules.cells text from came) first header
header_cells steps rules text from came first None inside lies is held = tt
header_cells steps rules text from came first (Some block) inside lies is held =
    λ reaches.
    let all = held block refl reaches in
    let none = all.0 in
    let most = all.1 in
    let some = lies.some in
    let there : LiesAmong from came block = record { following = omega (arith, none); order = omega (arith, some); within = omega (arith, none, most) } in
    has_cells steps rules.cells rules.header text first block is from came there inside

module _ {C State Cell Items Defaults : Type 0} (steps : Steps State Cell Items) (rules : Rules State Cell Items Defaults)
    (s : Splice) (patch : TextPatchView C State Cell Items) (is : IsPrepared steps rules s patch) where
  pub change_inside : s.at + s.removed ≤ length patch.on.lines.text
  change_inside =
      let ends = is.in_stretch.ends in
      let inside = is.in_stretch.inside in
      omega (arith, ends, inside)

  pub length-text : length patch.text + s.removed ≡ length patch.on.lines.text + length s.lines
  length-text = ap (λ (t : Text). length t + s.removed) is.makes ∙ length-spliced patch.on.lines.text s change_inside

  -- the stretch lies in the new text
  pub stretch_inside : patch.stretch.lines.from + patch.stretch.lines.came ≤ length patch.text
  stretch_inside =
      let ends = is.in_stretch.ends in
      let begins = is.in_stretch.begins in
      let inside = is.in_stretch.inside in
      let count = is.in_stretch.came in
      let long = length-text in
      omega (arith, ends, begins, inside, count, long)

  pub old_stretch : patch.stretch.lines.from ≤ patch.stretch.lines.to
  old_stretch =
      let ends = is.in_stretch.ends in
      let begins = is.in_stretch.begins in
      omega (arith, ends, begins)

  pub length-rows : length patch.rows ≡ length patch.text
  length-rows = sym (length-map patch.rows count_in) ∙ ap length (map-count_in_rows rules patch.text patch.rows is.new_parts.read) ∙ length-map patch.text (λ line. length (rules.cells line))

  -- the lines of the stretch are within the limits
  pub list_all-lines : list_all is_line (take patch.stretch.lines.came (drop patch.stretch.lines.from patch.text)) ≡ true
  list_all-lines = all_reused_tunes is_line patch.stretch.lines.came (drop patch.stretch.lines.from patch.text) (all_dropped is_line patch.stretch.lines.from patch.text is.limits.lines)

  -- how many cells each has
  pub map-counts : map count_in (take patch.stretch.lines.came (drop patch.stretch.lines.from patch.rows)) ≡ counts_among rules.cells patch.text patch.stretch.lines.from patch.stretch.lines.came
  map-counts =
      sym (take-map count_in patch.stretch.lines.came (drop patch.stretch.lines.from patch.rows))
      ∙ ap (take patch.stretch.lines.came) (sym (drop-map count_in patch.stretch.lines.from patch.rows))
      ∙ ap (λ counts. take patch.stretch.lines.came (drop patch.stretch.lines.from counts)) (map-count_in_rows rules patch.text patch.rows is.new_parts.read)

  pub length-counts_among : length (counts_among rules.cells patch.text patch.stretch.lines.from patch.stretch.lines.came) ≡ patch.stretch.lines.came
  length-counts_among =
      among_inside (counts_of rules.cells patch.text) patch.stretch.lines.from patch.stretch.lines.came (omega (arith, stretch_inside, length-map patch.text (λ line. length (rules.cells line))))

  -- the old and the new tunes lie in their texts
  pub old_lie : All (LiesIn (length patch.on.lines.text)) patch.on.tunes
  old_lie = tunes_lie rules.class patch.on.lines.text patch.on.tunes is.old_parts.tunes_are

  pub new_lie : All (LiesIn (length patch.text)) patch.tunes
  new_lie = tunes_lie rules.class patch.text patch.tunes is.new_parts.tunes_are

  pub parts_lie : All (LiesIn (length patch.text)) patch.places
  parts_lie =
      let parts = subst (All (LiesIn (length patch.text))) is.in_stretch.tunes_are new_lie in
      all_first (LiesIn (length patch.text)) patch.places _ (all_second (LiesIn (length patch.text)) (take patch.stretch.tunes.from patch.on.tunes) _ parts)

  pub places_lie : All (LiesAmong patch.stretch.lines.from patch.stretch.lines.came) patch.places
  places_lie = lies_among patch.stretch.lines.from patch.stretch.lines.came (length patch.text) patch.places is.in_stretch.among parts_lie

  -- the chains of the old and of the new tunes
  pub old_chains : AllZip (IsChainOf steps rules.cells (opening_of steps.next rules patch.on.lines.text (blocks_in rules patch.on.lines.text)) patch.on.lines.text) (old_tunes patch) patch.on.tunes
  old_chains = subst (AllZip (IsChainOf steps rules.cells (opening_of steps.next rules patch.on.lines.text
      (blocks_in rules patch.on.lines.text)) patch.on.lines.text) (old_tunes patch)) (sym is.old_parts.tunes_are) (tune_chains steps rules patch.on.lines.text patch.on.chains.items is.old_parts.chains_are)

  pub new_chains : AllZip (IsChainOf steps rules.cells (opening_of steps.next rules patch.text (blocks_in rules patch.text)) patch.text) (drop 1 patch.chains) patch.tunes
  new_chains = subst (AllZip (IsChainOf steps rules.cells (opening_of steps.next rules patch.text
      (blocks_in rules patch.text)) patch.text) (drop 1 patch.chains)) (sym is.new_parts.tunes_are) (tune_chains steps rules patch.text patch.chains is.new_parts.chains_are)

  pub length-old_tunes : length (old_tunes patch) ≡ length patch.on.tunes
  length-old_tunes = zipped_count (IsChainOf steps rules.cells (opening_of steps.next rules patch.on.lines.text
      (blocks_in rules patch.on.lines.text)) patch.on.lines.text) (old_tunes patch) patch.on.tunes old_chains

  -- those of the stretch
  pub made_chains : AllZip (IsChainOf steps rules.cells (opening_of steps.next rules patch.text (blocks_in rules patch.text)) patch.text) patch.new_chains patch.places
  made_chains =
      let R = IsChainOf steps rules.cells (opening_of steps.next rules patch.text (blocks_in rules patch.text)) patch.text in
      let parts : AllZip R (take patch.stretch.tunes.from (old_tunes patch) ++
      (patch.new_chains ++ drop patch.stretch.tunes.to (old_tunes patch))) patch.tunes = subst (λ chains. AllZip R chains patch.tunes) is.in_stretch.chains_are new_chains in
      let both = subst (AllZip R (take patch.stretch.tunes.from (old_tunes patch) ++ (patch.new_chains ++ drop patch.stretch.tunes.to (old_tunes patch)))) is.in_stretch.tunes_are parts in
      zip_middle R (take patch.stretch.tunes.from (old_tunes patch)) patch.new_chains _ (take patch.stretch.tunes.from patch.on.tunes) patch.places _
      (zip_fronts (IsChainOf steps rules.cells (opening_of steps.next rules patch.on.lines.text
      (blocks_in rules patch.on.lines.text)) patch.on.lines.text) patch.stretch.tunes.from (old_tunes patch) patch.on.tunes old_chains)
      (sym is.in_stretch.places_count) both

  -- those after the stretch: if there are any, the tunes begin in a state equivalent to the old one
  pub still_alike : IsResumable steps → (drop patch.stretch.tunes.to patch.on.tunes ≡ [])
      ⊎ IsAlike steps (opening_of steps.next rules patch.on.lines.text (blocks_in rules patch.on.lines.text)) (opening_of steps.next rules patch.text (blocks_in rules patch.text))
  still_alike laws =
      let was = opening_of steps.next rules patch.on.lines.text (blocks_in rules patch.on.lines.text) in
      let now = opening_of steps.next rules patch.text (blocks_in rules patch.text) in
      let P = IsChainOf steps rules.cells was patch.on.lines.text in
      let R = IsChainOf steps rules.cells now patch.text in
      let parts : AllZip R (take patch.stretch.tunes.from (old_tunes patch) ++
      (patch.new_chains ++ drop patch.stretch.tunes.to (old_tunes patch))) patch.tunes = subst (λ chains. AllZip R chains patch.tunes) is.in_stretch.chains_are new_chains in
      let both = subst (AllZip R (take patch.stretch.tunes.from (old_tunes patch) ++ (patch.new_chains ++ drop patch.stretch.tunes.to (old_tunes patch)))) is.in_stretch.tunes_are parts in
      let following = zip_after R (take patch.stretch.tunes.from (old_tunes patch)) patch.new_chains
      (drop patch.stretch.tunes.to (old_tunes patch)) (take patch.stretch.tunes.from patch.on.tunes) patch.places (map (block_after patch.stretch) (drop patch.stretch.tunes.to patch.on.tunes))
      (zip_fronts P patch.stretch.tunes.from (old_tunes patch) patch.on.tunes old_chains) (sym is.in_stretch.places_count) both in
      chains_alike steps laws rules.cells was now patch.on.lines.text patch.text (drop patch.stretch.tunes.to (old_tunes patch))
      (drop patch.stretch.tunes.to patch.on.tunes) (map (block_after patch.stretch) (drop patch.stretch.tunes.to patch.on.tunes))
      (zip_rest P patch.stretch.tunes.to (old_tunes patch) patch.on.tunes old_chains) following

  pub made_cells : AllZip (HasCells patch.stretch.lines.from (counts_among rules.cells patch.text patch.stretch.lines.from patch.stretch.lines.came)) patch.new_chains patch.places
  made_cells =
      zipped_cells steps rules (opening_of steps.next rules patch.text (blocks_in rules patch.text)) patch.text patch.stretch.lines.from patch.stretch.lines.came patch.new_chains patch.places
      made_chains places_lie stretch_inside

  pub chain_there : 1 ≤ length patch.chains
  chain_there = some_chain steps rules patch.text patch.chains is.new_parts.chains_are

  -- what the stretch reuses
  pub takes_over : AllZip (ReusesOutput rules (map (output_in rules) (old_tunes patch))) patch.new_chains patch.reused_tunes
  takes_over = items_suffice rules (old_tunes patch) patch.new_chains patch.reused_tunes is.own_items

  module _ (first : ChainView State Cell Items) (there : slice_get patch.chains 0 ≡ Some first) where
    -- the chain of the file header
    pub first_is : IsHeaderChainOf steps rules patch.text first patch.header
    first_is = subst (IsHeaderChainOf steps rules patch.text first) (sym is.new_parts.header_is) (header_chain steps rules patch.text patch.chains first is.new_parts.chains_are there)

    -- the tunes of the stretch begin in a state equivalent to the one after the file header
    pub made_tunes : IsResumable steps → AreLawful steps rules
        → AllZip (IsTuneAt steps rules (line_run (state_after_chain patch.header first) patch.stretch.lines.from
        (take patch.stretch.lines.came (drop patch.stretch.lines.from patch.text)))) patch.new_chains patch.places
    made_tunes laws lawful =
        let own = opening_of steps.next rules patch.text (blocks_in rules patch.text) in
        let alike : IsAlike steps (rules.tune (state_after_chain patch.header first)) own =
        subst (λ h. IsAlike steps (rules.tune (state_after_chain patch.header first))
        (rules.tune (state_after_header steps.next rules patch.text h))) is.new_parts.header_is (opening_alike steps rules patch.text first patch.header laws lawful first_is) in
        tunes_at steps rules laws own (state_after_chain patch.header first) patch.stretch.lines.from patch.stretch.lines.came
        patch.text patch.new_chains patch.places alike stretch_inside places_lie made_chains

    -- if a file header reaches into the stretch, the stretch begins with the text and has all of it
    pub held_there : HoldsHeader patch ⊎ KeepsHeader patch → (block : Block) → patch.header ≡ Some block → patch.stretch.lines.from < block.to
        → (patch.stretch.lines.from ≡ 0) × (block.to ≤ patch.stretch.lines.came)
    held_there (inl holds) block header reaches = (holds.from, holds.comes block header)
    held_there (inr keeps) block header reaches =
        let before = keeps.before block (sym keeps.header ∙ header) in
        absurd (omega (arith, before, reaches))

    pub first_cells : HeaderCells patch.stretch.lines.from (counts_among rules.cells patch.text patch.stretch.lines.from patch.stretch.lines.came) first patch.header
    first_cells =
        header_cells steps rules patch.text patch.stretch.lines.from patch.stretch.lines.came first patch.header stretch_inside
        (header_lies rules.class patch.text patch.header is.new_parts.header_is) first_is (held_there is.in_stretch.header_is)

  -- what the tunes give
  pub take-new_outputs : take patch.stretch.tunes.from (map (output_in rules) (old_tunes patch)) ++
      (map (output_in rules) patch.new_chains ++ drop patch.stretch.tunes.to (map (output_in rules) (old_tunes patch))) ≡ map (output_in rules) (drop 1 patch.chains)
  take-new_outputs =
      let f = output_in rules in
      ap (λ l. l ++ (map f patch.new_chains ++ drop patch.stretch.tunes.to (map f (old_tunes patch)))) (take-map f patch.stretch.tunes.from (old_tunes patch))
      ∙ ap (λ l. map f (take patch.stretch.tunes.from (old_tunes patch)) ++ (map f patch.new_chains ++ l)) (drop-map f patch.stretch.tunes.to (old_tunes patch))
      ∙ ap (λ l. map f (take patch.stretch.tunes.from (old_tunes patch)) ++ l) (sym (map-append f patch.new_chains (drop patch.stretch.tunes.to (old_tunes patch))))
      ∙ sym (map-append f (take patch.stretch.tunes.from (old_tunes patch)) (patch.new_chains ++ drop patch.stretch.tunes.to (old_tunes patch)))
      ∙ ap (map f) (sym is.in_stretch.chains_are)
