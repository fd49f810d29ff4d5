-- What the parts of a prepared edit are, as code names them.
use Rattle.std.proofs.Common.{◌≡◌, ℕ, ◌+◌, ◌-◌, ◌<◌, ◌≤◌, true, List, ◌++◌, length, drop, map, take, Option, Some, slice_get, sym}
use Rattle.std.proofs.Common.{ap, ◌∙◌, subst, Result, Ok, Err, arith}
use Rattle.std.specs.List.{AllZip, list_all}
use Rattle.std.specs.Prelude.{All, IfOk}
use Rattle.std.proofs.lemmas.List.{length-map}
use Rattle.abc_book.specs.declared.block.Block.{Block}
use Rattle.abc_lines.specs.ItemRange.{removed_count}
use Rattle.abc_live_text.specs.KeptText.{TextPatchView, KeptTextView, old_tunes}
use Rattle.abc_live_text.specs.declared.stretch.Stretch.{Stretch}
use Rattle.abc_fold.specs.Chain.{ChainView}
use Rattle.abc_fold.specs.Steps.{Steps, IsResumable}
use Rattle.abc_live_index.specs.Faults.{faults_after}
use Rattle.abc_lines.specs.LineBuffer.{LineBufferView}
use Rattle.abc_lines.specs.Text.{IsText, Splice, Text, is_line, spliced}
use Rattle.abc_lines.specs.declared.limits.TheConstants.{MOST_LINES}
use Rattle.abc_live_session.specs.Prepared.{HeaderCells, IsBook, IsPrepared, count_in, header_faults_there}
use Rattle.abc_live_session.proofs.Changes.{book_is, faults_after-are, faults_within}
use Rattle.abc_live_session.proofs.TunePlaces.{header_lies}
use Rattle.abc_live_session.proofs.Stretches.{length-counts_among, map-counts, first_cells, list_all-lines, made_cells, take-new_outputs, length-old_tunes}
use Rattle.abc_live_session.proofs.Stretches.{old_lie, stretch_inside, takes_over}
use Rattle.abc_live_index.specs.Output.{ReusesOutput, output_in}
use Rattle.abc_live_index.specs.Tunes.{HasCells, counts_among, faults_by}
use Rattle.abc_live_index.specs.declared.output.Output.{Output}
use Rattle.abc_tune_compiler.specs.Book.{book_of}
use Rattle.abc_tune_compiler.specs.Rules.{Rules}
use Rattle.abc_tune_compiler.specs.declared.fault.Fault.{Fault}

-- what holds of an answer twice
pub ok_both : {A E : Type 0} (answer : Result A E) (P Q R : A → Type 0) → ((x : A) → P x → Q x → R x) → IfOk answer P → IfOk answer Q → IfOk answer R
ok_both (Ok x) P Q R follows one other = follows x one other
ok_both (Err e) P Q R follows one other = one

module _ {C State Cell Items Defaults : Type 0} (steps : Steps State Cell Items) (rules : Rules State Cell Items Defaults)
    (s : Splice) (patch : TextPatchView C State Cell Items) (is : IsPrepared steps rules s patch)
    (text : KeptTextView C State Cell Items) (on : patch.on ≡ text) (stretch : Stretch) (there : stretch ≡ patch.stretch) where
  makes : (held : LineBufferView) → held ≡ text.lines → patch.text ≡ spliced held.text s
  makes held same = is.makes ∙ ap (λ (k : KeptTextView C State Cell Items). spliced k.lines.text s) on ∙ ap (λ (l : LineBufferView). spliced l.text s) (sym same)

  pub lines_inside : (held : LineBufferView) → held ≡ text.lines → stretch.lines.from + stretch.lines.came ≤ length (spliced held.text s)
  lines_inside held same =
      subst (λ (t : Text). stretch.lines.from + stretch.lines.came ≤ length t) (makes held same)
      (subst (λ (x : Stretch). x.lines.from + x.lines.came ≤ length patch.text) (sym there) (stretch_inside steps rules s patch is))

  pub own_lines : (held : LineBufferView) (seen : Text) → held ≡ text.lines
      → seen ≡ take stretch.lines.came (drop stretch.lines.from (spliced held.text s)) → seen ≡ take patch.stretch.lines.came (drop patch.stretch.lines.from patch.text)
  own_lines held seen same are =
      are ∙ ap (λ (t : Text). take stretch.lines.came (drop stretch.lines.from t)) (sym (makes held same)) ∙ ap (λ (x : Stretch). take x.lines.came (drop x.lines.from patch.text)) there

  pub list_all-good : (held : LineBufferView) (seen : Text) → held ≡ text.lines → seen ≡ take stretch.lines.came (drop stretch.lines.from (spliced held.text s)) → list_all is_line seen ≡ true
  list_all-good held seen same are = ap (list_all is_line) (own_lines held seen same are) ∙ list_all-lines steps rules s patch is

  pub own_counts : (counts : List ℕ) → counts ≡ map count_in (take patch.stretch.lines.came (drop patch.stretch.lines.from patch.rows))
      → counts ≡ counts_among rules.cells patch.text patch.stretch.lines.from patch.stretch.lines.came
  own_counts counts are = are ∙ map-counts steps rules s patch is

  pub few_lines : (counts : List ℕ) → counts ≡ map count_in (take patch.stretch.lines.came (drop patch.stretch.lines.from patch.rows)) → stretch.lines.from + length counts ≤ MOST_LINES
  few_lines counts are =
      let many = ap length (own_counts counts are) in
      let long = length-counts_among steps rules s patch is in
      let inside = stretch_inside steps rules s patch is in
      let few = is.limits.count in
      let from = ap (λ (x : Stretch). x.lines.from) there in
      omega (arith, many, long, inside, few, from)

  few_came : stretch.lines.came ≤ MOST_LINES
  few_came =
      let inside = stretch_inside steps rules s patch is in
      let few = is.limits.count in
      let came = ap (λ (x : Stretch). x.lines.came) there in
      omega (arith, inside, few, came)

  pub taken_over : (outputs : List Output) → outputs ≡ map (output_in rules) (drop 1 text.chains.items) → AllZip (ReusesOutput rules outputs) patch.new_chains patch.reused_tunes
  taken_over outputs are =
      let own : outputs ≡ map (output_in rules) (old_tunes patch) = are ∙ ap (λ (k : KeptTextView C State Cell Items). map (output_in rules) (drop 1 k.chains.items)) (sym on) in
      subst (λ (o : List Output). AllZip (ReusesOutput rules o) patch.new_chains patch.reused_tunes) (sym own) (takes_over steps rules s patch is)

  pub cells_there : (counts : List ℕ) → counts ≡ map count_in (take patch.stretch.lines.came (drop patch.stretch.lines.from patch.rows))
      → AllZip (HasCells stretch.lines.from counts) patch.new_chains patch.places
  cells_there counts are =
      subst (λ (x : Stretch). AllZip (HasCells x.lines.from counts) patch.new_chains patch.places) (sym there)
      (subst (λ c. AllZip (HasCells patch.stretch.lines.from c) patch.new_chains patch.places) (sym (own_counts counts are)) (made_cells steps rules s patch is))

  pub after_inside : (outputs : List Output) → outputs ≡ map (output_in rules) (drop 1 text.chains.items) → stretch.tunes.to ≤ length outputs
  after_inside outputs are =
      let many = ap length are ∙ length-map (drop 1 text.chains.items) (output_in rules)
      ∙ ap (λ (k : KeptTextView C State Cell Items). length (drop 1 k.chains.items)) (sym on) ∙ length-old_tunes steps rules s patch is in
      let count = is.in_stretch.count in
      let following = ap (λ (x : Stretch). x.tunes.to) there in
      omega (arith, many, count, following)

  pub few_faults : (found : List Fault) → IsText text.lines.text → found ≡ (book_of steps rules text.lines.text).faults
      → All (λ (fault : Fault). stretch.lines.from + removed_count stretch.lines < fault.line → fault.line - removed_count stretch.lines + stretch.lines.came ≤ 2097152) found
  few_faults found limits are =
      let own : found ≡ (book_of steps rules patch.on.lines.text).faults = are ∙ ap (λ (k : KeptTextView C State Cell Items). (book_of steps rules k.lines.text).faults) (sym on) in
      let within = faults_within steps rules patch.on.lines.text patch.on.header patch.on.tunes is.old_parts.header_is is.old_parts.tunes_are
      (header_lies rules.class patch.on.lines.text patch.on.header is.old_parts.header_is) (old_lie steps rules s patch is) in
      let all : All (λ (fault : Fault). fault.line ≤ length patch.on.lines.text) found = subst (All (λ (fault : Fault). fault.line ≤ length patch.on.lines.text)) (sym own) within in
      let long = ap (λ (k : KeptTextView C State Cell Items). length k.lines.text) on in
      λ k d inside following.
      let line = all k d inside in
      let few = limits.count in
      let came = few_came in
      omega (arith, line, few, came, long)

  pub take-outputs_after : (outputs made : List Output) → outputs ≡ map (output_in rules) (drop 1 text.chains.items) → made ≡ map (output_in rules) patch.new_chains
      → take stretch.tunes.from outputs ++ (made ++ drop stretch.tunes.to outputs) ≡ map (output_in rules) (drop 1 patch.chains)
  take-outputs_after outputs made are give =
      let own : outputs ≡ map (output_in rules) (old_tunes patch) = are ∙ ap (λ (k : KeptTextView C State Cell Items). map (output_in rules) (drop 1 k.chains.items)) (sym on) in
      ap (λ (x : Stretch). take x.tunes.from outputs ++ (made ++ drop x.tunes.to outputs)) there
      ∙ ap (λ (o : List Output). take patch.stretch.tunes.from o ++ (made ++ drop patch.stretch.tunes.to o)) own
      ∙ ap (λ (m : List Output). take patch.stretch.tunes.from (map (output_in rules) (old_tunes patch)) ++ (m ++ drop patch.stretch.tunes.to (map (output_in rules) (old_tunes patch)))) give
      ∙ take-new_outputs steps rules s patch is

  module _ (first : ChainView State Cell Items) (own_first : slice_get patch.chains 0 ≡ Some first) where
    pub header_there : (counts : List ℕ) (header : Option Block)
        → counts ≡ map count_in (take patch.stretch.lines.came (drop patch.stretch.lines.from patch.rows)) → header ≡ patch.header → HeaderCells stretch.lines.from counts first header
    header_there counts header are same =
        subst (λ (x : Stretch). HeaderCells x.lines.from counts first header) (sym there)
        (subst (λ c. HeaderCells patch.stretch.lines.from c first header) (sym (own_counts counts are))
        (subst (HeaderCells patch.stretch.lines.from (counts_among rules.cells patch.text patch.stretch.lines.from patch.stretch.lines.came) first)
        (sym same) (first_cells steps rules s patch is first own_first)))

    pub faults_after-now : IsResumable steps → (counts : List ℕ) (header : Option Block) (old new : List Fault)
        → counts ≡ map count_in (take patch.stretch.lines.came (drop patch.stretch.lines.from patch.rows)) → header ≡ patch.header
        → old ≡ (book_of steps rules text.lines.text).faults
        → new ≡ header_faults_there rules stretch.lines.from counts first header ++ faults_by rules stretch.lines.from counts patch.new_chains patch.places
        → faults_after stretch.lines old new ≡ (book_of steps rules patch.text).faults
    faults_after-now laws counts header old new are same old_is new_is =
        let old_own = old_is ∙ ap (λ (k : KeptTextView C State Cell Items). (book_of steps rules k.lines.text).faults) (sym on) in
        let new_own =
        new_is
        ∙ ap (λ (x : Stretch). header_faults_there rules x.lines.from counts first header ++ faults_by rules x.lines.from counts patch.new_chains patch.places) there
        ∙ ap (λ c. header_faults_there rules patch.stretch.lines.from c first header ++ faults_by rules patch.stretch.lines.from c patch.new_chains patch.places) (own_counts counts are)
        ∙ ap (λ h. header_faults_there rules patch.stretch.lines.from
        (counts_among rules.cells patch.text patch.stretch.lines.from patch.stretch.lines.came) first h
        ++ faults_by rules patch.stretch.lines.from (counts_among rules.cells patch.text patch.stretch.lines.from patch.stretch.lines.came) patch.new_chains patch.places) same in
        ap (λ (x : Stretch). faults_after x.lines old new) there
        ∙ ap (λ o. faults_after patch.stretch.lines o new) old_own
        ∙ ap (faults_after patch.stretch.lines (book_of steps rules patch.on.lines.text).faults) new_own
        ∙ faults_after-are steps rules s patch is first own_first laws

  pub book_now : (outputs : List Output) (found : List Fault) → outputs ≡ map (output_in rules) (drop 1 patch.chains) → found ≡ (book_of steps rules patch.text).faults
      → IsBook outputs found (book_of steps rules patch.text)
  book_now outputs found outputs_are found_is = book_is steps rules patch.text patch.chains outputs found is.new_parts.chains_are outputs_are found_is
