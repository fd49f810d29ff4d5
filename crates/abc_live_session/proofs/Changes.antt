-- The book of the new text is what the stretch makes of the book of the old one.
use Rattle.std.proofs.Common.{◌≡◌, ℕ, ◌+◌, ◌-◌, ◌<◌, ◌≤◌, if◌then◌else◌, nat_lt, List, [], ◌++◌, length, drop, map, take, Option}
use Rattle.std.proofs.Common.{Some, None, slice_get, refl, sym, ap, ◌∙◌, subst, inl, inr, arith, append_assoc, ⊎_elim}
use Rattle.std.specs.List.{AllZip}
use Rattle.std.specs.Prelude.{All, IfSome, ◌⊎◌}
use Rattle.std.proofs.lemmas.Bool.Decides.{nat_tests}
use Rattle.std.proofs.lemmas.Grind.{flat_map-append}
use Rattle.std.proofs.lemmas.List.{drop-drop, map-append, take-append-drop}
use Rattle.std.proofs.lemmas.List.Elements.{All-append, All-contains, All-contains_itself, All-drop, All-nil, All-take}
use Rattle.abc_book.specs.declared.block.Block.{Block}
use Rattle.abc_live_text.specs.Chains.{AreChains, IsHeaderChainOf}
use Rattle.abc_lines.specs.ItemRange.{removed_count}
use Rattle.abc_live_text.specs.KeptText.{TextPatchView, HoldsHeader, KeepsHeader, block_after}
use Rattle.abc_fold.specs.Chain.{ChainView}
use Rattle.abc_fold.specs.Steps.{Steps, IsAlike, IsResumable}
use Rattle.abc_live_index.specs.Faults.{shifted_fault, faults_after}
use Rattle.abc_live_index.specs.Laws.{FaultAmong, FaultBefore, FaultAfter}
use Rattle.abc_live_index.proofs.SameOutputs.{files_follow, titles_follow}
use Rattle.abc_live_index.proofs.ReplacedFaults.{faults_meet}
use Rattle.abc_lines.specs.Text.{Splice, Text}
use Rattle.abc_live_session.specs.Prepared.{IsBook, IsPrepared, header_faults_there}
use Rattle.abc_live_session.proofs.AlikeStates.{tunes_alike}
use Rattle.abc_live_session.proofs.FaultLines.{header_faults_hold, state_after_header_same, header_faults-same, same_tunes, shifted_tunes, tune_faults_hold}
use Rattle.abc_live_session.proofs.TunePlaces.{LiesIn, header_lies}
use Rattle.abc_live_session.proofs.Parts.{outputs_agree, tune_chains}
use Rattle.abc_live_session.proofs.Stretches.{first_is, made_chains, old_lie, old_stretch, parts_lie, places_lie, still_alike}
use Rattle.abc_live_index.specs.Output.{output_in}
use Rattle.abc_live_index.specs.Tunes.{LiesAmong, OutputAgrees, cell_faults_by, counts_among, faults_by, faults_of_tunes}
use Rattle.abc_live_index.specs.declared.output.Output.{Output}
use Rattle.abc_live_index.proofs.ChainOutputs.{faults_follow, header_follows}
use Rattle.abc_tune_compiler.specs.Book.{state_after_header, blocks_in, book_of, header_faults, header_in, opening_of, tunes_in}
use Rattle.abc_tune_compiler.specs.Fault.{fault_cmp}
use Rattle.abc_tune_compiler.specs.Rules.{Rules}
use Rattle.abc_tune_compiler.specs.Sort.{sort_dedup}
use Rattle.abc_tune_compiler.specs.Tune.{Tune, tune_of}
use Rattle.abc_tune_compiler.specs.declared.fault.Fault.{Fault}
use Rattle.abc_tune_compiler.proofs.Order.{no_fault_lost}

if_below : {A : Type 0} (a b : ℕ) (x y : A) → a < b → (if nat_lt a b then x else y) ≡ x
if_below a b x y below = grind (arith, nat_tests)

if_not_below : {A : Type 0} (a b : ℕ) (x y : A) → b ≤ a → (if nat_lt a b then x else y) ≡ y
if_not_below a b x y above = grind (arith, nat_tests)

-- a list in three parts
three_parts : {X : Type 0} (front following : ℕ) (xs : List X) → front ≤ following → xs ≡ take front xs ++ (take (following - front) (drop front xs) ++ drop following xs)
three_parts front following xs order =
    let there : front + (following - front) ≡ following = omega (arith, order) in
    sym (take-append-drop front xs)
    ∙ ap (λ l. take front xs ++ l) (sym (take-append-drop (following - front) (drop front xs))
    ∙ ap (λ l. take (following - front) (drop front xs) ++ l) (drop-drop (following - front) front xs ∙ ap (λ n. drop n xs) there))

module _ {State Cell Items Defaults : Type 0} (steps : Steps State Cell Items) (rules : Rules State Cell Items Defaults) where
  -- the faults of tunes
  abbrev tune_faults : State → Text → List Block → List Fault
  tune_faults opening text blocks = faults_of_tunes (map (tune_of steps.next steps.gives rules opening text) blocks)

  faults_append : (opening : State) (text : Text) (xs ys : List Block) → tune_faults opening text (xs ++ ys) ≡ tune_faults opening text xs ++ tune_faults opening text ys
  faults_append opening text xs ys =
      ap faults_of_tunes (map-append (tune_of steps.next steps.gives rules opening text) xs ys)
      ∙ flat_map-append (λ (tune : Tune). tune.faults) (map (tune_of steps.next steps.gives rules opening text) xs) (map (tune_of steps.next steps.gives rules opening text) ys)

  faults_three : (opening : State) (text : Text) (xs ys zs : List Block)
      → tune_faults opening text (xs ++ (ys ++ zs)) ≡ tune_faults opening text xs ++ (tune_faults opening text ys ++ tune_faults opening text zs)
  faults_three opening text xs ys zs = faults_append opening text xs (ys ++ zs) ∙ ap (λ l. tune_faults opening text xs ++ l) (faults_append opening text ys zs)

  module _ (text : Text) where
    -- the faults of a text, before they are put in order
    abbrev faults_found : Option Block → List Block → List Fault
    faults_found header tunes = header_faults steps.next steps.gives rules text header ++ tune_faults (opening_of steps.next rules text (blocks_in rules text)) text tunes

    book_faults : (header : Option Block) (tunes : List Block) → header ≡ header_in (blocks_in rules text) → tunes ≡ tunes_in (blocks_in rules text)
        → (book_of steps rules text).faults ≡ sort_dedup fault_cmp (faults_found header tunes)
    unfolding book_of
    book_faults header tunes header_is tunes_are =
        ap (λ h. sort_dedup fault_cmp (faults_found h (tunes_in (blocks_in rules text)))) (sym header_is) ∙ ap (λ ts. sort_dedup fault_cmp (faults_found header ts)) (sym tunes_are)

    -- the tunes give the files and the titles of the text
    pub book_is : (chains : List (ChainView State Cell Items)) (outputs : List Output) (found : List Fault)
        → AreChains steps rules text chains → outputs ≡ map (output_in rules) (drop 1 chains) → found ≡ (book_of steps rules text).faults
        → IsBook outputs found (book_of steps rules text)
    unfolding book_of
    book_is chains outputs found are outputs_are found_is =
        let tunes = map (tune_of steps.next steps.gives rules (opening_of steps.next rules text (blocks_in rules text)) text) (tunes_in (blocks_in rules text)) in
        let tells = subst (λ (given : List Output). AllZip OutputAgrees given tunes) (sym outputs_are)
        (outputs_agree steps rules text (opening_of steps.next rules text (blocks_in rules text)) (drop 1 chains) (tunes_in (blocks_in rules text)) (tune_chains steps rules text chains are)) in
        record {
          files = files_follow outputs tunes tells;
          titles = titles_follow outputs tunes tells;
          faults = found_is;
        }

    -- the faults of a text are in its lines
    pub faults_within : (header : Option Block) (tunes : List Block) → header ≡ header_in (blocks_in rules text)
        → tunes ≡ tunes_in (blocks_in rules text) → IfSome header (LiesIn (length text)) → All (LiesIn (length text)) tunes
        → All (λ (fault : Fault). fault.line ≤ length text) (book_of steps rules text).faults
    faults_within header tunes header_is tunes_are header_lies tunes_lie =
        let P = λ (fault : Fault). fault.line ≤ length text in
        let found = faults_found header tunes in
        let all : All P found =
        All-append P (header_faults steps.next steps.gives rules text header) (tune_faults (opening_of steps.next rules text (blocks_in rules text)) text tunes)
        (header_faults_hold steps rules text P header header_lies
        (λ block is fault bounds. let lies = subst (λ h. IfSome h (LiesIn (length text))) is header_lies in let within = lies.within in let below = bounds.1 in omega (arith, within, below)))
        (tune_faults_hold steps rules (opening_of steps.next rules text (blocks_in rules text)) text P tunes tunes_lie
        (λ k d inside. λ fault bounds. let within = (tunes_lie k d inside).within in let below = bounds.1 in omega (arith, within, below))) in
        subst (All P) (sym (book_faults header tunes header_is tunes_are))
        (λ k d inside. All-contains P found _ all ((no_fault_lost found _).0 (All-contains_itself (sort_dedup fault_cmp found) k d inside)))

  -- the faults of a file header that lies in some lines, which are the first
  header_there : (text : Text) (from came : ℕ) (first : ChainView State Cell Items) (header : Option Block)
      → IsHeaderChainOf steps rules text first header → IfSome header (LiesIn (length text)) → from ≡ 0 → ((block : Block) → header ≡ Some block → block.to ≤ came)
      → header_faults_there rules from (counts_among rules.cells text from came) first header ≡ header_faults steps.next steps.gives rules text header
  header_there text from came first None is lies none ends = refl
  header_there text from came first (Some block) is lies none ends =
      let some = lies.some in
      let most = ends block refl in
      let there : LiesAmong from came block = record { following = omega (arith, none); order = omega (arith, some); within = omega (arith, none, most) } in
      if_below from block.to (cell_faults_by rules from (counts_among rules.cells text from came) first block) [] (omega (arith, none, some))
      ∙ header_follows steps rules text from came first block is there

  -- and of one that lies before them
  header_before : (from : ℕ) (counts : List ℕ) (first : ChainView State Cell Items) (header : Option Block)
      → ((block : Block) → header ≡ Some block → block.to ≤ from) → header_faults_there rules from counts first header ≡ []
  header_before from counts first None before = refl
  header_before from counts first (Some block) before = if_not_below from block.to (cell_faults_by rules from counts first block) [] (before block refl)

  module _ {C : Type 0} (s : Splice) (patch : TextPatchView C State Cell Items) (is : IsPrepared steps rules s patch)
      (first : ChainView State Cell Items) (there : slice_get patch.chains 0 ≡ Some first) where
    -- the faults that the stretch has
    abbrev pub new_faults : List Fault
    new_faults = header_faults_there rules patch.stretch.lines.from
        (counts_among rules.cells patch.text patch.stretch.lines.from patch.stretch.lines.came) first patch.header
        ++ faults_by rules patch.stretch.lines.from (counts_among rules.cells patch.text patch.stretch.lines.from patch.stretch.lines.came) patch.new_chains patch.places

    own_faults : faults_by rules patch.stretch.lines.from
        (counts_among rules.cells patch.text patch.stretch.lines.from patch.stretch.lines.came) patch.new_chains patch.places
        ≡ tune_faults (opening_of steps.next rules patch.text (blocks_in rules patch.text)) patch.text patch.places
    own_faults =
        let start = opening_of steps.next rules patch.text (blocks_in rules patch.text) in
        faults_follow steps rules start patch.text patch.stretch.lines.from patch.stretch.lines.came patch.new_chains patch.places
        (made_chains steps rules s patch is) (places_lie steps rules s patch is)

    own_stand : All (FaultAmong patch.stretch.lines.from patch.stretch.lines.came) (tune_faults (opening_of steps.next rules patch.text (blocks_in rules patch.text)) patch.text patch.places)
    own_stand =
        tune_faults_hold steps rules (opening_of steps.next rules patch.text (blocks_in rules patch.text)) patch.text
        (FaultAmong patch.stretch.lines.from patch.stretch.lines.came) patch.places (parts_lie steps rules s patch is)
        (λ k d inside. λ fault bounds.
        let lies = places_lie steps rules s patch is k d inside in
        let following = lies.following in
        let within = lies.within in
        let least = bounds.0 in
        let most = bounds.1 in
        (omega (arith, following, least), omega (arith, within, most)))

    old_header : IfSome patch.on.header (LiesIn (length patch.on.lines.text))
    old_header = header_lies rules.class patch.on.lines.text patch.on.header is.old_parts.header_is

    new_header : IfSome patch.header (LiesIn (length patch.text))
    new_header = header_lies rules.class patch.text patch.header is.new_parts.header_is

    abbrev start : State
    start = opening_of steps.next rules patch.on.lines.text (blocks_in rules patch.on.lines.text)

    abbrev front_tunes : List Block
    front_tunes = take patch.stretch.tunes.from patch.on.tunes

    abbrev amid_tunes : List Block
    amid_tunes = take (patch.stretch.tunes.to - patch.stretch.tunes.from) (drop patch.stretch.tunes.from patch.on.tunes)

    abbrev after_tunes : List Block
    after_tunes = drop patch.stretch.tunes.to patch.on.tunes

    abbrev old_faults : List Block → List Fault
    old_faults tunes = tune_faults (opening_of steps.next rules patch.on.lines.text (blocks_in rules patch.on.lines.text)) patch.on.lines.text tunes

    amid_lie : All (LiesIn (length patch.on.lines.text)) (take (patch.stretch.tunes.to - patch.stretch.tunes.from) (drop patch.stretch.tunes.from patch.on.tunes))
    amid_lie =
        let P = LiesIn (length patch.on.lines.text) in
        All-take P (patch.stretch.tunes.to - patch.stretch.tunes.from) (drop patch.stretch.tunes.from patch.on.tunes)
        (All-drop P patch.stretch.tunes.from patch.on.tunes (old_lie steps rules s patch is))

    after_lie : All (LiesIn (length patch.on.lines.text)) (drop patch.stretch.tunes.to patch.on.tunes)
    after_lie = All-drop (LiesIn (length patch.on.lines.text)) patch.stretch.tunes.to patch.on.tunes (old_lie steps rules s patch is)

    end_is : patch.stretch.lines.to ≡ patch.stretch.lines.from + removed_count patch.stretch.lines
    end_is = let order = old_stretch steps rules s patch is in omega (arith, order)

    amid_stand : All (FaultAmong patch.stretch.lines.from (removed_count patch.stretch.lines))
        (old_faults (take (patch.stretch.tunes.to - patch.stretch.tunes.from) (drop patch.stretch.tunes.from patch.on.tunes)))
    amid_stand =
        tune_faults_hold steps rules start patch.on.lines.text (FaultAmong patch.stretch.lines.from (removed_count patch.stretch.lines))
        (take (patch.stretch.tunes.to - patch.stretch.tunes.from) (drop patch.stretch.tunes.from patch.on.tunes)) amid_lie
        (λ k d inside. λ fault bounds.
        let own = is.in_stretch.amid k d inside in
        let following = own.0 in
        let before = own.1 in
        let least = bounds.0 in
        let most = bounds.1 in
        let end = end_is in
        (omega (arith, following, least), omega (arith, before, most, end)))

    after_stand : All (FaultAfter (patch.stretch.lines.from + removed_count patch.stretch.lines)) (old_faults (drop patch.stretch.tunes.to patch.on.tunes))
    after_stand =
        tune_faults_hold steps rules start patch.on.lines.text (FaultAfter (patch.stretch.lines.from + removed_count patch.stretch.lines)) (drop patch.stretch.tunes.to patch.on.tunes) after_lie
        (λ k d inside. λ fault bounds.
        let following = is.in_stretch.beyond k d inside in
        let least = bounds.0 in
        let end = end_is in
        omega (arith, following, least, end))

    -- the tunes after the stretch give as before if they begin in an equivalent state
    from_start : IsResumable steps → tune_faults (opening_of steps.next rules patch.text (blocks_in rules patch.text)) patch.text
        (map (block_after patch.stretch) after_tunes) ≡ tune_faults start patch.text (map (block_after patch.stretch) after_tunes)
    from_start laws =
        let now = opening_of steps.next rules patch.text (blocks_in rules patch.text) in
        ⊎_elim
        (λ (none : drop patch.stretch.tunes.to patch.on.tunes ≡ []).
        ap (λ l. tune_faults now patch.text (map (block_after patch.stretch) l)) none ∙ sym (ap (λ l. tune_faults start patch.text (map (block_after patch.stretch) l)) none))
        (λ (alike : IsAlike steps start now). ap faults_of_tunes (sym (tunes_alike steps laws rules start now patch.text (map (block_after patch.stretch) after_tunes) alike)))
        (still_alike steps rules s patch is laws)

    after_shifted : tune_faults start patch.text (map (block_after patch.stretch) after_tunes)
        ≡ map (shifted_fault (removed_count patch.stretch.lines) patch.stretch.lines.came) (old_faults after_tunes)
    after_shifted =
        let same = is.in_stretch.lines_after ∙ ap (λ n. drop n patch.on.lines.text) end_is in
        let beyond : All (λ (block : Block). patch.stretch.lines.from + removed_count patch.stretch.lines ≤ block.from) after_tunes =
        λ k d inside. let following = is.in_stretch.beyond k d inside in let end = end_is in omega (arith, following, end) in
        shifted_tunes steps rules start patch.on.lines.text patch.text patch.stretch.lines.from (removed_count patch.stretch.lines) patch.stretch.lines.came after_tunes same beyond after_lie

    -- if the stretch begins with the text and has the file header
    module _ (holds : HoldsHeader patch) where
      holds_parts : patch.on.tunes ≡ amid_tunes ++ after_tunes
      holds_parts =
          three_parts patch.stretch.tunes.from patch.stretch.tunes.to patch.on.tunes is.in_stretch.order
          ∙ ap (λ n. take n patch.on.tunes ++ (amid_tunes ++ after_tunes)) holds.front

      holds_places : patch.tunes ≡ patch.places ++ map (block_after patch.stretch) after_tunes
      holds_places = is.in_stretch.tunes_are ∙ ap (λ n. take n patch.on.tunes ++ (patch.places ++ map (block_after patch.stretch) after_tunes)) holds.front

      holds_header : header_faults_there rules patch.stretch.lines.from
          (counts_among rules.cells patch.text patch.stretch.lines.from patch.stretch.lines.came) first patch.header ≡ header_faults steps.next steps.gives rules patch.text patch.header
      holds_header = header_there patch.text patch.stretch.lines.from patch.stretch.lines.came first patch.header (first_is steps rules s patch is first there) new_header holds.from holds.comes

      holds_new : IsResumable steps → faults_found patch.text patch.header patch.tunes
          ≡ new_faults ++ map (shifted_fault (removed_count patch.stretch.lines) patch.stretch.lines.came) (old_faults after_tunes)
      holds_new laws =
          let own = opening_of steps.next rules patch.text (blocks_in rules patch.text) in
          let head = header_faults steps.next steps.gives rules patch.text patch.header in
          let moved = map (block_after patch.stretch) after_tunes in
          let shifted = map (shifted_fault (removed_count patch.stretch.lines) patch.stretch.lines.came) (old_faults after_tunes) in
          ap (λ tunes. head ++ tune_faults own patch.text tunes) holds_places
          ∙ ap (λ l. head ++ l) (faults_append own patch.text patch.places moved)
          ∙ ap (λ l. head ++ (tune_faults own patch.text patch.places ++ l)) (from_start laws ∙ after_shifted)
          ∙ ap (λ l. head ++ (l ++ shifted)) (sym own_faults)
          ∙ ap (λ l. l ++ (faults_by rules patch.stretch.lines.from (counts_among rules.cells patch.text patch.stretch.lines.from patch.stretch.lines.came)
          patch.new_chains patch.places ++ shifted)) (sym holds_header)
          ∙ sym (append_assoc (header_faults_there rules patch.stretch.lines.from
          (counts_among rules.cells patch.text patch.stretch.lines.from patch.stretch.lines.came) first patch.header)
          (faults_by rules patch.stretch.lines.from (counts_among rules.cells patch.text patch.stretch.lines.from patch.stretch.lines.came) patch.new_chains patch.places) shifted)

      holds_stand : All (FaultAmong patch.stretch.lines.from patch.stretch.lines.came) new_faults
      holds_stand =
          let P = FaultAmong patch.stretch.lines.from patch.stretch.lines.came in
          All-append P _ _
          (subst (All P) (sym holds_header) (header_faults_hold steps rules patch.text P patch.header new_header
          (λ block is_some fault bounds.
          let ends = holds.comes block is_some in
          let least = bounds.0 in
          let most = bounds.1 in
          let none = holds.from in
          (omega (arith, least, none), omega (arith, most, ends, none)))))
          (subst (All P) (sym own_faults) own_stand)

      holds_old : All (FaultAmong patch.stretch.lines.from (removed_count patch.stretch.lines))
          (header_faults steps.next steps.gives rules patch.on.lines.text patch.on.header ++ old_faults amid_tunes)
      holds_old =
          let P = FaultAmong patch.stretch.lines.from (removed_count patch.stretch.lines) in
          All-append P (header_faults steps.next steps.gives rules patch.on.lines.text patch.on.header) (old_faults amid_tunes)
          (header_faults_hold steps rules patch.on.lines.text P patch.on.header old_header
          (λ block is_some fault bounds.
          let ends = holds.goes block is_some in
          let end = end_is in
          let least = bounds.0 in
          let most = bounds.1 in
          let none = holds.from in
          (omega (arith, least, none), omega (arith, most, ends, end))))
          amid_stand

      holds_was : faults_found patch.on.lines.text patch.on.header patch.on.tunes ≡ [] ++
          ((header_faults steps.next steps.gives rules patch.on.lines.text patch.on.header ++ old_faults amid_tunes) ++ old_faults after_tunes)
      holds_was =
          let head = header_faults steps.next steps.gives rules patch.on.lines.text patch.on.header in
          ap (λ tunes. head ++ old_faults tunes) holds_parts
          ∙ ap (λ l. head ++ l) (faults_append start patch.on.lines.text amid_tunes after_tunes)
          ∙ sym (append_assoc head (old_faults amid_tunes) (old_faults after_tunes))

      holds_meets : IsResumable steps → faults_after patch.stretch.lines
          (book_of steps rules patch.on.lines.text).faults new_faults ≡ (book_of steps rules patch.text).faults
      holds_meets laws =
          ap (λ faults. faults_after patch.stretch.lines faults new_faults)
          (book_faults patch.on.lines.text patch.on.header patch.on.tunes is.old_parts.header_is is.old_parts.tunes_are ∙ ap (sort_dedup fault_cmp) holds_was)
          ∙ faults_meet patch.stretch.lines []
          (header_faults steps.next steps.gives rules patch.on.lines.text patch.on.header ++ old_faults amid_tunes) (old_faults after_tunes) new_faults
          (All-nil (FaultBefore patch.stretch.lines.from)) holds_old after_stand holds_stand
          ∙ ap (sort_dedup fault_cmp) (sym (holds_new laws))
          ∙ sym (book_faults patch.text patch.header patch.tunes is.new_parts.header_is is.new_parts.tunes_are)

    -- if the file header stays
    module _ (keeps : KeepsHeader patch) where
      start_same : opening_of steps.next rules patch.text (blocks_in rules patch.text) ≡ opening_of steps.next rules patch.on.lines.text (blocks_in rules patch.on.lines.text)
      start_same =
          ap (λ h. rules.tune (state_after_header steps.next rules patch.text h)) (sym is.new_parts.header_is ∙ keeps.header)
          ∙ ap rules.tune (state_after_header_same steps rules patch.on.lines.text patch.text patch.stretch.lines.from patch.on.header is.in_stretch.lines_before keeps.before old_header)
          ∙ ap (λ h. rules.tune (state_after_header steps.next rules patch.on.lines.text h)) is.old_parts.header_is

      front_lie : All (LiesIn (length patch.on.lines.text)) (take patch.stretch.tunes.from patch.on.tunes)
      front_lie = All-take (LiesIn (length patch.on.lines.text)) patch.stretch.tunes.from patch.on.tunes (old_lie steps rules s patch is)

      front_stand : All (FaultBefore patch.stretch.lines.from)
          (header_faults steps.next steps.gives rules patch.on.lines.text patch.on.header ++ old_faults (take patch.stretch.tunes.from patch.on.tunes))
      front_stand =
          let P = FaultBefore patch.stretch.lines.from in
          All-append P (header_faults steps.next steps.gives rules patch.on.lines.text patch.on.header) (old_faults (take patch.stretch.tunes.from patch.on.tunes))
          (header_faults_hold steps rules patch.on.lines.text P patch.on.header old_header
          (λ block is_some fault bounds.
          let before = keeps.before block is_some in
          let most = bounds.1 in
          omega (arith, before, most)))
          (tune_faults_hold steps rules start patch.on.lines.text P (take patch.stretch.tunes.from patch.on.tunes) front_lie
          (λ k d inside. λ fault bounds.
          let before = is.in_stretch.before k d inside in
          let most = bounds.1 in
          omega (arith, before, most)))

      kept_new : new_faults ≡ tune_faults (opening_of steps.next rules patch.text (blocks_in rules patch.text)) patch.text patch.places
      kept_new =
          ap (λ l. l ++ faults_by rules patch.stretch.lines.from (counts_among rules.cells patch.text patch.stretch.lines.from patch.stretch.lines.came) patch.new_chains patch.places)
          (header_before patch.stretch.lines.from
          (counts_among rules.cells patch.text patch.stretch.lines.from patch.stretch.lines.came) first patch.header (λ block is_some. keeps.before block (sym keeps.header ∙ is_some)))
          ∙ own_faults

      old_is : faults_found patch.on.lines.text patch.on.header patch.on.tunes
          ≡ (header_faults steps.next steps.gives rules patch.on.lines.text patch.on.header ++ old_faults front_tunes) ++ (old_faults amid_tunes ++ old_faults after_tunes)
      old_is =
          let head = header_faults steps.next steps.gives rules patch.on.lines.text patch.on.header in
          ap (λ tunes. head ++ old_faults tunes) (three_parts patch.stretch.tunes.from patch.stretch.tunes.to patch.on.tunes is.in_stretch.order)
          ∙ ap (λ l. head ++ l) (faults_three start patch.on.lines.text front_tunes amid_tunes after_tunes)
          ∙ sym (append_assoc head (old_faults front_tunes) (old_faults amid_tunes ++ old_faults after_tunes))

      new_header_is : header_faults steps.next steps.gives rules patch.text patch.header ≡ header_faults steps.next steps.gives rules patch.on.lines.text patch.on.header
      new_header_is =
          ap (header_faults steps.next steps.gives rules patch.text) keeps.header
          ∙ header_faults-same steps rules patch.on.lines.text patch.text patch.stretch.lines.from patch.on.header is.in_stretch.lines_before keeps.before old_header

      new_front : tune_faults (opening_of steps.next rules patch.text (blocks_in rules patch.text)) patch.text front_tunes ≡ old_faults front_tunes
      new_front =
          ap (λ own. tune_faults own patch.text front_tunes) start_same
          ∙ same_tunes steps rules start patch.on.lines.text patch.text patch.stretch.lines.from front_tunes is.in_stretch.lines_before is.in_stretch.before front_lie

      new_after : tune_faults (opening_of steps.next rules patch.text (blocks_in rules patch.text)) patch.text
          (map (block_after patch.stretch) after_tunes) ≡ map (shifted_fault (removed_count patch.stretch.lines) patch.stretch.lines.came) (old_faults after_tunes)
      new_after = ap (λ own. tune_faults own patch.text (map (block_after patch.stretch) after_tunes)) start_same ∙ after_shifted

      new_is : faults_found patch.text patch.header patch.tunes
          ≡ (header_faults steps.next steps.gives rules patch.on.lines.text patch.on.header ++ old_faults front_tunes)
          ++ (new_faults ++ map (shifted_fault (removed_count patch.stretch.lines) patch.stretch.lines.came) (old_faults after_tunes))
      new_is =
          let own = opening_of steps.next rules patch.text (blocks_in rules patch.text) in
          let head = header_faults steps.next steps.gives rules patch.on.lines.text patch.on.header in
          let moved = map (block_after patch.stretch) after_tunes in
          ap (λ l. l ++ tune_faults own patch.text patch.tunes) new_header_is
          ∙ ap (λ tunes. head ++ tune_faults own patch.text tunes) is.in_stretch.tunes_are
          ∙ ap (λ l. head ++ l) (faults_three own patch.text front_tunes patch.places moved)
          ∙ ap (λ l. head ++ (l ++ (tune_faults own patch.text patch.places ++ tune_faults own patch.text moved))) new_front
          ∙ ap (λ l. head ++ (old_faults front_tunes ++ (tune_faults own patch.text patch.places ++ l))) new_after
          ∙ ap (λ l. head ++ (old_faults front_tunes ++ (l ++ map (shifted_fault (removed_count patch.stretch.lines) patch.stretch.lines.came) (old_faults after_tunes)))) (sym kept_new)
          ∙ sym (append_assoc head (old_faults front_tunes) (new_faults ++ map (shifted_fault (removed_count patch.stretch.lines) patch.stretch.lines.came) (old_faults after_tunes)))

      kept_meets : faults_after patch.stretch.lines (book_of steps rules patch.on.lines.text).faults new_faults ≡ (book_of steps rules patch.text).faults
      kept_meets =
          ap (λ faults. faults_after patch.stretch.lines faults new_faults)
          (book_faults patch.on.lines.text patch.on.header patch.on.tunes is.old_parts.header_is is.old_parts.tunes_are ∙ ap (sort_dedup fault_cmp) old_is)
          ∙ faults_meet patch.stretch.lines
          (header_faults steps.next steps.gives rules patch.on.lines.text patch.on.header ++ old_faults front_tunes) (old_faults amid_tunes) (old_faults after_tunes) new_faults
          front_stand amid_stand after_stand (subst (All (FaultAmong patch.stretch.lines.from patch.stretch.lines.came)) (sym kept_new) own_stand)
          ∙ ap (sort_dedup fault_cmp) (sym new_is)
          ∙ sym (book_faults patch.text patch.header patch.tunes is.new_parts.header_is is.new_parts.tunes_are)

    meets : IsResumable steps → HoldsHeader patch ⊎ KeepsHeader patch
        → faults_after patch.stretch.lines (book_of steps rules patch.on.lines.text).faults new_faults ≡ (book_of steps rules patch.text).faults
    meets laws (inl holds) = holds_meets holds laws
    meets laws (inr keeps) = kept_meets keeps

    -- the faults of the new text
    pub faults_after-are : IsResumable steps → faults_after patch.stretch.lines
        (book_of steps rules patch.on.lines.text).faults new_faults ≡ (book_of steps rules patch.text).faults
    faults_after-are laws = meets laws is.in_stretch.header_is
