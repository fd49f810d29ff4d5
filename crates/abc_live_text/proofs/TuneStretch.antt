-- A stretch that begins with a tune.
use Rattle.std.proofs.Common.{◌≡◌, ℕ, zero, suc, ◌+◌, ◌-◌, ◌≤◌, List, [], ◌∷◌, ◌++◌, map, Option, Some, None, All, length, take}
use Rattle.std.proofs.Common.{drop, sym, ◌∙◌, ap, subst, arith, append_assoc, drop-drop, take-append-drop}
use Rattle.std.proofs.lemmas.List.{map-append, take-map, length-map}
use Rattle.std.proofs.lemmas.List.Elements.{All-cons}
use Rattle.abc_book.specs.Block.{blocks_of}
use Rattle.abc_book.specs.Laws.{RiseFromTo, move_block}
use Rattle.abc_book.specs.Stretch.{BeginTune, shift_block}
use Rattle.abc_book.specs.declared.block.Block.{Block}
use Rattle.abc_book.proofs.Rising.{blocks_rise}
use Rattle.abc_lines.specs.Text.{Splice, Text, spliced}
use Rattle.abc_scan.specs.declared.line_class.LineClass.{LineClass}
use Rattle.abc_tune_compiler.specs.Book.{blocks_in, header_in, tunes_in}
use Rattle.abc_tune_compiler.specs.Rules.{Rules}
use Rattle.abc_live_text.specs.Pieces.{class_in}
use Rattle.abc_live_text.specs.Chains.{header_place, places_of}
use Rattle.abc_live_text.specs.Origin.{BlocksRise, rows_until}
use Rattle.abc_live_text.specs.NewParts.{IsSpan, start_of}
use Rattle.abc_live_text.specs.Row.{CarriedRow, Row, carried_row}
use Rattle.abc_live_text.specs.KeptText.{AreRows}
use Rattle.abc_live_text.specs.declared.stretch.Span.{Span}
use Rattle.abc_live_text.proofs.StretchLines.{BeginAfter, length-until}
use Rattle.abc_live_text.proofs.Edits.{edit_of, fresh_row}
use Rattle.abc_live_text.proofs.NewBlocks.{IsRun, begin_taken, header_after, run_begins, tunes_after}
use Rattle.abc_live_text.proofs.OutsideStretch.{HeaderEnds, StartsFrom}
use Rattle.abc_live_text.proofs.EditedRows.{IsAmong, Parted, bare_read, parted, placed_read, stretch_rows}
use Rattle.abc_live_text.proofs.EditedRuns.{IsEditedRun, part_classes}
use Rattle.abc_live_text.proofs.ChainPlaces.{places_rise}
use Rattle.abc_live_text.proofs.Spans.{Ends, end_start, rise_amid, rise_back, rise_front, rise_to, start_inside, tunes_strict}
use Rattle.abc_live_text.proofs.WholeRows.{AreRead, placed_from}

-- A list in three parts.
pub three_parts : {X : Type 0} (front following : ℕ) (xs : List X) → front ≤ following → xs ≡ take front xs ++ (take (following - front) (drop front xs) ++ drop following xs)
three_parts front following xs h =
    let here : front + (following - front) ≡ following = omega arith in
    sym (take-append-drop front xs) ∙ ap (λ l. take front xs ++ l)
    (sym (take-append-drop (following - front) (drop front xs)) ∙ ap (λ l. take (following - front) (drop front xs) ++ l) (drop-drop (following - front) front xs ∙ ap (λ n. drop n xs) here))

two_parts : {X : Type 0} (front following : ℕ) (xs : List X) → front ≤ following → drop front xs ≡ take (following - front) (drop front xs) ++ drop following xs
two_parts front following xs h =
    let here : front + (following - front) ≡ following = omega arith in
    sym (take-append-drop (following - front) (drop front xs)) ∙ ap (λ l. take (following - front) (drop front xs) ++ l) (drop-drop (following - front) front xs ∙ ap (λ n. drop n xs) here)

pub begin_after : (blocks : List Block) (last : ℕ) → BeginAfter (start_of blocks last) blocks
begin_after [] last = tt
begin_after (block ∷ blocks) last = omega arith

-- The places of the parts of rising blocks.
pub among_parts : (front mid back : List Block) (count from to : ℕ) → BlocksRise 0 (front ++ (mid ++ back)) count
    → from ≡ start_of (mid ++ back) count → to ≡ start_of back count → IsAmong from to count front mid back
among_parts front mid back count from to rise f t =
    let rest = rise_back 0 front (mid ++ back) count rise in
    record {
      first = subst (BlocksRise 0 front) (sym f) (rise_front 0 front (mid ++ back) count rise);
      here = subst (λ n. BlocksRise n mid to) (sym f) (subst (BlocksRise (start_of (mid ++ back) count) mid) (sym t) (rise_front (start_of (mid ++ back) count) mid back count rest));
      begins = subst (λ n. BeginAfter n (mid ++ back)) (sym f) (begin_after (mid ++ back) count);
      ends = subst (λ n. BeginAfter n back) (sym t) (begin_after back count);
      inside = subst (λ n. n ≤ count) (sym t) (start_inside (start_of (mid ++ back) count) mid back count rest).1;
    }

some_taken : {X : Type 0} (k : ℕ) (own rest : List X) → 1 ≤ k → 1 ≤ length own → 1 ≤ length (take k own ++ rest)
some_taken zero own rest h some = absurd (omega arith)
some_taken (suc k) [] rest h some = absurd (omega arith)
some_taken (suc k) (x ∷ own) rest h some = omega arith

pub all_starts : (at : ℕ) (xs : List Block) (last : ℕ) (line : ℕ) → line ≤ at → RiseFromTo at xs last → All (StartsFrom line) xs
all_starts at [] last line h rise = λ i d l. absurd (omega (arith, l))
all_starts at (block ∷ xs) last line h rise =
    let own : StartsFrom line block = (omega (arith, h, rise.0), omega (arith, rise.1)) in
    All-cons (StartsFrom line) block xs own (all_starts block.to xs last line (omega (arith, h, rise.0, rise.1)) rise.2)

pub strict_rest : (at : ℕ) (xs ys : List Block) (last : ℕ) → RiseFromTo at (xs ++ ys) last → RiseFromTo (start_of ys last) ys last
strict_rest at [] [] last rise = omega arith
strict_rest at [] (block ∷ ys) last rise = let here : block.from ≤ block.from = omega arith in (here, rise.1, rise.2)
strict_rest at (block ∷ xs) ys last rise = strict_rest block.to xs ys last rise.2

-- The rows of a text are as many as its lines, and the places of its chains and its tunes rise.
pub record IsLaidOut {State Cell Items Defaults : Type 0} (rules : Rules State Cell Items Defaults) (text : Text) (rows : List (Row Cell)) : Type 0 where
  pub long : length (map carried_row rows) ≡ length text
  pub rise : BlocksRise 0 (places_of (blocks_in rules text)) (length text)
  pub strict : RiseFromTo 0 (tunes_in (blocks_in rules text)) (length text)

pub laid_out : {State Cell Items Defaults : Type 0} (rules : Rules State Cell Items Defaults) (text : Text) (rows : List (Row Cell)) → AreRows rules text rows → IsLaidOut rules text rows
laid_out rules text rows are =
    let blocks = blocks_in rules text in
    let all = map carried_row rows in
    let classes = map rules.class text in
    let read = bare_read rules text rows are in
    let long : length all ≡ length text = sym (length-map all class_in) ∙ (ap length read.classes ∙ length-map text rules.class) in
    record {
      long = long;
      rise = subst (BlocksRise 0 (places_of blocks)) long (places_rise all blocks (ap blocks_of (sym read.classes)));
      strict = subst (RiseFromTo 0 (tunes_in blocks)) (length-map text rules.class) (tunes_strict 0 blocks (length classes) (blocks_rise classes));
    }

module _ {State Cell Items Defaults : Type 0} (rules : Rules State Cell Items Defaults) (text : Text) (s : Splice) (rows : List (Row Cell)) (span : Span) where
  abbrev pub mid_tunes : List Block
  mid_tunes = take (span.tunes.to - span.tunes.from) (drop span.tunes.from (tunes_in (blocks_in rules text)))

  abbrev pub front_places : List Block
  front_places = header_place (header_in (blocks_in rules text)) ∷ take span.tunes.from (tunes_in (blocks_in rules text))

  abbrev pub old_run : List (CarriedRow Cell)
  old_run = rows_until (map carried_row rows) span.lines.from span.lines.to (0 + length front_places) mid_tunes

  -- What is known of a stretch that begins with a tune.
  pub record IsSpanRun : Type 0 where
    pub run : IsEditedRun rules text s rows span old_run
    pub header : header_in (blocks_in rules (spliced text s)) ≡ header_in (blocks_in rules text)
    pub header_ends : HeaderEnds span.lines.from (header_in (blocks_in rules text))
    pub rise : BlocksRise span.lines.from mid_tunes span.lines.to

  pub span_facts : AreRows rules text rows → IsSpan (tunes_in (blocks_in rules text)) (length text) s.at s.removed span
      → AreRead rules (spliced text s) (edit_of rules s (placed_from (map carried_row rows) 0 0 (places_of (blocks_in rules text))))
      → IsSpanRun
  span_facts are is new =
      let blocks = blocks_in rules text in
      let tunes = tunes_in blocks in
      let head = header_place (header_in blocks) in
      let front = take span.tunes.from tunes in
      let back = drop span.tunes.to tunes in
      let all = map carried_row rows in
      let laid = laid_out rules text rows are in
      let order : span.tunes.from ≤ span.tunes.to = omega (arith, is.order) in
      let whole = three_parts span.tunes.from span.tunes.to tunes order in
      let rest = two_parts span.tunes.from span.tunes.to tunes order in
      let rise : BlocksRise 0 (front_places ++ (mid_tunes ++ back)) (length text) = subst (λ (l : List Block). BlocksRise 0 (head ∷ l) (length text)) whole laid.rise in
      let from : span.lines.from ≡ start_of (mid_tunes ++ back) (length text) = is.from ∙ ap (λ l. start_of l (length text)) rest in
      let among_text = among_parts front_places mid_tunes back (length text) span.lines.from span.lines.to rise from is.to in
      let among = subst (λ n. IsAmong span.lines.from span.lines.to n front_places mid_tunes back) (sym laid.long) among_text in
      let ordered : span.lines.from ≤ span.lines.to = omega (arith, is.begins, is.ends) in
      let cut = parted rules s all span.lines.from span.lines.to front_places mid_tunes back among ordered (omega (arith, is.begins)) is.ends in
      let places : placed_from all 0 0 (places_of blocks) ≡ placed_from all 0 0 (front_places ++ (mid_tunes ++ back)) = ap (λ (l : List Block). placed_from all 0 0 (head ∷ l)) whole in
      let own : Parted rules s (placed_from all 0 0 (places_of blocks)) old_run span.lines.from = subst (λ x. Parted rules s x old_run span.lines.from) (sym places) cut in
      let run = stretch_rows rules s span.lines.from old_run in
      let old_classes : map class_in own.before ++ (map class_in old_run ++ map class_in own.following) ≡ map rules.class text =
      part_classes _ own.before old_run own.following _ own.old_are (placed_read rules text rows are).classes in
      let new_classes : map class_in own.before ++ (map class_in run ++ map class_in own.following) ≡ map rules.class (spliced text s) =
      part_classes _ own.before run own.following _ own.new_are new.classes in
      let count : length old_run ≡ span.lines.to - span.lines.from = length-until all span.lines.from span.lines.to (0 + length front_places) mid_tunes among.here among.inside in
      let long_old : length (map class_in old_run) ≡ span.lines.to - span.lines.from = length-map old_run class_in ∙ count in
      let long_before : length (map class_in own.before) ≡ span.lines.from = length-map own.before class_in ∙ sym own.count in
      let long_all : length (map class_in own.before ++ (map class_in old_run ++ map class_in own.following)) ≡ length text = ap length old_classes ∙ length-map text rules.class in
      let is_run : IsRun (map class_in own.before) (map class_in old_run) (map class_in own.following) front mid_tunes back = record {
        tunes = ap (λ c. tunes_in (blocks_of c)) old_classes ∙ whole;
        from = long_before ∙ (from ∙ ap (start_of (mid_tunes ++ back)) (sym long_all));
        to = (let sum : length (map class_in own.before) + length (map class_in old_run)
            ≡ span.lines.to = omega (arith, long_before, long_old, ordered) in sum) ∙ (is.to ∙ ap (start_of back) (sym long_all));
        some = omega (arith, long_old, is.begins, is.ends);
      } in
      let k : ℕ = s.at - span.lines.from in
      let tail = map (fresh_row rules) s.lines ++ drop (s.at + s.removed - span.lines.from) old_run in
      let reused_tunes : map class_in run ≡ take k (map class_in old_run) ++ map class_in tail =
      map-append class_in (take k old_run) tail ∙ ap (λ l. l ++ map class_in tail) (sym (take-map class_in k old_run)) in
      let some_k : 1 ≤ k = omega (arith, is.begins) in
      let begins : BeginTune (map class_in run) = subst BeginTune (sym reused_tunes)
      (begin_taken k (map class_in old_run) (map class_in tail) some_k is_run.some
      (run_begins (map class_in own.before) (map class_in old_run) (map class_in own.following) front mid_tunes back is_run)) in
      let some_new : 1 ≤ length (map class_in run) = subst (λ (l : List LineClass). 1 ≤ length l) (sym reused_tunes) (some_taken k (map class_in old_run) (map class_in tail) some_k is_run.some) in
      let law = tunes_after (map class_in own.before) (map class_in old_run) (map class_in run) (map class_in own.following) front mid_tunes back is_run begins in
      let law_header = header_after (map class_in own.before) (map class_in old_run) (map class_in run) (map class_in own.following) front mid_tunes back is_run some_new begins in
      let strict_front : RiseFromTo 0 (front ++ (mid_tunes ++ back)) (length text) = subst (λ (l : List Block). RiseFromTo 0 l (length text)) whole laid.strict in
      let strict_back : RiseFromTo 0 ((front ++ mid_tunes) ++ back) (length text) = subst (λ (l : List Block). RiseFromTo 0 l (length text)) (sym (append_assoc front mid_tunes back)) strict_front in
      record {
        run = record {
          parts = own;
          tunes = sym (ap (λ c. tunes_in (blocks_of c)) new_classes) ∙ (law
              ∙ (λ i. front ++ (map (move_block (long_before i)) (tunes_in (blocks_of (map class_in run))) ++ map (shift_block (long_old i) (length-map run class_in i)) back)));
          before = subst (λ n. All (Ends n) front) (sym from) (end_start front (mid_tunes ++ back) (length text) strict_front);
          following = all_starts (start_of back (length text)) back (length text) span.lines.to (omega (arith, is.to)) (strict_rest 0 (front ++ mid_tunes) back (length text) strict_back);
          amid = rise_amid span.lines.from span.lines.from mid_tunes span.lines.to (omega arith) among_text.here;
          order = order;
          most = is.most;
          begins = omega (arith, is.begins);
          ends = is.ends;
          inside = among_text.inside;
          count = count;
        };
        header = sym (ap (λ c. header_in (blocks_of c)) new_classes) ∙ (law_header ∙ ap (λ c. header_in (blocks_of c)) old_classes);
        header_ends = header_lies span.lines.from (header_in blocks) (among_text.first);
        rise = among_text.here;
      }
    where
      header_lies : (line : ℕ) (header : Option Block) → BlocksRise 0 (header_place header ∷ take span.tunes.from (tunes_in (blocks_in rules text))) line → HeaderEnds line header
      header_lies line None rise = λ block e. absurd (cc)
      header_lies line (Some own) rise = λ block e.
          let same : own ≡ block = cc in
          let end = rise_to own.to (take span.tunes.from (tunes_in (blocks_in rules text))) line rise.2 in
          let here : Ends line own = (rise.1, end) in
          subst (Ends line) same here
