-- The tunes and the file header of a text of which a stretch is replaced.
use Rattle.std.proofs.Common.{◌≡◌, ◌↔◌, ℕ, zero, suc, ◌+◌, ◌-◌, ◌<◌, ◌≤◌, true, false, if◌then◌else◌, List, [], ◌∷◌, ◌++◌, map}
use Rattle.std.proofs.Common.{Some, None, All, length, take, drop, slice_get, refl, sym, ◌∙◌, ap, subst, arith, append_assoc}
use Rattle.std.proofs.Common.{⊎_elim, inl, inr}
use Rattle.std.specs.Prelude.{IsTrue, cond, count_by, nat_le}
use Rattle.std.proofs.lemmas.Bool.{cases_Bool, cases_lt}
use Rattle.std.proofs.lemmas.Bool.Decides.{nat_tests}
use Rattle.std.proofs.lemmas.List.Sums.{sum_by-cons}
use Rattle.std.proofs.lemmas.List.Elements.{All-cons, All-nil, All-drop}
use Rattle.std.proofs.lemmas.List.{drop_all, drop_at, append-nil}
use Rattle.abc_book.specs.Block.{blocks_of, is_x_line, letter_x}
use Rattle.abc_book.specs.Laws.{RiseFromTo, holds, move_block}
use Rattle.abc_book.specs.Stretch.{BeginTune, blocks_at, blocks_before, blocks_after, shift_block}
use Rattle.abc_book.specs.declared.block.Block.{Block}
use Rattle.abc_book.specs.declared.block.BlockKind.{BlockKind}
use Rattle.abc_book.specs.declared.block.BlockKind.TheVariants as kinds
use Rattle.abc_book.proofs.Cuts.{is_field_x, x_line_cuts}
use Rattle.abc_book.proofs.Lying.{each_in_one}
use Rattle.abc_book.proofs.Rising.{blocks_rise, tunes_begin}
use Rattle.abc_book.proofs.Stretches.{stretch_is_enough}
use Rattle.abc_scan.specs.declared.line_class.LineClass.{LineClass}
use Rattle.abc_scan.specs.declared.line_class.LineClass.TheVariants.{Blank, Comment, Field}
use Rattle.abc_tune_compiler.specs.Book.{header_in, is_file_header, is_tune, tunes_in}
use Rattle.abc_live_text.specs.NewParts.{start_of}
use Rattle.abc_live_text.proofs.Parts.{drop_past}
use Rattle.abc_live_text.proofs.Spans.{before_are, after_are, keep_none, tunes_before, tunes_following, tunes_both, tunes_moved}
use Rattle.abc_live_text.proofs.Spans.{tunes_shifted, tunes_strict}

begin_x : (classes : List LineClass) (n : ℕ) → slice_get classes n ≡ Some (Field letter_x) → BeginTune (drop n classes)
begin_x [] n e = absurd (cc)
begin_x (class ∷ classes) zero e =
    let same : class ≡ Field letter_x = cc in
    let own : IsTrue (is_x_line (Field letter_x)) = refl in
    subst (λ (c : LineClass). IsTrue (is_x_line c)) (sym same) own
begin_x (class ∷ classes) (suc n) e = begin_x classes n e

tune_kind : (kind : BlockKind) → is_tune kind ≡ true → kind ≡ kinds.Tune
tune_kind kinds.FileHeader e = absurd (cc)
tune_kind kinds.Tune e = refl
tune_kind kinds.Free e = absurd (cc)

abbrev BeginsWithX : List LineClass → Block → Type 0
BeginsWithX classes block = slice_get classes block.from ≡ Some (Field letter_x)

x_begins : (classes : List LineClass) (blocks : List Block) → All
    (λ (block : Block). (block.kind ≡ kinds.Tune) ↔ (slice_get classes block.from ≡ Some (Field letter_x))) blocks → All (BeginsWithX classes) (tunes_in blocks)
x_begins classes [] begin = All-nil (BeginsWithX classes)
x_begins classes (block ∷ blocks) begin =
    let more = x_begins classes blocks (λ i d l. begin (suc i) d (omega arith)) in
    ⊎_elim
    (λ (e : is_tune block.kind ≡ true). simp e (All-cons (BeginsWithX classes) block (tunes_in blocks) ((begin 0 block (omega arith)).0 (tune_kind block.kind e)) more))
    (λ (e : is_tune block.kind ≡ false). simp e more)
    (cases_Bool (is_tune block.kind))

all_after : (P : Block → Type 0) (xs ys : List Block) → All P (xs ++ ys) → All P ys
all_after P xs ys all = subst (All P) (drop_at xs ys (length xs) refl) (All-drop P (length xs) (xs ++ ys) all)

-- A tune begins where others do, or the text ends there.
begin_start : (classes : List LineClass) (xs ys : List Block) → tunes_in (blocks_of classes) ≡ xs ++ ys → BeginTune (drop (start_of ys (length classes)) classes)
begin_start classes xs [] e = subst BeginTune (sym (drop_all (length classes) classes (omega arith))) tt
begin_start classes xs (block ∷ ys) e =
    let all = all_after (BeginsWithX classes) xs (block ∷ ys) (subst (All (BeginsWithX classes)) e (x_begins classes (blocks_of classes) (tunes_begin classes))) in
    begin_x classes block.from (all 0 block (omega arith))

begin_front : (own rest : List LineClass) → 1 ≤ length own → BeginTune (own ++ rest) → BeginTune own
begin_front [] rest some begin = absurd (omega arith)
begin_front (class ∷ own) rest some begin = begin

-- A stretch that keeps its first line.
pub begin_taken : (k : ℕ) (own rest : List LineClass) → 1 ≤ k → 1 ≤ length own → BeginTune own → BeginTune (take k own ++ rest)
begin_taken zero own rest h some begin = absurd (omega arith)
begin_taken (suc k) [] rest h some begin = absurd (omega arith)
begin_taken (suc k) (class ∷ own) rest h some begin = begin

-- the file header

none_hold : (at : ℕ) (blocks : List Block) (last : ℕ) → 1 ≤ at → RiseFromTo at blocks last → count_by (holds 0) blocks ≡ 0
none_hold at [] last h rise = refl
none_hold at (block ∷ blocks) last h rise =
    let own : 1 ≤ block.from = omega (arith, h, rise.0) in
    let test : nat_le block.from 0 ≡ false = grind (arith, nat_tests) in
    let here : holds 0 block ≡ false = simp test in
    let more = none_hold block.to blocks last (omega (arith, own, rise.1)) rise.2 in
    sum_by-cons (λ (b : Block). cond (holds 0 b) 1 0) block blocks ∙ (λ i. cond (here i) 1 0 + more i)

begins_first : (block : Block) (blocks : List Block) (last : ℕ) → RiseFromTo 0 (block ∷ blocks) last → count_by (holds 0) (block ∷ blocks) ≡ 1 → block.from ≡ 0
begins_first block blocks last rise one = ⊎_elim
    (λ (h : 0 < block.from).
    let low : 1 ≤ block.from = omega (arith, h) in
    let same : 1 ≤ 1 = omega arith in
    let none = none_hold 1 (block ∷ blocks) last same (low, rise.1, rise.2) in
    absurd (omega (arith, none, one)))
    (λ (h : block.from ≤ 0). omega (arith, h))
    (cases_lt 0 block.from)

no_tune : (kind : BlockKind) → is_file_header kind ≡ true → kind ≡ kinds.Tune → ⊥
no_tune kinds.FileHeader e f = absurd (cc)
no_tune kinds.Tune e f = absurd (cc)
no_tune kinds.Free e f = absurd (cc)

header_none : (classes : List LineClass) (blocks : List Block) (last : ℕ) → RiseFromTo 0 blocks last → count_by (holds 0) blocks ≡ 1
    → All (λ (block : Block). (block.kind ≡ kinds.Tune) ↔ (slice_get classes block.from ≡ Some (Field letter_x))) blocks
    → slice_get classes 0 ≡ Some (Field letter_x) → header_in blocks ≡ None
header_none classes [] last rise one begin x = refl
header_none classes (block ∷ blocks) last rise one begin x = ⊎_elim
    (λ (e : is_file_header block.kind ≡ true).
    let first = begins_first block blocks last rise one in
    absurd (no_tune block.kind e ((begin 0 block (omega arith)).1 (ap (slice_get classes) first ∙ x))))
    (λ (e : is_file_header block.kind ≡ false). simp e)
    (cases_Bool (is_file_header block.kind))

no_header : (classes : List LineClass) → 1 ≤ length classes → BeginTune classes → header_in (blocks_of classes) ≡ None
no_header [] some begin = absurd (omega arith)
no_header (class ∷ classes) some begin =
    let x = is_field_x class begin in
    let here : slice_get (class ∷ classes) 0 ≡ Some class = refl in
    header_none (class ∷ classes) (blocks_of (class ∷ classes)) (length (class ∷ classes)) (blocks_rise (class ∷ classes))
    (each_in_one (class ∷ classes) 0 class here (λ (e : class ≡ Blank). let bad : Blank ≡ Field letter_x = sym e ∙ x in absurd (cc))
    (λ (e : class ≡ Comment). let bad : Comment ≡ Field letter_x = sym e ∙ x in absurd (cc)))
    (tunes_begin (class ∷ classes)) (ap (λ c. Some c) x)

header_moved : (n : ℕ) (ys : List Block) → header_in ys ≡ None → header_in (map (move_block n) ys) ≡ None
header_moved n [] e = refl
header_moved n (block ∷ ys) e = ⊎_elim
    (λ (f : is_file_header block.kind ≡ true). absurd (let bad : Some block ≡ None = sym (ap (λ b. if b then Some block else None) f) ∙ e in cc))
    (λ (f : is_file_header block.kind ≡ false). simp f)
    (cases_Bool (is_file_header block.kind))

header_front : (xs ys zs : List Block) → header_in ys ≡ None → header_in zs ≡ None → header_in (xs ++ ys) ≡ header_in (xs ++ zs)
header_front [] ys zs e f = e ∙ sym f
header_front (x ∷ xs) ys zs e f = refl

cut : (before following : List LineClass) → 1 ≤ length following → BeginTune following → blocks_of (before ++ following) ≡ blocks_of before ++ map (move_block (length before)) (blocks_of following)
cut before [] some begin = absurd (omega arith)
cut before (x ∷ following) some begin = x_line_cuts before following x begin

-- It stays if the lines after some lines begin a tune before and after.
header_stays : (before old new : List LineClass) → 1 ≤ length old → 1 ≤ length new → BeginTune old → BeginTune new → header_in (blocks_of (before ++ new)) ≡ header_in (blocks_of (before ++ old))
header_stays before old new some more begin begins =
    ap header_in (cut before new more begins)
    ∙ (header_front (blocks_of before) (map (move_block (length before)) (blocks_of new)) (map (move_block (length before)) (blocks_of old))
    (header_moved (length before) (blocks_of new) (no_header new more begins)) (header_moved (length before) (blocks_of old) (no_header old some begin))
    ∙ ap header_in (sym (cut before old some begin)))

begin_whole : (own rest : List LineClass) → 1 ≤ length own → BeginTune own → BeginTune (own ++ rest)
begin_whole [] rest some begin = absurd (omega arith)
begin_whole (class ∷ own) rest some begin = begin

some_whole : (own rest : List LineClass) → 1 ≤ length own → 1 ≤ length (own ++ rest)
some_whole [] rest some = absurd (omega arith)
some_whole (class ∷ own) rest some = omega arith

-- What is known of a stretch that begins a tune: which tunes are before it, in it and after it.
pub record IsRun (before old following : List LineClass) (front mid back : List Block) : Type 0 where
  pub tunes : tunes_in (blocks_of (before ++ (old ++ following))) ≡ front ++ (mid ++ back)
  pub from : length before ≡ start_of (mid ++ back) (length (before ++ (old ++ following)))
  pub to : length before + length old ≡ start_of back (length (before ++ (old ++ following)))
  pub some : 1 ≤ length old

pub run_begins : (before old following : List LineClass) (front mid back : List Block) → IsRun before old following front mid back → BeginTune old
run_begins before old following front mid back run =
    let all = before ++ (old ++ following) in
    let here = begin_start all front (mid ++ back) run.tunes in
    let rest : drop (start_of (mid ++ back) (length all)) all ≡ old ++ following = ap (λ n. drop n all) (sym run.from)
    ∙ (drop_past (length before) before (old ++ following) (omega arith) ∙ (let z : length before - length before ≡ 0 = omega arith in ap (λ n. drop n (old ++ following)) z)) in
    begin_front old following run.some (subst BeginTune rest here)

-- The lines after a stretch begin a tune if the tunes after it do.
pub begin_rest : (before old following : List LineClass) (front back : List Block)
    → tunes_in (blocks_of (before ++ (old ++ following))) ≡ front ++ back → length before + length old ≡ start_of back (length (before ++ (old ++ following))) → BeginTune following
begin_rest before old following front back tunes to =
    let all = before ++ (old ++ following) in
    let here = begin_start all front back tunes in
    let rest : drop (start_of back (length all)) all ≡ following =
    ap (λ n. drop n all) (sym to) ∙ (drop_past (length before + length old) before (old ++ following) (omega arith)
    ∙ ((let z : length before + length old - length before ≡ length old = omega arith in ap (λ n. drop n (old ++ following)) z)
    ∙ (drop_past (length old) old following (omega arith) ∙ (let z : length old - length old ≡ 0 = omega arith in ap (λ n. drop n following) z)))) in
    subst BeginTune rest here

run_ends : (before old following : List LineClass) (front mid back : List Block) → IsRun before old following front mid back → BeginTune following
run_ends before old following front mid back run = begin_rest before old following (front ++ mid) back (run.tunes ∙ sym (append_assoc front mid back)) run.to

tunes_parts : (before old new following : List LineClass) (there front back : List Block)
    → blocks_of (before ++ (new ++ following)) ≡ blocks_before (length before) there
    ++ (blocks_at (length before) new ++ map (shift_block (length old) (length new)) (blocks_after (length before + length old) there))
    → tunes_in (blocks_before (length before) there) ≡ front → tunes_in (blocks_after (length before + length old) there) ≡ back
    → tunes_in (blocks_of (before ++ (new ++ following))) ≡ front ++ (map (move_block (length before)) (tunes_in (blocks_of new)) ++ map (shift_block (length old) (length new)) back)
tunes_parts before old new following there front back law first last =
    let a = blocks_before (length before) there in
    let b = blocks_at (length before) new in
    let c = map (shift_block (length old) (length new)) (blocks_after (length before + length old) there) in
    ap tunes_in law ∙ (tunes_both a (b ++ c)
    ∙ (λ i. first i ++ (tunes_both b c ∙ (λ j. tunes_moved (length before) (blocks_of new) j ++
    (tunes_shifted (length old) (length new) (blocks_after (length before + length old) there) ∙ ap (map (shift_block (length old) (length new))) last) j)) i))

-- The tunes after the edit of a stretch.
pub tunes_after : (before old new following : List LineClass) (front mid back : List Block) → IsRun before old following front mid back → BeginTune new
    → tunes_in (blocks_of (before ++ (new ++ following))) ≡ front ++ (map (move_block (length before)) (tunes_in (blocks_of new)) ++ map (shift_block (length old) (length new)) back)
tunes_after before old new following front mid back run begins =
    let all = before ++ (old ++ following) in
    let there = blocks_of all in
    let n = length all in
    let begin = run_begins before old following front mid back run in
    let law = stretch_is_enough before old new following (inr begin) (inr begins) (run_ends before old following front mid back run) in
    let rise = tunes_strict 0 there n (blocks_rise all) in
    let rise_first = subst (λ (t : List Block). RiseFromTo 0 t n) run.tunes rise in
    let both : tunes_in there ≡ (front ++ mid) ++ back = run.tunes ∙ sym (append_assoc front mid back) in
    let rise_last = subst (λ (t : List Block). RiseFromTo 0 t n) both rise in
    let first : tunes_in (blocks_before (length before) there) ≡ front =
    tunes_before (length before) there ∙ ((λ i. blocks_before (run.from i) (run.tunes i)) ∙ before_are front (mid ++ back) n rise_first) in
    let last : tunes_in (blocks_after (length before + length old) there) ≡ back =
    tunes_following (length before + length old) there ∙ ((λ i. blocks_after (run.to i) (both i)) ∙ after_are (front ++ mid) back n rise_last) in
    tunes_parts before old new following there _ back law first last

-- And the file header.
pub header_after : (before old new following : List LineClass) (front mid back : List Block) → IsRun before old following front mid back → 1 ≤ length new → BeginTune new
    → header_in (blocks_of (before ++ (new ++ following))) ≡ header_in (blocks_of (before ++ (old ++ following)))
header_after before old new following front mid back run more begins =
    header_stays before (old ++ following) (new ++ following) (some_whole old following run.some) (some_whole new following more)
    (begin_whole old following run.some (run_begins before old following front mid back run)) (begin_whole new following more begins)

-- The tunes after the edit of the first lines of a text.
pub tunes_first : (before old new following : List LineClass) (mid back : List Block) → before ≡ []
    → tunes_in (blocks_of (before ++ (old ++ following))) ≡ mid ++ back → length before + length old ≡ start_of back (length (before ++ (old ++ following)))
    → tunes_in (blocks_of (before ++ (new ++ following))) ≡ map (move_block (length before)) (tunes_in (blocks_of new)) ++ map (shift_block (length old) (length new)) back
tunes_first before old new following mid back none tunes to =
    let all = before ++ (old ++ following) in
    let there = blocks_of all in
    let n = length all in
    let law = stretch_is_enough before old new following (inl none) (inl none) (begin_rest before old following mid back tunes to) in
    let rise = subst (λ (t : List Block). RiseFromTo 0 t n) tunes (tunes_strict 0 there n (blocks_rise all)) in
    let zeroth : length before ≡ 0 = ap length none in
    let first : tunes_in (blocks_before (length before) there) ≡ [] = ap (λ k. tunes_in (blocks_before k there)) zeroth ∙ ap tunes_in (keep_none 0 there (λ i d l. omega arith)) in
    let last : tunes_in (blocks_after (length before + length old) there) ≡ back =
    tunes_following (length before + length old) there ∙ ((λ i. blocks_after (to i) (tunes i)) ∙ after_are mid back n rise) in
    tunes_parts before old new following there _ back law first last

header_only : (new following : List LineClass) → BeginTune following → header_in (blocks_of (new ++ following)) ≡ header_in (blocks_of new)
header_only new [] begin = ap (λ c. header_in (blocks_of c)) (append-nil new)
header_only new (x ∷ following) begin =
    let some : 1 ≤ suc (length following) = omega arith in
    ap header_in (cut new (x ∷ following) some begin)
    ∙ (header_front (blocks_of new) (map (move_block (length new)) (blocks_of (x ∷ following))) [] (header_moved (length new) (blocks_of (x ∷ following)) (no_header (x ∷ following) some begin)) refl
    ∙ ap header_in (append-nil (blocks_of new)))

-- And the file header, which is that of the first lines.
pub header_first : (before new following : List LineClass) → before ≡ [] → BeginTune following → header_in (blocks_of (before ++ (new ++ following))) ≡ header_in (blocks_of new)
header_first before new following none begin = ap (λ (b : List LineClass). header_in (blocks_of (b ++ (new ++ following)))) none ∙ header_only new following begin
