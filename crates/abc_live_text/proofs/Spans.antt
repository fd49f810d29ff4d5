-- The places of the tunes before a stretch, in it and after it.
use Rattle.std.proofs.Common.{◌≡◌, ℕ, suc, ◌<◌, ◌≤◌, true, false, Bool, List, [], ◌∷◌, ◌++◌, map, All, filter, nat_le, nat_lt}
use Rattle.std.proofs.Common.{refl, ◌∙◌, ap, arith, ⊎_elim}
use Rattle.std.proofs.lemmas.Bool.{cases_Bool}
use Rattle.std.proofs.lemmas.Bool.Decides.{nat_tests}
use Rattle.std.proofs.lemmas.List.Elements.{All-cons, All-nil}
use Rattle.abc_book.specs.Laws.{RiseFromTo, move_block}
use Rattle.abc_book.specs.Stretch.{blocks_before, blocks_after, shift_block}
use Rattle.abc_book.specs.declared.block.Block.{Block}
use Rattle.abc_tune_compiler.specs.Book.{is_tune, tunes_in}
use Rattle.abc_live_text.specs.Origin.{BlocksRise}
use Rattle.abc_live_text.specs.NewParts.{start_of}

-- Blocks that rise do so up to where others begin, and those from there on.
pub rise_front : (at : ℕ) (xs ys : List Block) (last : ℕ) → BlocksRise at (xs ++ ys) last → BlocksRise at xs (start_of ys last)
rise_front at [] [] last rise = rise
rise_front at [] (block ∷ ys) last rise = rise.0
rise_front at (block ∷ xs) ys last rise = (rise.0, rise.1, rise_front block.to xs ys last rise.2)

pub rise_back : (at : ℕ) (xs ys : List Block) (last : ℕ) → BlocksRise at (xs ++ ys) last → BlocksRise (start_of ys last) ys last
rise_back at [] [] last rise = omega arith
rise_back at [] (block ∷ ys) last rise = let here : block.from ≤ block.from = omega arith in (here, rise.1, rise.2)
rise_back at (block ∷ xs) ys last rise = rise_back block.to xs ys last rise.2

pub rise_to : (at : ℕ) (blocks : List Block) (last : ℕ) → BlocksRise at blocks last → at ≤ last
rise_to at [] last rise = rise
rise_to at (block ∷ blocks) last rise = let more = rise_to block.to blocks last rise.2 in omega (arith, rise.0, rise.1, more)

-- They begin at a line or later, if the line is not after the end.
pub starts_late : (blocks : List Block) (line last : ℕ) → line ≤ start_of blocks line → line ≤ last → line ≤ start_of blocks last
starts_late [] line last begins most = most
starts_late (block ∷ blocks) line last begins most = begins

-- Each lies between where they begin and where they end.
pub rise_amid : (low at : ℕ) (blocks : List Block) (last : ℕ) → low ≤ at → BlocksRise at blocks last → All (λ (block : Block). (low ≤ block.from) × (block.to ≤ last)) blocks
rise_amid low at [] last least rise = All-nil (λ (block : Block). (low ≤ block.from) × (block.to ≤ last))
rise_amid low at (block ∷ blocks) last least rise =
    All-cons (λ (block : Block). (low ≤ block.from) × (block.to ≤ last)) block blocks (omega (arith, least, rise.0), rise_to block.to blocks last rise.2)
    (rise_amid low block.to blocks last (omega (arith, least, rise.0, rise.1)) rise.2)

pub start_inside : (at : ℕ) (xs ys : List Block) (last : ℕ) → BlocksRise at (xs ++ ys) last → (at ≤ start_of ys last) × (start_of ys last ≤ last)
start_inside at xs ys last rise = (rise_to at xs (start_of ys last) (rise_front at xs ys last rise), rise_to (start_of ys last) ys last (rise_back at xs ys last rise))

-- Tunes have at least one line, and follow one another.
pub tunes_strict : (first : ℕ) (blocks : List Block) (last : ℕ) → RiseFromTo first blocks last → RiseFromTo first (tunes_in blocks) last
tunes_strict first [] last h = h
tunes_strict first (block ∷ blocks) last h = ⊎_elim
    (λ (e : is_tune block.kind ≡ true). simp e (h.0, h.1, tunes_strict block.to blocks last h.2))
    (λ (e : is_tune block.kind ≡ false). simp e (strict_lower first block.to (tunes_in blocks) last (omega (arith, h.0, h.1)) (tunes_strict block.to blocks last h.2)))
    (cases_Bool (is_tune block.kind))
  where
    strict_lower : (low first : ℕ) (blocks : List Block) (last : ℕ) → low ≤ first → RiseFromTo first blocks last → RiseFromTo low blocks last
    strict_lower low first [] last e h = omega arith
    strict_lower low first (block ∷ blocks) last e h = (omega (arith, h.0), h.1, h.2)

-- Blocks before the start of others, and these.
abbrev pub BeginsBefore : ℕ → Block → Type 0
BeginsBefore line block = block.from < line

abbrev pub BeginsFrom : ℕ → Block → Type 0
BeginsFrom line block = line ≤ block.from

abbrev pub Ends : ℕ → Block → Type 0
Ends line block = (block.from ≤ block.to) × (block.to ≤ line)

strict_to : (at : ℕ) (blocks : List Block) (last : ℕ) → RiseFromTo at blocks last → at ≤ last
strict_to at [] last rise = rise
strict_to at (block ∷ blocks) last rise = let more = strict_to block.to blocks last rise.2 in omega (arith, rise.0, rise.1, more)

strict_front : (at : ℕ) (xs ys : List Block) (last : ℕ) → RiseFromTo at (xs ++ ys) last → RiseFromTo at xs (start_of ys last)
strict_front at [] [] last rise = rise
strict_front at [] (block ∷ ys) last rise = rise.0
strict_front at (block ∷ xs) ys last rise = (rise.0, rise.1, strict_front block.to xs ys last rise.2)

strict_back : (at : ℕ) (xs ys : List Block) (last : ℕ) → RiseFromTo at (xs ++ ys) last → RiseFromTo (start_of ys last) ys last
strict_back at [] [] last rise = omega arith
strict_back at [] (block ∷ ys) last rise = let here : block.from ≤ block.from = omega arith in (here, rise.1, rise.2)
strict_back at (block ∷ xs) ys last rise = strict_back block.to xs ys last rise.2

all_before : (at : ℕ) (xs : List Block) (last : ℕ) → RiseFromTo at xs last → All (BeginsBefore last) xs
all_before at [] last rise = All-nil (BeginsBefore last)
all_before at (block ∷ xs) last rise =
    let more = strict_to block.to xs last rise.2 in
    All-cons (BeginsBefore last) block xs (omega (arith, rise.1, more)) (all_before block.to xs last rise.2)

all_end : (at : ℕ) (xs : List Block) (last : ℕ) → RiseFromTo at xs last → All (Ends last) xs
all_end at [] last rise = All-nil (Ends last)
all_end at (block ∷ xs) last rise =
    let more = strict_to block.to xs last rise.2 in
    let own : Ends last block = (omega (arith, rise.1), more) in
    All-cons (Ends last) block xs own (all_end block.to xs last rise.2)

all_from : (low at : ℕ) (xs : List Block) (last : ℕ) → low ≤ at → RiseFromTo at xs last → All (BeginsFrom low) xs
all_from low at [] last h rise = All-nil (BeginsFrom low)
all_from low at (block ∷ xs) last h rise =
    All-cons (BeginsFrom low) block xs (omega (arith, h, rise.0)) (all_from low block.to xs last (omega (arith, h, rise.0, rise.1)) rise.2)

pub before_start : (xs ys : List Block) (last : ℕ) → RiseFromTo 0 (xs ++ ys) last → All (BeginsBefore (start_of ys last)) xs
before_start xs ys last rise = all_before 0 xs (start_of ys last) (strict_front 0 xs ys last rise)

pub end_start : (xs ys : List Block) (last : ℕ) → RiseFromTo 0 (xs ++ ys) last → All (Ends (start_of ys last)) xs
end_start xs ys last rise = all_end 0 xs (start_of ys last) (strict_front 0 xs ys last rise)

pub from_start : (xs ys : List Block) (last : ℕ) → RiseFromTo 0 (xs ++ ys) last → All (BeginsFrom (start_of ys last)) ys
from_start xs ys last rise = all_from (start_of ys last) (start_of ys last) ys last (omega arith) (strict_back 0 xs ys last rise)

-- Those before a line and those from there on, of blocks of which the first ones are before it and the others are not.
keep_all : (line : ℕ) (ys : List Block) → All (BeginsBefore line) ys → blocks_before line ys ≡ ys
keep_all line [] all = refl
keep_all line (block ∷ ys) all =
    let own : block.from < line = all 0 block (omega arith) in
    let test : nat_lt block.from line ≡ true = grind (arith, nat_tests) in
    simp test (ap (λ l. block ∷ l) (keep_all line ys (λ i d l. all (suc i) d (omega arith))))

pub keep_none : (line : ℕ) (ys : List Block) → All (BeginsFrom line) ys → blocks_before line ys ≡ []
keep_none line [] all = refl
keep_none line (block ∷ ys) all =
    let own : line ≤ block.from = all 0 block (omega arith) in
    let test : nat_lt block.from line ≡ false = grind (arith, nat_tests) in
    simp test (keep_none line ys (λ i d l. all (suc i) d (omega arith)))

leave_all : (line : ℕ) (ys : List Block) → All (BeginsBefore line) ys → blocks_after line ys ≡ []
leave_all line [] all = refl
leave_all line (block ∷ ys) all =
    let own : block.from < line = all 0 block (omega arith) in
    let test : nat_le line block.from ≡ false = grind (arith, nat_tests) in
    simp test (leave_all line ys (λ i d l. all (suc i) d (omega arith)))

leave_none : (line : ℕ) (ys : List Block) → All (BeginsFrom line) ys → blocks_after line ys ≡ ys
leave_none line [] all = refl
leave_none line (block ∷ ys) all =
    let own : line ≤ block.from = all 0 block (omega arith) in
    let test : nat_le line block.from ≡ true = grind (arith, nat_tests) in
    simp test (ap (λ l. block ∷ l) (leave_none line ys (λ i d l. all (suc i) d (omega arith))))

filter_both : (p : Block → Bool) (xs ys : List Block) → filter p (xs ++ ys) ≡ filter p xs ++ filter p ys
filter_both p [] ys = refl
filter_both p (x ∷ xs) ys = ⊎_elim
    (λ (e : p x ≡ true). simp e (ap (λ l. x ∷ l) (filter_both p xs ys)))
    (λ (e : p x ≡ false). simp e (filter_both p xs ys))
    (cases_Bool (p x))

append_none : (xs : List Block) → xs ++ [] ≡ xs
append_none [] = refl
append_none (x ∷ xs) = ap (λ l. x ∷ l) (append_none xs)

pub before_are : (xs ys : List Block) (last : ℕ) → RiseFromTo 0 (xs ++ ys) last → blocks_before (start_of ys last) (xs ++ ys) ≡ xs
before_are xs ys last rise =
    let line = start_of ys last in
    filter_both (λ block. nat_lt block.from line) xs ys
    ∙ ((λ i. keep_all line xs (before_start xs ys last rise) i ++ keep_none line ys (from_start xs ys last rise) i) ∙ append_none xs)

pub after_are : (xs ys : List Block) (last : ℕ) → RiseFromTo 0 (xs ++ ys) last → blocks_after (start_of ys last) (xs ++ ys) ≡ ys
after_are xs ys last rise =
    let line = start_of ys last in
    filter_both (λ block. nat_le line block.from) xs ys
    ∙ (λ i. leave_all line xs (before_start xs ys last rise) i ++ leave_none line ys (from_start xs ys last rise) i)

-- The tunes of blocks that are put together, chosen, or moved.
pub tunes_both : (xs ys : List Block) → tunes_in (xs ++ ys) ≡ tunes_in xs ++ tunes_in ys
tunes_both xs ys = filter_both (λ block. is_tune block.kind) xs ys

filter_swap : (p q : Block → Bool) (xs : List Block) → filter p (filter q xs) ≡ filter q (filter p xs)
filter_swap p q [] = refl
filter_swap p q (x ∷ xs) = ⊎_elim
    (λ (e : p x ≡ true). ⊎_elim
    (λ (f : q x ≡ true). simp (e, f) (ap (λ l. x ∷ l) (filter_swap p q xs)))
    (λ (f : q x ≡ false). simp (e, f) (filter_swap p q xs))
    (cases_Bool (q x)))
    (λ (e : p x ≡ false). ⊎_elim
    (λ (f : q x ≡ true). simp (e, f) (filter_swap p q xs))
    (λ (f : q x ≡ false). simp (e, f) (filter_swap p q xs))
    (cases_Bool (q x)))
    (cases_Bool (p x))

pub tunes_before : (line : ℕ) (xs : List Block) → tunes_in (blocks_before line xs) ≡ blocks_before line (tunes_in xs)
tunes_before line xs = filter_swap (λ block. is_tune block.kind) (λ block. nat_lt block.from line) xs

pub tunes_following : (line : ℕ) (xs : List Block) → tunes_in (blocks_after line xs) ≡ blocks_after line (tunes_in xs)
tunes_following line xs = filter_swap (λ block. is_tune block.kind) (λ block. nat_le line block.from) xs

pub tunes_moved : (n : ℕ) (xs : List Block) → tunes_in (map (move_block n) xs) ≡ map (move_block n) (tunes_in xs)
tunes_moved n [] = refl
tunes_moved n (x ∷ xs) = ⊎_elim
    (λ (e : is_tune x.kind ≡ true). simp e (ap (λ l. move_block n x ∷ l) (tunes_moved n xs)))
    (λ (e : is_tune x.kind ≡ false). simp e (tunes_moved n xs))
    (cases_Bool (is_tune x.kind))

pub tunes_shifted : (gone came : ℕ) (xs : List Block) → tunes_in (map (shift_block gone came) xs) ≡ map (shift_block gone came) (tunes_in xs)
tunes_shifted gone came [] = refl
tunes_shifted gone came (x ∷ xs) = ⊎_elim
    (λ (e : is_tune x.kind ≡ true). simp e (ap (λ l. shift_block gone came x ∷ l) (tunes_shifted gone came xs)))
    (λ (e : is_tune x.kind ≡ false). simp e (tunes_shifted gone came xs))
    (cases_Bool (is_tune x.kind))
