-- Notes in one list, of three parts.
use Rattle.std.proofs.Common.{◌≡◌, ℕ, ◌+◌, ◌-◌, ◌<◌, ◌≤◌, List, [], ◌++◌, length, take, drop, sym, ap, subst, ◌∙◌, append_assoc, length-append, arith}
use Rattle.std.specs.Prelude.{slice_range, remove}
use Rattle.std.proofs.lemmas.List.{take-append-drop, length-take-le, take-take, take_at, drop_at, drop_all}
use Rattle.std.proofs.lemmas.List.Edits.{length-between, length-remove, remove-append_left, remove-append_right}
use Rattle.std.proofs.lemmas.List.Folds.{drop_split}
use Rattle.std.proofs.lemmas.Slice.{between_is, between_to_end}
use Rattle.abc_voices_score.specs.declared.score.Sounding.{Sounding}
use Rattle.abc_voices.specs.TiedNotes.{NotesInParts}

-- the parts of one list
abbrev pub parts : List Sounding → ℕ → ℕ → NotesInParts
parts notes next begun = record {
  linked = record { begun = drop begun notes; next = slice_range notes next begun };
  others = take next notes;
}

-- all of them
pub whole : (notes : List Sounding) (next begun : ℕ) → next ≤ begun → notes ≡ take next notes ++ slice_range notes next begun ++ drop begun notes
whole notes next begun below =
    sym (append_assoc (take next notes) (slice_range notes next begun) (drop begun notes)
    ∙ ap (λ l. take next notes ++ l) (sym (drop_split notes next begun below))
    ∙ take-append-drop next notes)

-- a time token begins
up_to : (notes : List Sounding) (next begun : ℕ) → next ≤ begun → take begun notes ≡ take next notes ++ slice_range notes next begun
up_to notes next begun below =
    sym (ap (λ l. take next notes ++ l) (between_is notes next begun)
    ∙ ap (λ l. l ++ drop next (take begun notes)) (sym (take-take next begun notes below))
    ∙ take-append-drop next (take begun notes))

turned_to : (notes : List Sounding) (next begun end : ℕ) → length notes ≤ end → next ≤ begun
    → parts notes begun end ≡ record { linked = record { begun = []; next = drop begun notes }; others = take next notes ++ slice_range notes next begun }
turned_to notes next begun end all below = λ i. record {
  linked = record { begun = drop_all end notes all i; next = between_to_end notes begun end all i };
  others = up_to notes next begun below i;
}

pub turned : (notes : List Sounding) (next begun end : ℕ) (v : NotesInParts) → length notes ≤ end → next ≤ begun → parts notes next begun ≡ v
    → parts notes begun end ≡ record { linked = record { begun = []; next = v.linked.begun }; others = v.others ++ v.linked.next }
turned notes next begun end v all below is =
    turned_to notes next begun end all below
    ∙ ap (λ (w : NotesInParts). record { linked = record { begun = []; next = w.linked.begun }; others = w.others ++ w.linked.next }) is

-- one note is taken out
parts_at : (others next begun : List Sounding) (i j : ℕ) → length others ≡ i → i + length next ≡ j
    → parts (others ++ (next ++ begun)) i j ≡ record { linked = record { begun = begun; next = next }; others = others }
parts_at others next begun i j first second =
    let so_long : length (others ++ next) ≡ j = length-append others next ∙ ap (λ n. n + length next) first ∙ second in
    let last : drop j (others ++ (next ++ begun)) ≡ begun =
    ap (drop j) (sym (append_assoc others next begun)) ∙ drop_at (others ++ next) begun j so_long in
    let up : take j (others ++ (next ++ begun)) ≡ others ++ next =
    ap (take j) (sym (append_assoc others next begun)) ∙ take_at (others ++ next) begun j so_long in
    let between : slice_range (others ++ (next ++ begun)) i j ≡ next =
    between_is (others ++ (next ++ begun)) i j ∙ ap (drop i) up ∙ drop_at others next i first in
    λ i'. record {
      linked = record { begun = last i'; next = between i' };
      others = take_at others (next ++ begun) i first i';
    }

taken_of : (others next begun : List Sounding) (i place : ℕ) → length others ≡ i → place < length next
    → remove (others ++ (next ++ begun)) (i + place) ≡ others ++ (remove next place ++ begun)
taken_of others next begun i place first within =
    let same : (i + place) - i ≡ place = omega arith in
    remove-append_right others (next ++ begun) i (i + place) first (omega arith)
    ∙ ap (λ k. others ++ remove (next ++ begun) k) same
    ∙ ap (λ l. others ++ l) (remove-append_left next begun place within)

taken_out : (notes : List Sounding) (next begun place : ℕ) → next ≤ begun → begun ≤ length notes → place < length (slice_range notes next begun)
    → parts (remove notes (next + place)) next (begun - 1)
    ≡ record { linked = record { begun = drop begun notes; next = remove (slice_range notes next begun) place }; others = take next notes }
taken_out notes next begun place below all within =
    let between : List Sounding = slice_range notes next begun in
    let first : length (take next notes) ≡ next = length-take-le next notes (omega arith) in
    let long : length between ≡ begun - next = length-between notes next begun all in
    let shorter : length (remove between place) + 1 ≡ length between = length-remove between place within in
    let whole_is : notes ≡ take next notes ++ (between ++ drop begun notes) =
    whole notes next begun below ∙ append_assoc (take next notes) between (drop begun notes) in
    ap (λ l. parts (remove l (next + place)) next (begun - 1)) whole_is
    ∙ ap (λ l. parts l next (begun - 1)) (taken_of (take next notes) between (drop begun notes) next place first within)
    ∙ parts_at (take next notes) (remove between place) (drop begun notes) next (begun - 1) first (omega (arith, first, long, shorter, within))

pub taken : (notes after : List Sounding) (next begun place : ℕ) (v : NotesInParts) → next ≤ begun → begun ≤ length notes → parts notes next begun ≡ v
    → place < length v.linked.next → after ≡ remove notes (next + place)
    → parts after next (begun - 1) ≡ record { linked = record { begun = v.linked.begun; next = remove v.linked.next place }; others = v.others }
taken notes after next begun place v below all is within out =
    let inside : place < length (slice_range notes next begun) = subst (λ (w : NotesInParts). place < length w.linked.next) (sym is) within in
    ap (λ l. parts l next (begun - 1)) out
    ∙ taken_out notes next begun place below all inside
    ∙ ap (λ (w : NotesInParts). record { linked = record { begun = w.linked.begun; next = remove w.linked.next place }; others = w.others }) is
