-- Laws of the lines that two texts have in common, and of the splice between them.
use Rattle.std.proofs.Common.{◌≡◌, ◌≢◌, ℕ, zero, suc, ◌+◌, ◌-◌, ◌<◌, ◌≤◌, ◌&&◌, ◌==◌, Bool, true, false, not, cond, nat_le, List, [], ◌∷◌, ◌++◌, length, take, drop}
use Rattle.std.proofs.Common.{Some, None, option_map, get_or, Ok, Err, refl, sym, ap, ap₂, ◌∙◌, subst, arith, length-take}
use Rattle.std.specs.Borrow.{Bor}
use Rattle.std.specs.Prelude.{slice_get}
use Rattle.std.specs.List.{list_all}
use Rattle.std.proofs.lemmas.Bool.Decides.{nat_tests}
use Rattle.std.proofs.lemmas.List.{take_more, drop_more, take-append-drop, length-drop, length-map, take-map, drop-map}
use Rattle.std.proofs.lemmas.List.Folds.{list_all-append}
use Rattle.std.proofs.lemmas.Option.{get_or_from_slice_get, slice_get-get_or, slice_get-map, slice_get_within}
use Rattle.abc_lines.specs.declared.limits.TheConstants.{MOST_LINES}
use Rattle.abc_lines.specs.declared.edit_error.EditError.TheVariants.{BadLine, BadRange, TooLarge}
use Rattle.abc_lines.specs.Edits.{edited, insertion, replaced, replacement}
use Rattle.abc_lines.specs.Limits.{limit_error}
use Rattle.abc_lines.specs.Text.{Splice, Text, is_line, seen_lines, spliced}
use Rattle.c_handle.specs.TextChange.{IsChange, unless_refused, whole_text}

-- a borrowed line in its place
pub slice_get-seen_lines : (lines : List (Bor (List ℕ))) (i : ℕ) (d : Bor (List ℕ)) → i < length lines → slice_get (seen_lines lines) i ≡ Some (get_or lines i d).now
slice_get-seen_lines lines i d inside = slice_get-map (λ (l : Bor (List ℕ)). l.now) lines i ∙ ap (option_map (λ (l : Bor (List ℕ)). l.now)) (slice_get-get_or lines i d inside)

-- one more line at the front is the same
pub take-more : (xs ys : Text) (i : ℕ) (x : List ℕ) → slice_get xs i ≡ Some x → slice_get ys i ≡ Some x → take i xs ≡ take i ys → take (i + 1) xs ≡ take (i + 1) ys
take-more xs ys i x here there same =
    take_more xs i x (slice_get_within xs i x here) ∙ ap (λ z. take i xs ++ z ∷ []) (get_or_from_slice_get xs i x x here)
    ∙ ap (λ l. l ++ x ∷ []) same
    ∙ ap (λ z. take i ys ++ z ∷ []) (sym (get_or_from_slice_get ys i x x there)) ∙ sym (take_more ys i x (slice_get_within ys i x there))

-- one more line at the end is the same
pub drop-more : (xs ys : Text) (i j : ℕ) (x : List ℕ) → slice_get xs i ≡ Some x → slice_get ys j ≡ Some x → drop (i + 1) xs ≡ drop (j + 1) ys → drop i xs ≡ drop j ys
drop-more xs ys i j x here there same =
    drop_more xs i x (slice_get_within xs i x here) ∙ ap (λ z. z ∷ drop (i + 1) xs) (get_or_from_slice_get xs i x x here)
    ∙ ap (λ l. x ∷ l) same
    ∙ ap (λ z. z ∷ drop (j + 1) ys) (sym (get_or_from_slice_get ys j x x there)) ∙ sym (drop_more ys j x (slice_get_within ys j x there))

take_nil : {X : Type 0} (n : ℕ) → let none : List X = [] in take n none ≡ none
take_nil zero = refl
take_nil (suc n) = refl

take_both : {X : Type 0} (a b : ℕ) (l : List X) → take a l ++ take b (drop a l) ≡ take (a + b) l
take_both zero b l =
    let e : b ≡ zero + b = omega arith in
    ap (λ n. take n l) e
take_both (suc a) b [] = ap (λ r. [] ++ r) (take_nil b) ∙ sym (take_nil (suc a + b))
take_both (suc a) b (x ∷ xs) =
    let e : suc (a + b) ≡ suc a + b = omega arith in
    ap (λ r. x ∷ r) (take_both a b xs) ∙ ap (λ n. take n (x ∷ xs)) e

get_drop : {X : Type 0} (f j : ℕ) (l : List X) → slice_get (drop f l) j ≡ slice_get l (f + j)
get_drop zero j l =
    let e : j ≡ zero + j = omega arith in
    ap (slice_get l) e
get_drop (suc f) j [] = refl
get_drop (suc f) j (x ∷ xs) =
    let e : suc (f + j) ≡ suc f + j = omega arith in
    get_drop f j xs ∙ ap (λ n. slice_get (x ∷ xs) n) e

get_take : {X : Type 0} (k j : ℕ) (l : List X) → j < k → slice_get (take k l) j ≡ slice_get l j
get_take zero j l below = absurd (omega (arith, below))
get_take (suc k) j [] below = refl
get_take (suc k) zero (x ∷ xs) below = refl
get_take (suc k) (suc j) (x ∷ xs) below = get_take k j xs (omega (arith, below))

-- the splice that leaves the lines at the front and at the end
abbrev pub between : ℕ → ℕ → Text → Text → Splice
between front back old new = record { at = front; removed = length old - front - back; lines = take (length new - back - front) (drop front new) }

length_between : (front back : ℕ) (new : Text) → front + back ≤ length new → length (take (length new - back - front) (drop front new)) ≡ length new - back - front
length_between front back new inside = omega (arith, length-take (length new - back - front) (drop front new), length-drop front new, inside)

pub is_change : (old new : Text) (front back : ℕ) → front + back ≤ length old → front + back ≤ length new → take front old ≡ take front new
    → drop (length old - back) old ≡ drop (length new - back) new
    → (front < length old → front < length new → slice_get old front ≢ slice_get new front)
    → (front + back < length old → front + back < length new → slice_get old (length old - back - 1) ≢ slice_get new (length new - back - 1))
    → IsChange old new (between front back old new)
unfolding spliced
is_change old new front back inside room same same' first last =
    let removed = length old - front - back in
    let came = length new - back - front in
    let lines = take came (drop front new) in
    let end : front + removed ≡ length old - back = omega (arith, inside) in
    let whole : front + came ≡ length new - back = omega (arith, room) in
    let count : length lines ≡ came = length_between front back new room in
    record {
      inside = omega (arith, inside);
      value = ap₂ (λ (a d : Text). a ++ lines ++ d) same (ap (λ n. drop n old) end ∙ same')
          ∙ ap (λ t. t ++ drop (length new - back) new) (take_both front came new ∙ ap (λ n. take n new) whole)
          ∙ take-append-drop (length new - back) new;
      first = λ some more is.
          let some' : front < length old = omega (arith, some, inside) in
          let more' : front < length new = omega (arith, more, count, room) in
          let place : front + 0 ≡ front = omega arith in
          first some' more' (is ∙ get_take came 0 (drop front new) (omega (arith, more, count)) ∙ get_drop front 0 new ∙ ap (slice_get new) place);
      last = λ some more is.
          let some' : front + back < length old = omega (arith, some, inside) in
          let more' : front + back < length new = omega (arith, more, count, room) in
          let there : front + removed - 1 ≡ length old - back - 1 = omega (arith, end) in
          let place : front + (length lines - 1) ≡ length new - back - 1 = omega (arith, more, count, room) in
          last some' more' (ap (slice_get old) (sym there) ∙ is ∙ get_take came (length lines - 1) (drop front new) (omega (arith, more, count))
          ∙ get_drop front (length lines - 1) new ∙ ap (slice_get new) place);
    }

middle_of_all : (a l d : Bool) → ((a && l) && d) ≡ true → l ≡ true
middle_of_all true true true e = refl
middle_of_all true true false e = cc
middle_of_all true false d e = cc
middle_of_all false l d e = cc

-- A change to a text within the limits is not refused.
pub edited-change : (old new : Text) (s : Splice) → IsChange old new s → list_all is_line new ≡ true → nat_le (length new) MOST_LINES ≡ true → edited old (Some s) ≡ Ok new
unfolding edited replaced spliced
edited-change old new s is proper few =
    let range : nat_le (s.at + s.removed) (length old) ≡ true = grind (arith, nat_tests, is.inside) in
    let front = take s.at old in
    let end = drop (s.at + s.removed) old in
    let all : ((list_all is_line front && list_all is_line s.lines) && list_all is_line end) ≡ true =
    ap (λ b. b && list_all is_line end) (sym (list_all-append is_line front s.lines)) ∙ sym (list_all-append is_line (front ++ s.lines) end)
    ∙ ap (list_all is_line) is.value ∙ proper in
    let lines = middle_of_all (list_all is_line front) (list_all is_line s.lines) (list_all is_line end) all in
    ap (λ b. cond (not b) (Err BadRange) (cond (not (list_all is_line s.lines)) (Err BadLine) (cond (not (nat_le (length (spliced old s)) MOST_LINES)) (Err TooLarge) (Ok (spliced old s))))) range
    ∙ ap (λ b. cond (not b) (Err BadLine) (cond (not (nat_le (length (spliced old s)) MOST_LINES)) (Err TooLarge) (Ok (spliced old s)))) lines
    ∙ ap (λ t. cond (not (nat_le (length t) MOST_LINES)) (Err TooLarge) (Ok t)) is.value
    ∙ ap (λ b. cond (not b) (Err TooLarge) (Ok new)) few

unlimited : (proper few : Bool) → cond (not proper) (Some BadLine) (cond (not few) (Some TooLarge) None) ≡ None → (proper ≡ true) × (few ≡ true)
unlimited true true e = (refl, refl)
unlimited true false e = cc
unlimited false few e = cc

pub within_limits : (new : Text) → limit_error (list_all is_line new) (length new) ≡ None → (list_all is_line new ≡ true) × (nat_le (length new) MOST_LINES ≡ true)
unfolding limit_error
within_limits new none = unlimited (list_all is_line new) (nat_le (length new) MOST_LINES) none

-- The lines of a text: a run of them replaces what differs.
pub change_of : (text : Text) (lines : List (Bor (List ℕ))) (front back removed : ℕ) (came : Text) → front + back ≤ length text → front + back ≤ length lines
    → take front text ≡ take front (seen_lines lines)
    → drop (length text - back) text ≡ drop (length lines - back) (seen_lines lines)
    → (front < length text → front < length lines → slice_get text front ≢ slice_get (seen_lines lines) front)
    → (front + back < length text → front + back < length lines
    → slice_get text (length text - back - 1) ≢ slice_get (seen_lines lines) (length lines - back - 1))
    → removed ≡ length text - front - back → came ≡ seen_lines (take (length lines - back - front) (drop front lines))
    → IsChange text (seen_lines lines) (record { at = front; removed = removed; lines = came })
change_of text lines front back removed came old new same same' first last gone put =
    let seen = seen_lines lines in
    let count : length seen ≡ length lines = length-map lines (λ (l : Bor (List ℕ)). l.now) in
    let now = λ (l : Bor (List ℕ)). l.now in
    let put' : came ≡ take (length seen - back - front) (drop front seen) =
    put ∙ sym (take-map now (length lines - back - front) (drop front lines)) ∙ ap (take (length lines - back - front)) (sym (drop-map now front lines))
    ∙ ap (λ n. take (n - back - front) (drop front seen)) (sym count) in
    let is = is_change text seen front back old (omega (arith, new, count)) same (same' ∙ ap (λ n. drop (n - back) seen) (sym count))
    (λ x y. first x (omega (arith, y, count)))
    (λ x y is. last x (omega (arith, y, count)) (is ∙ ap (λ n. slice_get seen (n - back - 1)) count)) in
    subst (IsChange text seen) (λ i. record { at = front; removed = sym gone i; lines = sym put' i }) is

pub insertion_is : (at : ℕ) (lines : Text) → insertion (at + 1) lines ≡ Some (record { at = at; removed = 0; lines = lines })
insertion_is at lines =
    let counted : (at + 1 == 0) ≡ false = grind (arith, nat_tests) in
    let place : at + 1 - 1 ≡ at = omega arith in
    ap (λ b. cond b None (Some (record { at = at + 1 - 1; removed = 0; lines = lines }))) counted
    ∙ ap (λ n. Some (record { at = n; removed = 0; lines = lines })) place

pub replacement_is : (at to : ℕ) (lines : Text) → at < to → replacement (at + 1) to lines ≡ Some (record { at = at; removed = to - at; lines = lines })
replacement_is at to lines some =
    let counted : nat_le 1 (at + 1) ≡ true = grind (arith, nat_tests) in
    let forwards : nat_le (at + 1) to ≡ true = grind (arith, nat_tests, some) in
    let place : at + 1 - 1 ≡ at = omega arith in
    let count : to + 1 - (at + 1) ≡ to - at = omega arith in
    ap (λ b. cond b (Some (record { at = at + 1 - 1; removed = to + 1 - (at + 1); lines = lines })) None) (ap₂ (λ a b. a && b) counted forwards)
    ∙ ap₂ (λ n m. Some (record { at = n; removed = m; lines = lines })) place count

pub nothing_added : (n : ℕ) → 0 + n ≡ n
nothing_added n = omega arith

pub few_lines : (n : ℕ) → nat_le n MOST_LINES ≡ true → n ≤ MOST_LINES
few_lines n fits = grind (arith, nat_tests, fits)

pub whole_text_is : (lines : Text) → limit_error (list_all is_line lines) (length lines) ≡ None → whole_text lines ≡ Ok lines
whole_text_is lines none = ap (λ o. unless_refused o lines) none
