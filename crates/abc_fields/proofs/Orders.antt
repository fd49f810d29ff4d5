-- Laws of orders of parts: the places of an order, and its grammar.
use Rattle.std.proofs.Common.{◌≡◌, ℕ, suc, ◌+◌, ◌-◌, ◌*◌, ◌<◌, ◌≤◌, ◌↔◌, Bool, true, false, not, ◌&&◌, ◌||◌, ◌==◌, cond, ltb, List, [], ◌∷◌, ◌++◌, length, length-append, append-nil, drop, get_or}
use Rattle.std.proofs.Common.{replicate, Option, Some, None, Result, Ok, Err, refl, sym, ap, ◌∙◌, subst, ⊎_elim, arith, append_assoc, add-one, add-zero, drop-cons}
use Rattle.std.specs.List.{AllPass, fold, concat}
use Rattle.std.specs.Char.{is_ascii_digit, is_ascii_uppercase}
use Rattle.std.proofs.lemmas.Bool.{both_ways, false_from_ne_true, and_parts, or_cases, or_right, ne_eqb, ltb-true, lt-ltb, eqb-true}
use Rattle.std.proofs.lemmas.Bool.Decides.{nat_tests}
use Rattle.std.proofs.lemmas.List.Sums.{fold-append}
use Rattle.std.proofs.lemmas.Option.{cond_some}
use Rattle.std.proofs.lemmas.List.Folds.{fold_stays}
use Rattle.std.proofs.lemmas.List.Elements.{All-head, All-tail, All-append, All-cons, All-nil}
use Rattle.abc_text.specs.Digit.{decimal}
use Rattle.abc_text.specs.Number.{IsNumber}
use Rattle.abc_text.proofs.Decimals.{digit_range}
use Rattle.abc_fields.specs.declared.fault_code.FaultCode.{FaultCode}
use Rattle.abc_fields.specs.declared.fault_code.FaultCode.TheVariants.{BadOrder}
use Rattle.abc_fields.specs.declared.parts.LastItem.{LastItem}
use Rattle.abc_fields.specs.declared.parts.LastItem.TheVariants.{Nothing, Item}
use Rattle.abc_fields.specs.declared.parts.OrderState.{OrderState}
use Rattle.abc_fields.specs.Parts.{is_ignored, order_bytes, ends_item, begins_item, with_digit, place_at, following_digit, next, next_of, is_whole, place_following, ends_order, is_order, parts_of}
use Rattle.abc_fields.specs.Spelling.Parts.{IsCount, once, times, IsOrder, part, group, following, IsParts}
use Rattle.abc_fields.proofs.Readings.{branches}

-- the place after a text, from this place on
abbrev read : Option OrderState → List ℕ → Option OrderState
read place text = fold next_of place text

-- a letter, parentheses and a digit are four kinds of bytes
letter_next : (depth letter : ℕ) (before : LastItem) → is_ascii_uppercase letter ≡ true → begins_item before ≡ true → next (place_at depth before) letter ≡ Some (place_at depth (Item 0 false))
unfolding next
letter_next depth letter before upper begins = rw (upper, begins) refl

open_next : (depth : ℕ) (before : LastItem) → begins_item before ≡ true → depth < 32 → next (place_at depth before) 40 ≡ Some (place_at (depth + 1) Nothing)
unfolding next
open_next depth before begins few = rw (begins, lt-ltb depth 32 few) refl

close_next : (depth : ℕ) (before : LastItem) → ends_item before ≡ true → next (place_at (depth + 1) before) 41 ≡ Some (place_at depth (Item 0 false))
unfolding next
close_next depth before ends =
    let some : ltb 0 (depth + 1) ≡ true = lt-ltb 0 (depth + 1) (omega arith) in
    let same : (depth + 1) - 1 ≡ depth = omega arith in
    rw (ends, some, same) refl

pub below_upper : (b : ℕ) → b ≤ 57 → is_ascii_uppercase b ≡ false
below_upper b h = grind (arith, nat_tests)

digit_next : (depth b digits : ℕ) (positive : Bool) → is_ascii_digit b ≡ true → digits < 9
    → next (place_at depth (Item digits positive)) b ≡ Some (place_at depth (Item (digits + 1) (positive || not (b == 48))))
unfolding next
digit_next depth b digits positive digit few =
    let range = digit_range b digit in
    let upper = below_upper b range.1 in
    let opens : (b == 40) ≡ false = ne_eqb b 40 (λ e. omega (arith, range)) in
    let closes : (b == 41) ≡ false = ne_eqb b 41 (λ e. omega (arith, range)) in
    let room : ltb digits 9 ≡ true = lt-ltb digits 9 few in
    rw (upper, opens, closes, digit, room) refl

-- the loop: one byte of the value, and the rest
pub order_lost : (text : List ℕ) → fold next_of None text ≡ None
order_lost text = fold_stays next_of None (λ b. refl) text

one_read : (place : Option OrderState) (b : ℕ) (rest : List ℕ) (ignored : Bool)
    → fold next_of place (cond (not ignored) (b ∷ rest) rest) ≡ cond ignored (fold next_of place rest) (fold next_of (next_of place b) rest)
one_read place b rest true = refl
one_read place b rest false = refl

pub order_step : (place : Option OrderState) (value : List ℕ) (i : ℕ) → i < length value
    → fold next_of place (order_bytes (drop i value)) ≡ cond (is_ignored (get_or value i 0)) (fold next_of place (order_bytes (drop (i + 1) value)))
    (fold next_of (next_of place (get_or value i 0)) (order_bytes (drop (i + 1) value)))
order_step place value i inside =
    let cut : drop i value ≡ get_or value i 0 ∷ drop (i + 1) value = rw add-one (drop-cons value i 0 inside) in
    ap (λ rest. fold next_of place (order_bytes rest)) cut ∙ one_read place (get_or value i 0) (order_bytes (drop (i + 1) value)) (is_ignored (get_or value i 0))

-- From the grammar to the places: an order leads from a place for the beginning of an item to one for its end, at the
-- same depth.
abbrev Ends : ℕ → Option OrderState → Type 0
Ends depth place = (before : LastItem) × (place ≡ Some (place_at depth before)) × (ends_item before ≡ true)

pub begins_too : (before : LastItem) → ends_item before ≡ true → begins_item before ≡ true
begins_too Nothing h = cc
begins_too (Item digits positive) h = h

pub positive_step : (b n : ℕ) → 48 ≤ b → (ltb 0 n || not (b == 48)) ≡ ltb 0 (n * 10 + (b - 48))
positive_step b n low = grind (arith, nat_tests)

-- the number that digits write after this one
abbrev pub number_after : ℕ → List ℕ → ℕ
number_after n digits = fold (λ n d. n * 10 + (d - 48)) n digits

count_places : (text : List ℕ) (depth digits n : ℕ) → AllPass is_ascii_digit text → digits + length text ≤ 9
    → read (Some (place_at depth (Item digits (ltb 0 n)))) text ≡ Some (place_at depth (Item (digits + length text) (ltb 0 (number_after n text))))
count_places [] depth digits n all few = rw add-zero refl
count_places (b ∷ text) depth digits n all few =
    let digit : is_ascii_digit b ≡ true = All-head (λ y. is_ascii_digit y ≡ true) b text all in
    let range = digit_range b digit in
    let following = count_places text depth (digits + 1) (n * 10 + (b - 48)) (All-tail (λ y. is_ascii_digit y ≡ true) b text all) (omega arith) in
    let one = digit_next depth b digits (ltb 0 n) digit (omega arith) in
    let positive = ap (λ p. Some (place_at depth (Item (digits + 1) p))) (positive_step b n range.0) in
    let long : (digits + 1) + length text ≡ digits + length (b ∷ text) = omega arith in
    ap (λ place. read place text) (one ∙ positive) ∙ following ∙ ap (λ k. Some (place_at depth (Item k (ltb 0 (number_after (n * 10 + (b - 48)) text))))) long

count_ends : {count : List ℕ} {n : ℕ} → IsCount count n → (depth : ℕ) → Ends depth (read (Some (place_at depth (Item 0 false))) count)
count_ends once depth = (Item 0 false, refl, refl)
count_ends (times {text} {n} number positive) depth = (
  Item (0 + length text) (ltb 0 (decimal text)),
  count_places text depth 0 0 number.digits (omega (arith, number.few)),
  or_right (0 + length text == 0) _ (lt-ltb 0 (decimal text) (subst (λ v. 0 < v) number.value positive)),
)

order_ends : {depth : ℕ} {text letters : List ℕ} → IsOrder depth text letters → (before : LastItem) → begins_item before ≡ true → Ends depth (read (Some (place_at depth before)) text)
order_ends (part {depth} {letter} {n} {count} upper counted) before begins =
    subst (λ place. Ends depth (read place count)) (sym (letter_next depth letter before upper begins)) (count_ends counted depth)
order_ends (group {depth} {n} {inner} {count} few order counted) before begins =
    let within = order_ends order Nothing refl in
    let entered = ap (λ place. read place (inner ++ 41 ∷ count)) (open_next depth before begins few) in
    let apart = fold-append next_of (Some (place_at (depth + 1) Nothing)) inner (41 ∷ count) in
    let closed = ap (λ place. read place (41 ∷ count)) within.1 ∙ ap (λ place. read place count) (close_next depth within.0 within.2) in
    subst (Ends depth) (sym (entered ∙ apart ∙ closed)) (count_ends counted depth)
order_ends (following {depth} {front} {back} first second) before begins =
    let front_ends = order_ends first before begins in
    let back_ends = order_ends second front_ends.0 (begins_too front_ends.0 front_ends.2) in
    subst (Ends depth) (sym (fold-append next_of (Some (place_at depth before)) front back ∙ ap (λ place. read place back) front_ends.1)) back_ends

-- From the places to the grammar: the parts of a text that leads to a place.

-- the content of a group so far: nothing, or an order
data IsInner : ℕ → List ℕ → Type 0 where
  empty : {depth : ℕ} → IsInner depth []
  filled : {depth : ℕ} {text letters : List ℕ} → IsOrder depth text letters → IsInner depth text

-- a text that leads into this many groups and ends with the beginning of the last
data Opened : ℕ → List ℕ → Type 0 where
  outside : Opened 0 []
  inside : {depth : ℕ} {outer inner : List ℕ} → depth < 32 → Opened depth outer → IsInner depth inner → Opened (depth + 1) (outer ++ (inner ++ 40 ∷ []))

-- a part or a group, which with any count is an order
record IsBare (depth : ℕ) (bare : List ℕ) : Type 0 where
  with_count : (count : List ℕ) (n : ℕ) → IsCount count n → (letters : List ℕ) × IsOrder depth (bare ++ count) letters

-- the digits of a count so far
record IsBegun (count : List ℕ) (digits : ℕ) (positive : Bool) : Type 0 where
  long : digits ≡ length count
  few : digits ≤ 9
  all : AllPass is_ascii_digit count
  value : positive ≡ ltb 0 (decimal count)

data Reached : ℕ → LastItem → List ℕ → Type 0 where
  at_front : {depth : ℕ} {text : List ℕ} → Opened depth text → Reached depth Nothing text
  at_item : {depth digits : ℕ} {positive : Bool} {outer inner bare count : List ℕ}
      → Opened depth outer → IsInner depth inner → IsBare depth bare → IsBegun count digits positive → Reached depth (Item digits positive) (outer ++ (inner ++ (bare ++ count)))

-- a text that leads to a place for the beginning of an item
record Begins (depth : ℕ) (text : List ℕ) : Type 0 where
  outer : List ℕ
  inner : List ℕ
  opened : Opened depth outer
  is_inner : IsInner depth inner
  spelling : text ≡ outer ++ inner

-- a text that leads to a place for the end of an item
record Finishes (depth : ℕ) (text : List ℕ) : Type 0 where
  outer : List ℕ
  inner : List ℕ
  letters : List ℕ
  opened : Opened depth outer
  is_order : IsOrder depth inner letters
  spelling : text ≡ outer ++ inner

joined : {depth : ℕ} {inner back letters : List ℕ} → IsInner depth inner → IsOrder depth back letters → (all : List ℕ) × IsOrder depth (inner ++ back) all
joined empty order = (_, order)
joined (filled front) order = (_, following front order)

some_digits : (digits n : ℕ) → digits ≡ suc n → (digits == 0) ≡ true → ⊥
some_digits digits n long none = let zero : digits ≡ 0 = eqb-true digits 0 none in omega arith

settled : (count : List ℕ) (digits : ℕ) (positive : Bool) → IsBegun count digits positive → ((digits == 0) || positive) ≡ true → (n : ℕ) × IsCount count n
settled [] digits positive begun ends = (1, once)
settled (b ∷ count) digits positive begun ends =
    let long : digits ≡ length (b ∷ count) = begun.long in
    let few : digits ≤ 9 = begun.few in
    let sure : positive ≡ true = ⊎_elim (λ none. absurd (some_digits digits (length count) long none)) (λ yes. yes) (or_cases (digits == 0) positive ends) in
    let number : IsNumber (b ∷ count) (decimal (b ∷ count)) = record { some = omega arith; few = omega arith; digits = begun.all; value = refl } in
    (decimal (b ∷ count), times number (ltb-true 0 (decimal (b ∷ count)) (sym begun.value ∙ sure)))

finishes : {depth : ℕ} {before : LastItem} {text : List ℕ} → Reached depth before text → ends_item before ≡ true → Finishes depth text
finishes (at_front opened) ends = cc
finishes (at_item {depth} {digits} {positive} {outer} {inner} {bare} {count} opened is_inner is_bare begun) ends =
    let counted = settled count digits positive begun ends in
    let one = is_bare.with_count count counted.0 counted.1 in
    let all = joined is_inner one.1 in
    record { outer = outer; inner = inner ++ (bare ++ count); letters = all.0; opened = opened; is_order = all.1; spelling = refl }

begins : {depth : ℕ} {before : LastItem} {text : List ℕ} → Reached depth before text → begins_item before ≡ true → Begins depth text
begins (at_front {depth} {text} opened) may = record { outer = text; inner = []; opened = opened; is_inner = empty; spelling = sym (append-nil text) }
begins (at_item {depth} {digits} {positive} {outer} {inner} {bare} {count} opened is_inner is_bare begun) may =
    let whole = finishes (at_item opened is_inner is_bare begun) may in
    record { outer = whole.outer; inner = whole.inner; opened = whole.opened; is_inner = filled whole.is_order; spelling = whole.spelling }

-- the groups around a place, the innermost first
record Inside (depth : ℕ) (text : List ℕ) : Type 0 where
  above : ℕ
  outer : List ℕ
  inner : List ℕ
  one_more : depth ≡ above + 1
  few : above < 32
  opened : Opened above outer
  is_inner : IsInner above inner
  spelling : text ≡ outer ++ (inner ++ 40 ∷ [])

inside_of : {depth : ℕ} {text : List ℕ} → Opened depth text → 0 < depth → Inside depth text
inside_of outside some = absurd (omega arith)
inside_of (inside {depth} {outer} {inner} few opened is_inner) some =
    record { above = depth; outer = outer; inner = inner; one_more = refl; few = few; opened = opened; is_inner = is_inner; spelling = refl }

no_group : {depth : ℕ} {text : List ℕ} → Opened depth text → depth ≡ 0 → text ≡ []
no_group outside none = refl
no_group (inside few opened is_inner) none = absurd (omega arith)

letter_bare : (depth letter : ℕ) → is_ascii_uppercase letter ≡ true → IsBare depth (letter ∷ [])
letter_bare depth letter upper = record { with_count = λ count n counted. (replicate n letter, part upper counted) }

group_bare : (depth : ℕ) (inner letters : List ℕ) → depth < 32 → IsOrder (depth + 1) inner letters → IsBare depth (40 ∷ (inner ++ 41 ∷ []))
group_bare depth inner letters few order = record {
  with_count = λ count n counted.
      (concat (replicate n letters), subst (λ l. IsOrder depth (40 ∷ l) (concat (replicate n letters))) (sym (append_assoc inner (41 ∷ []) count)) (group few order counted));
}

unbegun : IsBegun [] 0 false
unbegun = record { long = refl; few = omega arith; all = λ k d h. absurd (omega arith); value = refl }

new_item : {depth : ℕ} {outer inner bare text : List ℕ} → Opened depth outer → IsInner depth inner → IsBare depth bare → text ≡ outer ++ (inner ++ (bare ++ [])) → Reached depth (Item 0 false) text
new_item {depth} opened is_inner is_bare spelling = subst (Reached depth (Item 0 false)) (sym spelling) (at_item opened is_inner is_bare unbegun)

-- one more byte
after_letter : (depth letter : ℕ) (before : LastItem) (text : List ℕ) → Reached depth before text → begins_item before ≡ true → is_ascii_uppercase letter ≡ true
    → Reached depth (Item 0 false) (text ++ letter ∷ [])
after_letter depth letter before text reached may upper =
    let h = begins reached may in
    new_item h.opened h.is_inner (letter_bare depth letter upper) (ap (λ l. l ++ letter ∷ []) h.spelling ∙ append_assoc h.outer h.inner (letter ∷ []))

after_open : (depth : ℕ) (before : LastItem) (text : List ℕ) → Reached depth before text → begins_item before ≡ true → depth < 32 → Reached (depth + 1) Nothing (text ++ 40 ∷ [])
after_open depth before text reached may few =
    let h = begins reached may in
    subst (Reached (depth + 1) Nothing) (sym (ap (λ l. l ++ 40 ∷ []) h.spelling ∙ append_assoc h.outer h.inner (40 ∷ []))) (at_front (inside few h.opened h.is_inner))

group_spelling : (outer inner order : List ℕ) → ((outer ++ (inner ++ 40 ∷ [])) ++ order) ++ 41 ∷ [] ≡ outer ++ (inner ++ ((40 ∷ (order ++ 41 ∷ [])) ++ []))
group_spelling outer inner order = simp (append_assoc, append-nil)

after_close : (depth : ℕ) (before : LastItem) (text : List ℕ) → Reached depth before text → ends_item before ≡ true → 0 < depth → Reached (depth - 1) (Item 0 false) (text ++ 41 ∷ [])
after_close depth before text reached ends some =
    let h = finishes reached ends in
    let g = inside_of h.opened some in
    let above : g.above ≡ depth - 1 = omega (arith, g.one_more) in
    let order : IsOrder (g.above + 1) h.inner h.letters = subst (λ d. IsOrder d h.inner h.letters) g.one_more h.is_order in
    let spelling : text ++ 41 ∷ [] ≡ ((g.outer ++ (g.inner ++ 40 ∷ [])) ++ h.inner) ++ 41 ∷ [] = ap (λ l. l ++ 41 ∷ []) (h.spelling ∙ ap (λ l. l ++ h.inner) g.spelling) in
    subst (λ d. Reached d (Item 0 false) (text ++ 41 ∷ [])) above
    (new_item g.opened g.is_inner (group_bare g.above h.inner h.letters g.few order) (spelling ∙ group_spelling g.outer g.inner h.inner))

begun_more : (count : List ℕ) (digits : ℕ) (positive : Bool) (b : ℕ) → IsBegun count digits positive → is_ascii_digit b ≡ true → digits < 9
    → IsBegun (count ++ b ∷ []) (digits + 1) (positive || not (b == 48))
begun_more count digits positive b begun digit few =
    let range = digit_range b digit in
    record {
      long = ap (λ n. n + 1) begun.long ∙ sym (length-append count (b ∷ []));
      few = omega arith;
      all = All-append (λ y. is_ascii_digit y ≡ true) count (b ∷ []) begun.all (All-cons (λ y. is_ascii_digit y ≡ true) b [] digit (All-nil (λ y. is_ascii_digit y ≡ true)));
      value = ap (λ p. p || not (b == 48)) begun.value ∙ positive_step b (decimal count) range.0 ∙ ap (ltb 0) (sym (fold-append (λ n d. n * 10 + (d - 48)) 0 count (b ∷ [])));
    }

digit_spelling : (outer inner bare count : List ℕ) (b : ℕ) → (outer ++ (inner ++ (bare ++ count))) ++ b ∷ [] ≡ outer ++ (inner ++ (bare ++ (count ++ b ∷ [])))
digit_spelling outer inner bare count b = simp append_assoc

after_digit : {depth digits : ℕ} {positive : Bool} {text : List ℕ} (b : ℕ) → Reached depth (Item digits positive) text → is_ascii_digit b ≡ true → digits < 9
    → Reached depth (Item (digits + 1) (positive || not (b == 48))) (text ++ b ∷ [])
after_digit b (at_item {depth} {digits} {positive} {outer} {inner} {bare} {count} opened is_inner is_bare begun) digit few =
    subst (Reached depth (Item (digits + 1) (positive || not (b == 48)))) (sym (digit_spelling outer inner bare count b))
    (at_item opened is_inner is_bare (begun_more count digits positive b begun digit few))

-- the text leads to the place
abbrev Leads : List ℕ → OrderState → Type 0
Leads text place = Reached place.depth place.before text

pub guarded_digit : (t : Bool) (depth : ℕ) (before : LastItem) (after : OrderState) → following_digit depth (cond t (Some before) None) ≡ Some after → (t ≡ true) × (place_at depth before ≡ after)
guarded_digit true depth before after e = (refl, cc)
guarded_digit false depth before after e = cc

digit_leads : (depth : ℕ) (before : LastItem) (b : ℕ) (text : List ℕ) (after : OrderState) → Reached depth before text → is_ascii_digit b ≡ true
    → following_digit depth (with_digit before b) ≡ Some after
    → Leads (text ++ b ∷ []) after
digit_leads depth Nothing b text after reached digit e = cc
digit_leads depth (Item digits positive) b text after reached digit e =
    let given = guarded_digit (ltb digits 9) depth (Item (digits + 1) (positive || not (b == 48))) after e in
    subst (Leads (text ++ b ∷ [])) given.1 (after_digit b reached digit (ltb-true digits 9 given.0))

-- the kinds of a byte that may come at a place, and the place after it
pub data Follows (place : OrderState) (b : ℕ) (after : OrderState) : Type 0 where
  by_letter : is_ascii_uppercase b ≡ true → begins_item place.before ≡ true → place_at place.depth (Item 0 false) ≡ after → Follows place b after
  by_open : b ≡ 40 → begins_item place.before ≡ true → place.depth < 32 → place_at (place.depth + 1) Nothing ≡ after → Follows place b after
  by_close : b ≡ 41 → ends_item place.before ≡ true → 0 < place.depth → place_at (place.depth - 1) (Item 0 false) ≡ after → Follows place b after
  by_digit : is_ascii_digit b ≡ true → following_digit place.depth (with_digit place.before b) ≡ Some after → Follows place b after

pub follows : (place : OrderState) (b : ℕ) (after : OrderState) → next place b ≡ Some after → Follows place b after
unfolding next
follows place b after e = ⊎_elim
    (λ letter. let given = cond_some (begins_item place.before) (place_at place.depth (Item 0 false)) after letter.1 in by_letter letter.0 given.0 given.1)
    (λ other. ⊎_elim
    (λ opens.
    let given = cond_some (begins_item place.before && ltb place.depth 32) (place_at (place.depth + 1) Nothing) after opens.1 in
    let both = and_parts (begins_item place.before) (ltb place.depth 32) given.0 in
    by_open (eqb-true b 40 opens.0) both.0 (ltb-true place.depth 32 both.1) given.1)
    (λ others. ⊎_elim
    (λ closes.
    let given = cond_some (ends_item place.before && ltb 0 place.depth) (place_at (place.depth - 1) (Item 0 false)) after closes.1 in
    let both = and_parts (ends_item place.before) (ltb 0 place.depth) given.0 in
    by_close (eqb-true b 41 closes.0) both.0 (ltb-true 0 place.depth both.1) given.1)
    (λ rest. ⊎_elim
    (λ digit. by_digit digit.0 digit.1)
    (λ none. cc)
    (branches (is_ascii_digit b) _ _ _ rest.1))
    (branches (b == 41) _ _ _ others.1))
    (branches (b == 40) _ _ _ other.1))
    (branches (is_ascii_uppercase b) _ _ _ e)

leads_on : (place : OrderState) (b : ℕ) (text : List ℕ) (after : OrderState) → Leads text place → Follows place b after → Leads (text ++ b ∷ []) after
leads_on place b text after reached (by_letter upper begins to) = subst (Leads (text ++ b ∷ [])) to (after_letter place.depth b place.before text reached begins upper)
leads_on place b text after reached (by_open is begins few to) =
    subst (λ c. Leads (text ++ c ∷ []) after) (sym is) (subst (Leads (text ++ 40 ∷ [])) to (after_open place.depth place.before text reached begins few))
leads_on place b text after reached (by_close is ends some to) =
    subst (λ c. Leads (text ++ c ∷ []) after) (sym is) (subst (Leads (text ++ 41 ∷ [])) to (after_close place.depth place.before text reached ends some))
leads_on place b text after reached (by_digit digit to) = digit_leads place.depth place.before b text after reached digit to

leads_through : (rest text : List ℕ) (place after : OrderState) → Leads text place → read (Some place) rest ≡ Some after → Leads (text ++ rest) after
leads_through [] text place after reached e = let same : place ≡ after = cc in subst (λ t. Leads t after) (sym (append-nil text)) (subst (Leads text) same reached)
leads_through (b ∷ rest) text place after reached e =
    elim (next place b) as (λ o. next place b ≡ o → read o rest ≡ Some after → Leads (text ++ b ∷ rest) after) [
      | None ↦ λ is leads. let lost = order_lost rest in cc
      | Some between ↦
          λ is leads.
          let further = leads_on place b text between reached (follows place b between is) in
          subst (λ t. Leads t after) (append_assoc text (b ∷ []) rest) (leads_through rest (text ++ b ∷ []) between after further leads)
    ] refl e

order_from : (text : List ℕ) (place : OrderState) → Leads text place → is_whole place ≡ true → (letters : List ℕ) × IsOrder 0 text letters
order_from text place reached whole =
    let both = and_parts (place.depth == 0) (ends_item place.before) whole in
    let h = finishes reached both.1 in
    let shallow : place.depth ≡ 0 = eqb-true place.depth 0 both.0 in
    let same : text ≡ h.inner = h.spelling ∙ ap (λ l. l ++ h.inner) (no_group h.opened shallow) in
    (h.letters, subst (λ t. IsOrder 0 t h.letters) (sym same) (subst (λ d. IsOrder d h.inner h.letters) shallow h.is_order))

-- the order of parts and its grammar
ends_well : (place : Option OrderState) → Ends 0 place → ends_order place ≡ true
ends_well place h = ap ends_order h.1 ∙ h.2

last_of : (place : Option OrderState) → ends_order place ≡ true → (last : OrderState) × (place ≡ Some last) × (is_whole last ≡ true)
last_of None e = cc
last_of (Some last) e = (last, refl, e)

order_accepted : (value letters : List ℕ) → IsParts value letters → is_order value ≡ true
order_accepted value letters order = ends_well (place_following value) (order_ends order Nothing refl)

pub accepted_order : (value : List ℕ) → is_order value ≡ true → (letters : List ℕ) × IsParts value letters
accepted_order value e =
    let h = last_of (place_following value) e in
    order_from (order_bytes value) h.0 (leads_through (order_bytes value) [] (place_at 0 Nothing) h.0 (at_front outside) h.1) h.2

pub accepts : (whole : Bool) → ◌≡◌ {A = Result (Unit {0}) FaultCode} (cond whole (Ok tt) (Err BadOrder)) (Ok tt) → whole ≡ true
accepts true e = refl
accepts false e = cc

refuses : (whole : Bool) → ◌≡◌ {A = Result (Unit {0}) FaultCode} (cond whole (Ok tt) (Err BadOrder)) (Err BadOrder) → whole ≡ false
refuses true e = cc
refuses false e = refl

pub parts_ok : (value : List ℕ) (result : Result (Unit {0}) FaultCode) → result ≡ parts_of value → (result ≡ Ok tt) ↔ ((letters : List ℕ) × IsParts value letters)
parts_ok value result is = (
  λ e. accepted_order value (accepts (is_order value) (sym is ∙ e)),
  λ h. is ∙ ap (λ whole. cond whole (Ok tt) (Err BadOrder)) (order_accepted value h.0 h.1),
)

pub parts_refused : (value : List ℕ) (result : Result (Unit {0}) FaultCode) → result ≡ parts_of value → (result ≡ Err BadOrder) ↔ ((letters : List ℕ) → ¬ IsParts value letters)
parts_refused value result is = (
  λ e letters order. both_ways (is_order value) (refuses (is_order value) (sym is ∙ e)) (order_accepted value letters order),
  λ none. is ∙ ap (λ whole. cond whole (Ok tt) (Err BadOrder)) (false_from_ne_true (is_order value) (λ e. let h = accepted_order value e in none h.0 h.1)),
)
