-- The play of the front of an order, byte by byte: the number of open groups, and the count.
use Rattle.std.proofs.Common.{◌≡◌, ℕ, zero, suc, ◌+◌, ◌-◌, ◌*◌, ◌^◌, ◌<◌, ◌≤◌, ◌≢◌, Bool, true, false, not, ◌||◌, ◌==◌, cond, ltb, List, [], ◌∷◌, length, take, get_or, Option, Some, None, Ok}
use Rattle.std.proofs.Common.{refl, sym, ap, ◌∙◌, subst, ⊎_elim, arith}
use Rattle.std.specs.List.{fold}
use Rattle.std.specs.Char.{is_ascii_digit, is_ascii_uppercase}
use Rattle.std.proofs.lemmas.Bool.{both_ways, or_left, or_right, and_parts, or_cases, eqb-true, ltb-true}
use Rattle.std.proofs.lemmas.Bool.Decides.{nat_tests}
use Rattle.std.proofs.lemmas.List.{take_all}
use Rattle.std.proofs.lemmas.List.Sums.{fold_more}
use Rattle.std.proofs.Math.Nat.{pow-suc, pow-le-pow_right}
use Rattle.abc_text.proofs.Decimals.{digit_range}
use Rattle.abc_fields.specs.declared.parts.LastItem.{LastItem}
use Rattle.abc_fields.specs.declared.parts.LastItem.TheVariants.{Nothing, Item}
use Rattle.abc_fields.specs.declared.parts.OrderState.{OrderState}
use Rattle.abc_fields.specs.Parts.{is_ignored, order_bytes, ends_item, begins_item, with_digit, place_at, following_digit, next, next_of, ends_order, is_order, parts_of}
use Rattle.abc_fields.specs.Letters.{OrderLetters, nothing_played, count_or_once, letters_so_far, with_item, close_group, count_on, play_on, letters_of, is_order_byte, read_on, front_of}
use Rattle.abc_fields.proofs.LetterLaws.{plays_letter, plays_open, plays_close, plays_digit}
use Rattle.abc_fields.proofs.Orders.{order_lost, begins_too, positive_step, guarded_digit, Follows, by_letter, by_open, by_close, by_digit, follows, accepts}

-- the number of digits of the count after an item; one digit is not 0 if the count is positive
abbrev CountFits : LastItem → Option ℕ → Type 0
CountFits Nothing None = Unit {0}
CountFits Nothing (Some n) = ⊥
CountFits (Item digits positive) None = (digits ≡ 0) × (positive ≡ false)
CountFits (Item digits positive) (Some n) = (0 < digits) × (digits ≤ 9) × (n < 10 ^ digits) × (positive ≡ ltb 0 n)

-- the play of the front is at this place
record Fits (place : OrderState) (played : OrderLetters) : Type 0 where
  groups : length played.around ≡ place.depth
  few : place.depth ≤ 32
  counted : CountFits place.before played.count

-- the state before a byte that an order has there
pub record Accepts (played : OrderLetters) (b : ℕ) : Type 0 where
  pub room : b ≡ 40 → length played.around < 32
  pub short : is_ascii_digit b ≡ true → count_on played.count b < 10 ^ 9
  pub counted : is_order_byte b ≡ true → is_ascii_digit b ≡ false → 0 < count_or_once played.count

-- a count that may end is not 0
settled_count : (before : LastItem) (count : Option ℕ) → CountFits before count → begins_item before ≡ true → 0 < count_or_once count
settled_count Nothing None fits begins = omega arith
settled_count Nothing (Some n) fits begins = absurd fits
settled_count (Item digits positive) None fits begins = omega arith
settled_count (Item digits positive) (Some n) fits begins = ⊎_elim
    (λ none. let zero_digits : digits ≡ 0 = eqb-true digits 0 none in absurd (omega (arith, fits.0)))
    (λ yes. ltb-true 0 n (sym fits.3 ∙ yes))
    (or_cases (digits == 0) positive begins)

first_digit : (b : ℕ) → 48 ≤ b → (false || not (b == 48)) ≡ ltb 0 (b - 48)
first_digit b low = grind (arith, nat_tests)

-- a count with one more digit
longer_count : (b digits : ℕ) (positive : Bool) (count : Option ℕ) → CountFits (Item digits positive) count → is_ascii_digit b ≡ true → digits < 9
    → CountFits (Item (digits + 1) (positive || not (b == 48))) (Some (count_on count b))
longer_count b digits positive None fits digit few =
    let range = digit_range b digit in
    let one : digits + 1 ≡ 1 = omega (arith, fits.0) in
    let small : b - 48 < 10 ^ 1 = omega (arith, range) in
    (omega arith, omega arith, subst (λ k. b - 48 < 10 ^ k) (sym one) small, ap (λ p. p || not (b == 48)) fits.1 ∙ first_digit b range.0)
longer_count b digits positive (Some n) fits digit few =
    let range = digit_range b digit in
    let below : n < 10 ^ digits = fits.2 in
    let one : digits + 1 ≡ suc digits = omega arith in
    let more : 10 ^ (digits + 1) ≡ 10 ^ digits * 10 = ap (λ k. 10 ^ k) one ∙ pow-suc 10 digits in
    let small : n * 10 + (b - 48) < 10 ^ (digits + 1) = omega (arith, below, more, range) in
    (omega arith, omega arith, small, ap (λ p. p || not (b == 48)) fits.3 ∙ positive_step b n range.0)

short_count : (digits : ℕ) (positive : Bool) (n : ℕ) → CountFits (Item digits positive) (Some n) → n < 10 ^ 9
short_count digits positive n fits =
    let below : n < 10 ^ digits = fits.2 in
    let wide : 10 ^ digits ≤ 10 ^ 9 = pow-le-pow_right (omega arith) fits.1 in
    omega (arith, below, wide)

-- the step: the state before a byte and after it
record Step (place : OrderState) (played : OrderLetters) (b : ℕ) (rest : List ℕ) : Type 0 where
  accepts_it : Accepts played b
  following : OrderState
  fits_after : Fits following (read_on played b)
  ends_after : ends_order (fold next_of (Some following) (order_bytes rest)) ≡ true
  reads : fold play_on played (order_bytes (b ∷ rest)) ≡ fold play_on (read_on played b) (order_bytes rest)

-- letters, parentheses and digits have a meaning
order_letter : (b : ℕ) → is_ascii_uppercase b ≡ true → is_order_byte b ≡ true
order_letter b upper = or_left _ _ (or_left _ _ (or_left _ _ upper))

order_open : (b : ℕ) → b ≡ 40 → is_order_byte b ≡ true
order_open b e = subst (λ k. is_order_byte k ≡ true) (sym e) refl

order_close : (b : ℕ) → b ≡ 41 → is_order_byte b ≡ true
order_close b e = subst (λ k. is_order_byte k ≡ true) (sym e) refl

order_digit : (b : ℕ) → is_ascii_digit b ≡ true → is_order_byte b ≡ true
order_digit b digit = or_right _ (is_ascii_digit b) digit

-- a byte that is ignored
silent_byte : (b : ℕ) → is_ignored b ≡ true → is_order_byte b ≡ false
silent_byte b ignored = grind (arith, nat_tests)

ignored_step : (place : OrderState) (played : OrderLetters) (b : ℕ) (rest : List ℕ) → Fits place played → is_ignored b ≡ true
    → ends_order (fold next_of (Some place) (order_bytes (b ∷ rest))) ≡ true → Step place played b rest
unfolding read_on
ignored_step place played b rest fits ignored ends =
    let silent = silent_byte b ignored in
    let same : order_bytes (b ∷ rest) ≡ order_bytes rest = ap (λ t. cond (not t) (b ∷ order_bytes rest) (order_bytes rest)) ignored in
    let stays : played ≡ read_on played b = sym (ap (λ t. cond t (play_on played b) played) silent) in
    record {
      accepts_it = record {
        room = λ e. absurd (both_ways (is_order_byte b) silent (order_open b e));
        short = λ e. absurd (both_ways (is_order_byte b) silent (order_digit b e));
        counted = λ e d. absurd (both_ways (is_order_byte b) silent e);
      };
      following = place;
      fits_after = subst (Fits place) stays fits;
      ends_after = subst (λ t. ends_order (fold next_of (Some place) t) ≡ true) same ends;
      reads = ap (λ t. fold play_on played t) same ∙ ap (λ p. fold play_on p (order_bytes rest)) stays;
    }

-- the effect of each byte of a text
pub reads_silent : (played : OrderLetters) (b : ℕ) → is_order_byte b ≡ false → read_on played b ≡ played
unfolding read_on
reads_silent played b silent = ap (λ t. cond t (play_on played b) played) silent

reads_order : (played : OrderLetters) (b : ℕ) → is_order_byte b ≡ true → read_on played b ≡ play_on played b
unfolding read_on
reads_order played b says = ap (λ t. cond t (play_on played b) played) says

pub reads_letter : (played : OrderLetters) (b : ℕ) → is_ascii_uppercase b ≡ true → read_on played b ≡ with_item played.around (letters_so_far played) (b ∷ [])
reads_letter played b upper = reads_order played b (order_letter b upper) ∙ plays_letter played b upper

pub reads_open : (played : OrderLetters) → read_on played 40 ≡ with_item (letters_so_far played ∷ played.around) [] []
reads_open played = reads_order played 40 refl ∙ plays_open played

pub reads_close : (played : OrderLetters) → read_on played 41 ≡ close_group played.around (letters_so_far played)
reads_close played = reads_order played 41 refl ∙ plays_close played

pub reads_digit : (played : OrderLetters) (b : ℕ) → is_ascii_digit b ≡ true → read_on played b ≡ record played { count = Some (count_on played.count b) }
reads_digit played b digit = reads_order played b (order_digit b digit) ∙ plays_digit played b digit

pub upper_between : (b : ℕ) → 65 ≤ b → b ≤ 90 → is_ascii_uppercase b ≡ true
upper_between b low high = grind (arith, nat_tests)

pub digit_between : (b : ℕ) → 48 ≤ b → b ≤ 57 → is_ascii_digit b ≡ true
digit_between b low high = grind (arith, nat_tests)

pub silent_low : (b : ℕ) → b < 48 → b ≢ 40 → b ≢ 41 → is_order_byte b ≡ false
silent_low b low not_open not_close = grind (arith, nat_tests)

pub silent_middle : (b : ℕ) → 57 < b → b < 65 → is_order_byte b ≡ false
silent_middle b low high = grind (arith, nat_tests)

pub silent_high : (b : ℕ) → 90 < b → is_order_byte b ≡ false
silent_high b high = grind (arith, nat_tests)

-- a byte that leads on
record Leads (played : OrderLetters) (b : ℕ) (after : OrderState) : Type 0 where
  says : is_order_byte b ≡ true
  accepts_it : Accepts played b
  fits_after : Fits after (play_on played b)

not_digit_upper : (b : ℕ) → is_ascii_uppercase b ≡ true → is_ascii_digit b ≡ false
not_digit_upper b upper = grind (arith, nat_tests)

not_open_upper : (b : ℕ) → is_ascii_uppercase b ≡ true → b ≡ 40 → ⊥
not_open_upper b upper e = both_ways (is_ascii_uppercase b) (subst (λ k. is_ascii_uppercase k ≡ false) (sym e) refl) upper

letter_leads : (place : OrderState) (played : OrderLetters) (b : ℕ) → Fits place played → is_ascii_uppercase b ≡ true → begins_item place.before ≡ true
    → Leads played b (place_at place.depth (Item 0 false))
letter_leads place played b fits upper begins = record {
  says = order_letter b upper;
  accepts_it = record {
    room = λ e. absurd (not_open_upper b upper e);
    short = λ e. absurd (both_ways (is_ascii_digit b) (not_digit_upper b upper) e);
    counted = λ e d. settled_count place.before played.count fits.counted begins;
  };
  fits_after =
      subst (Fits (place_at place.depth (Item 0 false))) (sym (plays_letter played b upper)) (record { groups = fits.groups; few = fits.few; counted = (refl, refl) });
}

open_leads : (place : OrderState) (played : OrderLetters) → Fits place played → begins_item place.before ≡ true → place.depth < 32 → Leads played 40 (place_at (place.depth + 1) Nothing)
open_leads place played fits begins room = record {
  says = refl;
  accepts_it = record {
    room = λ e. omega (arith, fits.groups);
    short = λ e. absurd (both_ways (is_ascii_digit 40) refl e);
    counted = λ e d. settled_count place.before played.count fits.counted begins;
  };
  fits_after =
      subst (Fits (place_at (place.depth + 1) Nothing)) (sym (plays_open played)) (record { groups = omega (arith, fits.groups); few = omega arith; counted = tt });
}

closed_fits : (depth : ℕ) (around : List (List ℕ)) (item : List ℕ) → length around ≡ depth → depth ≤ 32 → 0 < depth → Fits (place_at (depth - 1) (Item 0 false)) (close_group around item)
closed_fits depth [] item groups few some = absurd (omega arith)
closed_fits depth (before ∷ around) item groups few some = record { groups = omega arith; few = omega arith; counted = (refl, refl) }

close_leads : (place : OrderState) (played : OrderLetters) → Fits place played → ends_item place.before ≡ true → 0 < place.depth → Leads played 41 (place_at (place.depth - 1) (Item 0 false))
close_leads place played fits ends some = record {
  says = refl;
  accepts_it = record {
    room = λ e. absurd (omega arith);
    short = λ e. absurd (both_ways (is_ascii_digit 41) refl e);
    counted = λ e d. settled_count place.before played.count fits.counted (begins_too place.before ends);
  };
  fits_after =
      subst (Fits (place_at (place.depth - 1) (Item 0 false))) (sym (plays_close played)) (closed_fits place.depth played.around (letters_so_far played) fits.groups fits.few some);
}

not_open_digit : (b : ℕ) → is_ascii_digit b ≡ true → b ≡ 40 → ⊥
not_open_digit b digit e = both_ways (is_ascii_digit b) (subst (λ k. is_ascii_digit k ≡ false) (sym e) refl) digit

digit_leads : (depth : ℕ) (before : LastItem) (played : OrderLetters) (b : ℕ) (after : OrderState) → Fits (place_at depth before) played → is_ascii_digit b ≡ true
    → following_digit depth (with_digit before b) ≡ Some after → Leads played b after
digit_leads depth Nothing played b after fits digit e = cc
digit_leads depth (Item digits positive) played b after fits digit e =
    let longer = Item (digits + 1) (positive || not (b == 48)) in
    let given = guarded_digit (ltb digits 9) depth longer after e in
    let counted = longer_count b digits positive played.count fits.counted digit (ltb-true digits 9 given.0) in
    record {
      says = order_digit b digit;
      accepts_it = record {
        room = λ e. absurd (not_open_digit b digit e);
        short = λ e. short_count (digits + 1) (positive || not (b == 48)) (count_on played.count b) counted;
        counted = λ e d. absurd (both_ways (is_ascii_digit b) d digit);
      };
      fits_after =
          subst (λ p. Fits p (play_on played b)) given.1
          (subst (Fits (place_at depth longer)) (sym (plays_digit played b digit)) (record { groups = fits.groups; few = fits.few; counted = counted }));
    }

next_leads : (place : OrderState) (played : OrderLetters) (b : ℕ) (after : OrderState) → Fits place played → Follows place b after → Leads played b after
next_leads place played b after fits (by_letter upper begins to) = subst (Leads played b) to (letter_leads place played b fits upper begins)
next_leads place played b after fits (by_open is begins few to) =
    subst (λ k. Leads played k after) (sym is) (subst (Leads played 40) to (open_leads place played fits begins few))
next_leads place played b after fits (by_close is ends some to) =
    subst (λ k. Leads played k after) (sym is) (subst (Leads played 41) to (close_leads place played fits ends some))
next_leads place played b after fits (by_digit digit to) = digit_leads place.depth place.before played b after fits digit to

-- a byte that is not ignored
read_step : (place : OrderState) (played : OrderLetters) (b : ℕ) (rest : List ℕ) → Fits place played → is_ignored b ≡ false
    → ends_order (fold next_of (Some place) (order_bytes (b ∷ rest))) ≡ true → Step place played b rest
unfolding read_on
read_step place played b rest fits read ends =
    let same : order_bytes (b ∷ rest) ≡ b ∷ order_bytes rest = ap (λ t. cond (not t) (b ∷ order_bytes rest) (order_bytes rest)) read in
    let on : ends_order (fold next_of (next place b) (order_bytes rest)) ≡ true = subst (λ t. ends_order (fold next_of (Some place) t) ≡ true) same ends in
    elim (next place b) as (λ o. next place b ≡ o → ends_order (fold next_of o (order_bytes rest)) ≡ true → Step place played b rest) [
      | None ↦ λ is ended. absurd (both_ways (ends_order (fold next_of None (order_bytes rest))) (ap ends_order (order_lost (order_bytes rest))) ended)
      | Some after ↦
          λ is ended.
          let leads = next_leads place played b after fits (follows place b after is) in
          let goes : play_on played b ≡ read_on played b = sym (ap (λ t. cond t (play_on played b) played) leads.says) in
          record {
            accepts_it = leads.accepts_it;
            following = after;
            fits_after = subst (Fits after) goes leads.fits_after;
            ends_after = ended;
            reads = ap (λ t. fold play_on played t) same ∙ ap (λ p. fold play_on p (order_bytes rest)) goes;
          }
    ] refl on

one_step : (place : OrderState) (played : OrderLetters) (b : ℕ) (rest : List ℕ) → Fits place played
    → ends_order (fold next_of (Some place) (order_bytes (b ∷ rest))) ≡ true → Step place played b rest
one_step place played b rest fits ends =
    elim (is_ignored b) as (λ t. is_ignored b ≡ t → Step place played b rest) [
      | true ↦ λ is. ignored_step place played b rest fits is ends
      | false ↦ λ is. read_step place played b rest fits is ends
    ] refl

-- the places before each byte of an order
accepts_from : (text : List ℕ) (place : OrderState) (played : OrderLetters) → Fits place played → ends_order (fold next_of (Some place) (order_bytes text)) ≡ true
    → (i : ℕ) → i < length text → Accepts (fold read_on played (take i text)) (get_or text i 0)
accepts_from [] place played fits ends i inside = absurd (omega arith)
accepts_from (b ∷ text) place played fits ends zero inside = (one_step place played b text fits ends).accepts_it
accepts_from (b ∷ text) place played fits ends (suc i) inside =
    let step = one_step place played b text fits ends in
    accepts_from text step.following (read_on played b) step.fits_after step.ends_after i (omega arith)

-- the end of an order
pub record Whole (played : OrderLetters) : Type 0 where
  pub outside : played.around ≡ []
  pub counted : 0 < count_or_once played.count

no_groups : (around : List (List ℕ)) (depth : ℕ) → length around ≡ depth → depth ≡ 0 → around ≡ []
no_groups [] depth groups none = refl
no_groups (x ∷ around) depth groups none = absurd (omega arith)

whole_from : (text : List ℕ) (place : OrderState) (played : OrderLetters) → Fits place played → ends_order (fold next_of (Some place) (order_bytes text)) ≡ true
    → Whole (fold read_on played text) × (fold read_on played text ≡ fold play_on played (order_bytes text))
whole_from [] place played fits ends =
    let both = and_parts (place.depth == 0) (ends_item place.before) ends in (
      record {
        outside = no_groups played.around place.depth fits.groups (eqb-true place.depth 0 both.0);
        counted = settled_count place.before played.count fits.counted (begins_too place.before both.1);
      },
      refl,
    )
whole_from (b ∷ text) place played fits ends =
    let step = one_step place played b text fits ends in
    let rest = whole_from text step.following (read_on played b) step.fits_after step.ends_after in
    (rest.0, rest.1 ∙ sym step.reads)

nothing_fits : Fits (place_at 0 Nothing) nothing_played
nothing_fits = record { groups = refl; few = omega arith; counted = tt }

pub front_accepts : (text : List ℕ) → parts_of text ≡ Ok tt → (i : ℕ) → i < length text → Accepts (front_of text i) (get_or text i 0)
front_accepts text order i inside = accepts_from text (place_at 0 Nothing) nothing_played nothing_fits (accepts (is_order text) order) i inside

pub front_more : (text : List ℕ) (i : ℕ) → i < length text → front_of text (i + 1) ≡ read_on (front_of text i) (get_or text i 0)
front_more text i inside = fold_more read_on nothing_played text i 0 inside

all_read : (text : List ℕ) (i : ℕ) → length text ≤ i → front_of text i ≡ fold read_on nothing_played text
all_read text i past = ap (fold read_on nothing_played) (take_all i text past)

pub whole_order : (text : List ℕ) → parts_of text ≡ Ok tt → (i : ℕ) → length text ≤ i → Whole (front_of text i)
whole_order text order i past =
    subst Whole (sym (all_read text i past)) (whole_from text (place_at 0 Nothing) nothing_played nothing_fits (accepts (is_order text) order)).0

pub whole_letters : (text : List ℕ) → parts_of text ≡ Ok tt → (i : ℕ) → length text ≤ i → letters_so_far (front_of text i) ≡ letters_of text
whole_letters text order i past =
    ap letters_so_far (all_read text i past ∙ (whole_from text (place_at 0 Nothing) nothing_played nothing_fits (accepts (is_order text) order)).1)
