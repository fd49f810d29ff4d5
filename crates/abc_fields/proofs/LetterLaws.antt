-- An order plays the letters of its grammar.
use Rattle.std.proofs.Common.{◌≡◌, ℕ, suc, zero, ◌+◌, ◌-◌, ◌*◌, ◌==◌, true, false, List, [], ◌∷◌, ◌++◌, replicate, Some, refl, sym, ap, ◌∙◌, arith, append_assoc, zero-add}
use Rattle.std.specs.List.{AllPass, fold, concat}
use Rattle.std.specs.Char.{is_ascii_digit, is_ascii_uppercase}
use Rattle.std.proofs.lemmas.Bool.{ne_eqb}
use Rattle.std.proofs.lemmas.List.Sums.{fold-append}
use Rattle.std.proofs.lemmas.List.Elements.{All-head, All-tail}
use Rattle.abc_text.specs.Number.{IsNumber}
use Rattle.abc_text.proofs.Decimals.{digit_range}
use Rattle.abc_fields.specs.Spelling.Parts.{IsCount, once, times, IsOrder, part, group, following, IsParts}
use Rattle.abc_fields.specs.Letters.{OrderLetters, nothing_played, letters_so_far, with_item, close_group, count_on, play_on, letters_of}
use Rattle.abc_fields.proofs.Orders.{below_upper, number_after}

-- the four kinds of bytes
pub plays_letter : (played : OrderLetters) (letter : ℕ) → is_ascii_uppercase letter ≡ true → play_on played letter ≡ with_item played.around (letters_so_far played) (letter ∷ [])
unfolding play_on
plays_letter played letter upper = rw upper refl

pub plays_open : (played : OrderLetters) → play_on played 40 ≡ with_item (letters_so_far played ∷ played.around) [] []
unfolding play_on
plays_open played = refl

pub plays_close : (played : OrderLetters) → play_on played 41 ≡ close_group played.around (letters_so_far played)
unfolding play_on
plays_close played = refl

pub plays_digit : (played : OrderLetters) (b : ℕ) → is_ascii_digit b ≡ true → play_on played b ≡ record played { count = Some (count_on played.count b) }
unfolding play_on
plays_digit played b digit =
    let range = digit_range b digit in
    let upper = below_upper b range.1 in
    let opens : (b == 40) ≡ false = ne_eqb b 40 (λ e. omega (arith, range)) in
    let closes : (b == 41) ≡ false = ne_eqb b 41 (λ e. omega (arith, range)) in
    rw (upper, opens, closes) refl

-- a count
abbrev counted : List (List ℕ) → List ℕ → List ℕ → ℕ → OrderLetters
counted around before item n = record { around = around; before = before; item = item; count = Some n }

plays_digits : (digits : List ℕ) (around : List (List ℕ)) (before item : List ℕ) (n : ℕ) → AllPass is_ascii_digit digits
    → fold play_on (counted around before item n) digits ≡ counted around before item (number_after n digits)
plays_digits [] around before item n all = refl
plays_digits (b ∷ digits) around before item n all =
    let digit : is_ascii_digit b ≡ true = All-head (λ y. is_ascii_digit y ≡ true) b digits all in
    let rest = plays_digits digits around before item (n * 10 + (b - 48)) (All-tail (λ y. is_ascii_digit y ≡ true) b digits all) in
    ap (λ played. fold play_on played digits) (plays_digit (counted around before item n) b digit) ∙ rest

plays_number : (text : List ℕ) (n : ℕ) (around : List (List ℕ)) (before item : List ℕ) → IsNumber text n
    → fold play_on (with_item around before item) text ≡ counted around before item n
plays_number [] n around before item number = absurd (omega (arith, number.some))
plays_number (b ∷ digits) n around before item number =
    let digit : is_ascii_digit b ≡ true = All-head (λ y. is_ascii_digit y ≡ true) b digits number.digits in
    let rest = plays_digits digits around before item (b - 48) (All-tail (λ y. is_ascii_digit y ≡ true) b digits number.digits) in
    let value : number_after (b - 48) digits ≡ n = ap (λ m. number_after m digits) (sym (zero-add (b - 48))) ∙ sym number.value in
    ap (λ played. fold play_on played digits) (plays_digit (with_item around before item) b digit) ∙ rest ∙ ap (counted around before item) value

plays_count : {count : List ℕ} {n : ℕ} → IsCount count n → (around : List (List ℕ)) (before item : List ℕ)
    → ((fold play_on (with_item around before item) count).around ≡ around) × (letters_so_far (fold play_on (with_item around before item) count) ≡ before ++ concat (replicate n item))
plays_count once around before item = (refl, refl)
plays_count (times {text} {n} number positive) around before item =
    let e = plays_number text n around before item number in
    (ap (λ played. played.around) e, ap letters_so_far e)

one_letter : (n letter : ℕ) → concat (replicate n (letter ∷ [])) ≡ replicate n letter
one_letter zero letter = refl
one_letter (suc n) letter = ap (λ letters. letter ∷ letters) (one_letter n letter)

plays_order : {depth : ℕ} {text letters : List ℕ} → IsOrder depth text letters → (played : OrderLetters)
    → ((fold play_on played text).around ≡ played.around) × (letters_so_far (fold play_on played text) ≡ letters_so_far played ++ letters)
plays_order (part {depth} {letter} {n} {count} upper times_is) played =
    let begun = ap (λ p. fold play_on p count) (plays_letter played letter upper) in
    let rest = plays_count times_is played.around (letters_so_far played) (letter ∷ []) in
    (ap (λ p. p.around) begun ∙ rest.0, ap letters_so_far begun ∙ rest.1 ∙ ap (λ l. letters_so_far played ++ l) (one_letter n letter))
plays_order (group {depth} {n} {inner} {count} {letters} few order times_is) played =
    let outside = letters_so_far played in
    let begun : OrderLetters = with_item (outside ∷ played.around) [] [] in
    let within = plays_order order begun in
    let last = fold play_on begun inner in
    let closed : play_on last 41 ≡ with_item played.around outside letters =
    plays_close last ∙ ap (λ around. close_group around (letters_so_far last)) within.0 ∙ ap (λ l. with_item played.around outside l) within.1 in
    let path : fold play_on played (40 ∷ (inner ++ 41 ∷ count)) ≡ fold play_on (with_item played.around outside letters) count =
    ap (λ p. fold play_on p (inner ++ 41 ∷ count)) (plays_open played) ∙ fold-append play_on begun inner (41 ∷ count) ∙ ap (λ p. fold play_on p count) closed in
    let rest = plays_count times_is played.around outside letters in
    (ap (λ p. p.around) path ∙ rest.0, ap letters_so_far path ∙ rest.1)
plays_order (following {depth} {front} {back} {first} {second} before after) played =
    let one = plays_order before played in
    let two = plays_order after (fold play_on played front) in
    let path = fold-append play_on played front back in
    (ap (λ p. p.around) path ∙ two.0 ∙ one.0, ap letters_so_far path ∙ two.1 ∙ ap (λ l. l ++ second) one.1 ∙ append_assoc (letters_so_far played) first second)

pub parts_letters : (value letters : List ℕ) → IsParts value letters → letters ≡ letters_of value
parts_letters value letters order = sym ((plays_order order nothing_played).1)
