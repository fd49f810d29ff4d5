-- An order that plays too many sections, and the letters that have none.
use Rattle.std.proofs.Common.{◌≡◌, ℕ, suc, ◌+◌, ◌<◌, ◌≤◌, ◌↔◌, ◌&&◌, ◌||◌, Bool, List, [], ◌∷◌, length, Option, Some, None, Result, Ok, Err, refl, sym, ap, ◌∙◌, arith}
use Rattle.std.specs.List.{list_any, cons_option, filter_map, range_with_len}
use Rattle.std.specs.Option.{is_none}
use Rattle.std.specs.Char.{is_ascii_uppercase}
use Rattle.std.proofs.lemmas.List.FromFn.{length-range_with_len}
use Rattle.abc_fields.specs.Parts.{parts_of}
use Rattle.abc_fields.specs.Letters.{letters_of}
use Rattle.abc_fields.proofs.Capitals.{any_capital}
use Rattle.abc_repeat.specs.declared.order.Played.{Played}
use Rattle.abc_repeat.specs.declared.fault.OrderFault.{OrderFault}
use Rattle.abc_repeat.specs.declared.fault.OrderFault.TheVariants.{TooLong}
use Rattle.abc_repeat.specs.Section.{first_section}
use Rattle.abc_repeat.specs.Order.{sections_of, has_unknown, IsTooLong}

-- the sections of equal tables
pub filter_map-agree : (f g : ℕ → Option ℕ) → ((x : ℕ) → f x ≡ g x) → (xs : List ℕ) → filter_map f xs ≡ filter_map g xs
filter_map-agree f g agree [] = refl
filter_map-agree f g agree (x ∷ xs) = ap (λ o. cons_option o (filter_map f xs)) (agree x) ∙ ap (cons_option (g x)) (filter_map-agree f g agree xs)

list_any-agree : (p q : ℕ → Bool) → ((x : ℕ) → p x ≡ q x) → (xs : List ℕ) → list_any p xs ≡ list_any q xs
list_any-agree p q agree [] = refl
list_any-agree p q agree (x ∷ xs) = ap (λ b. b || list_any p xs) (agree x) ∙ ap (λ b. q x || b) (list_any-agree p q agree xs)

-- a letter without a section is found in the text
pub list_any-unknown : (f : ℕ → Option ℕ) (order letters : List ℕ) → parts_of order ≡ Ok tt → ((x : ℕ) → f x ≡ first_section letters x)
    → list_any (λ b. is_ascii_uppercase b && is_none (f b)) order ≡ has_unknown (Some order) letters
unfolding has_unknown
list_any-unknown f order letters accepted agree =
    sym (any_capital (λ b. is_none (f b)) order accepted) ∙ list_any-agree (λ b. is_none (f b)) (λ b. is_none (first_section letters b)) (λ x. ap is_none (agree x)) (letters_of order)

-- the sections of an order
pub order_sections : (f : ℕ → Option ℕ) (order letters : List ℕ) → ((x : ℕ) → f x ≡ first_section letters x) → 0 ∷ filter_map f (letters_of order) ≡ sections_of (Some order) letters
unfolding sections_of
order_sections f order letters agree = ap (λ l. 0 ∷ l) (filter_map-agree f (first_section letters) agree (letters_of order))

pub length-sections_of : (f : ℕ → Option ℕ) (order letters : List ℕ) → ((x : ℕ) → f x ≡ first_section letters x) → length (sections_of (Some order) letters) ≡ suc (length (filter_map f (letters_of order)))
length-sections_of f order letters agree = ap length (sym (order_sections f order letters agree))

-- the sections of a text without an order
pub range_with_len-all : (letters : List ℕ) → range_with_len 0 (length letters + 1) ≡ sections_of None letters
unfolding sections_of
range_with_len-all letters = let e : length letters + 1 ≡ 1 + length letters = omega arith in ap (range_with_len 0) e

pub length-sections_of_none : (letters : List ℕ) → length (sections_of None letters) ≡ length letters + 1
length-sections_of_none letters = ap length (sym (range_with_len-all letters)) ∙ length-range_with_len 0 (length letters + 1)

-- an answer that it is too long
pub too_long_by_test : (most : ℕ) (order : Option (List ℕ)) (letters : List ℕ) (said : Bool) → most < length (sections_of order letters) → said ≡ has_unknown order letters
    → (unknown : Bool) → ◌↔◌ (◌≡◌ {A = Result Played OrderFault} (Err (TooLong said)) (Err (TooLong unknown))) (IsTooLong most order letters unknown)
too_long_by_test most order letters said long is unknown = (λ e. (long, (let same : said ≡ unknown = cc in sym same ∙ is)), λ h. ap (λ u. Err (TooLong u)) (is ∙ sym h.1))

-- another answer
pub not_too_long : (most : ℕ) (order : Option (List ℕ)) (letters : List ℕ) (result : Result Played OrderFault)
    → length (sections_of order letters) ≤ most → ((unknown : Bool) → result ≡ Err (TooLong unknown) → ⊥)
    → (unknown : Bool) → ◌↔◌ (result ≡ Err (TooLong unknown)) (IsTooLong most order letters unknown)
not_too_long most order letters result few other unknown = (λ e. absurd (other unknown e), λ h. absurd (omega (arith, h.0)))
