-- The table of first sections, letter by letter.
use Rattle.std.proofs.Common.{◌≡◌, ℕ, ◌+◌, ◌-◌, ◌<◌, ◌≤◌, ◌≢◌, true, false, ◌==◌, cond, List, ◌∷◌, length, drop, set, get_or, replicate, Option, Some}
use Rattle.std.proofs.Common.{None, refl, sym, ap, ◌∙◌, arith, add-one, drop-cons}
use Rattle.std.specs.List.{position_from}
use Rattle.std.specs.Option.{option_or}
use Rattle.std.specs.Char.{is_ascii_uppercase}
use Rattle.std.proofs.lemmas.Bool.{eqb-true}
use Rattle.std.proofs.lemmas.Bool.Decides.{nat_tests}
use Rattle.std.proofs.lemmas.List.{drop_all, get_or-replicate, get_or-set_same, get_or-set_other}
use Rattle.abc_repeat.specs.Section.{first_section, section_of}

-- the first section of a letter, of those with these letters, counted from a number
abbrev first_from : ℕ → ℕ → List ℕ → Option ℕ
first_from letter at letters = position_from (λ own. own == letter) at letters

rest_first : (letters : List ℕ) (at letter : ℕ) → at < length letters
    → first_from letter (at + 1) (drop at letters) ≡ cond (get_or letters at 0 == letter) (Some (at + 1)) (first_from letter ((at + 1) + 1) (drop (at + 1) letters))
rest_first letters at letter inside =
    let cut : drop at letters ≡ get_or letters at 0 ∷ drop (at + 1) letters = rw add-one (drop-cons letters at 0 inside) in
    ap (first_from letter (at + 1)) cut

or_some : (entry : Option ℕ) (k : ℕ) (rest : Option ℕ) → option_or (option_or entry (Some k)) rest ≡ option_or entry (Some k)
or_some None k rest = refl
or_some (Some j) k rest = refl

or_none : (entry : Option ℕ) → option_or entry None ≡ entry
or_none None = refl
or_none (Some j) = refl

pub upper_range : (b : ℕ) → is_ascii_uppercase b ≡ true → (65 ≤ b) × (b ≤ 90)
upper_range b upper = grind (arith, nat_tests)

-- a section with another letter
other_kept : (entry : Option ℕ) (letters : List ℕ) (at letter : ℕ) → at < length letters → (get_or letters at 0 == letter) ≡ false
    → option_or entry (first_from letter ((at + 1) + 1) (drop (at + 1) letters)) ≡ option_or entry (first_from letter (at + 1) (drop at letters))
other_kept entry letters at letter inside differs =
    sym (ap (option_or entry) (rest_first letters at letter inside ∙ ap (λ t. cond t (Some (at + 1)) (first_from letter ((at + 1) + 1) (drop (at + 1) letters))) differs))

same_taken : (entry : Option ℕ) (letters : List ℕ) (at letter : ℕ) → at < length letters → (get_or letters at 0 == letter) ≡ true
    → option_or (option_or entry (Some (at + 1))) (first_from letter ((at + 1) + 1) (drop (at + 1) letters)) ≡ option_or entry (first_from letter (at + 1) (drop at letters))
same_taken entry letters at letter inside same =
    or_some entry (at + 1) (first_from letter ((at + 1) + 1) (drop (at + 1) letters))
    ∙ sym (ap (option_or entry) (rest_first letters at letter inside ∙ ap (λ t. cond t (Some (at + 1)) (first_from letter ((at + 1) + 1) (drop (at + 1) letters))) same))

differs_upper : (x letter : ℕ) → is_ascii_uppercase x ≡ false → is_ascii_uppercase letter ≡ true → (x == letter) ≡ false
differs_upper x letter other upper = grind (arith, nat_tests)

-- no section so far
pub option_or-none : (letter : ℕ) (rest : Option ℕ) → is_ascii_uppercase letter ≡ true → option_or (get_or (replicate 26 None) (letter - 65) None) rest ≡ rest
option_or-none letter rest upper =
    let range = upper_range letter upper in
    ap (λ entry. option_or entry rest) (get_or-replicate 26 (letter - 65) None None (omega (arith, range)))

-- a section without a letter A to Z
pub option_or-kept : (table : List (Option ℕ)) (letters : List ℕ) (at letter : ℕ) → at < length letters → is_ascii_uppercase (get_or letters at 0) ≡ false → is_ascii_uppercase letter ≡ true
    → option_or (get_or table (letter - 65) None) (first_from letter ((at + 1) + 1) (drop (at + 1) letters))
    ≡ option_or (get_or table (letter - 65) None) (first_from letter (at + 1) (drop at letters))
option_or-kept table letters at letter inside other upper =
    other_kept (get_or table (letter - 65) None) letters at letter inside (differs_upper (get_or letters at 0) letter other upper)

-- one section more
places_differ : (x letter : ℕ) → (x == letter) ≡ false → 65 ≤ x → 65 ≤ letter → letter - 65 ≢ x - 65
places_differ x letter differs low high = grind (arith, nat_tests)

pub option_or-set : (table : List (Option ℕ)) (letters : List ℕ) (at letter : ℕ) → length table ≡ 26 → at < length letters
    → is_ascii_uppercase (get_or letters at 0) ≡ true → is_ascii_uppercase letter ≡ true
    → option_or (get_or (set table (get_or letters at 0 - 65)
    (option_or (get_or table (get_or letters at 0 - 65) None) (Some (at + 1)))) (letter - 65) None) (first_from letter ((at + 1) + 1) (drop (at + 1) letters))
    ≡ option_or (get_or table (letter - 65) None) (first_from letter (at + 1) (drop at letters))
option_or-set table letters at letter wide inside upper_x upper =
    let x = get_or letters at 0 in
    let range = upper_range letter upper in
    let range_x = upper_range x upper_x in
    let rest = first_from letter ((at + 1) + 1) (drop (at + 1) letters) in
    let made = option_or (get_or table (x - 65) None) (Some (at + 1)) in
    elim (x == letter) as (λ t. (x == letter) ≡ t → option_or (get_or (set table (x - 65) made) (letter - 65) None) rest
    ≡ option_or (get_or table (letter - 65) None) (first_from letter (at + 1) (drop at letters))) [
      | true ↦
          λ same.
          let is : x ≡ letter = eqb-true x letter same in
          ap (λ k. option_or (get_or (set table (x - 65) made) (k - 65) None) rest) (sym is)
          ∙ ap (λ entry. option_or entry rest) (get_or-set_same table (x - 65) made None (omega (arith, wide, range_x)))
          ∙ ap (λ k. option_or (option_or (get_or table (k - 65) None) (Some (at + 1))) rest) is
          ∙ same_taken (get_or table (letter - 65) None) letters at letter inside same
      | false ↦
          λ differs.
          ap (λ entry. option_or entry rest) (get_or-set_other table (x - 65) (letter - 65) made None (places_differ x letter differs range_x.0 range.0))
          ∙ other_kept (get_or table (letter - 65) None) letters at letter inside differs
    ] refl

-- the whole table
pub section_of-table : (table : List (Option ℕ)) (letters : List ℕ) (at letter : ℕ) → length letters ≤ at
    → (is_ascii_uppercase letter ≡ true → option_or (get_or table (letter - 65) None) (first_from letter (at + 1) (drop at letters)) ≡ first_from letter 1 letters)
    → section_of (record { by_letter = table }) letter ≡ first_section letters letter
section_of-table table letters at letter past known =
    elim (is_ascii_uppercase letter) as (λ t. is_ascii_uppercase letter ≡ t → cond t (get_or table (letter - 65) None) None ≡ cond t (first_from letter 1 letters) None) [
      | true ↦ λ upper. sym (or_none (get_or table (letter - 65) None))
          ∙ ap (λ l. option_or (get_or table (letter - 65) None) (first_from letter (at + 1) l)) (sym (drop_all at letters past)) ∙ known upper
      | false ↦ λ other. refl
    ] refl
