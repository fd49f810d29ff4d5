-- Laws of numbers of one to nine digits.
use Rattle.std.proofs.Common.{◌≡◌, ℕ, ◌<◌, ◌≤◌, Bool, true, false, cond, leb, eqb, List, length, Option, Some, None, refl, sym, ap, ◌∙◌, arith}
use Rattle.std.specs.Prelude.{◌↔◌, ◌&&◌}
use Rattle.std.specs.List.{list_all}
use Rattle.std.proofs.lemmas.Bool.{and_parts, leb-true}
use Rattle.std.proofs.lemmas.Bool.Decides.{nat_tests}
use Rattle.std.proofs.lemmas.List.Sums.{AllPass-from_list_all, list_all-from_AllPass}
use Rattle.abc_text.specs.declared.digit.TheConstants.{LONGEST_NUMBER, LARGEST_NUMBER}
use Rattle.abc_text.specs.Digit.{is_digit, decimal}
use Rattle.abc_text.specs.Number.{number_of, is_number, IsNumber}
use Rattle.abc_text.proofs.Decimals.{decimal-lt}

-- a text without a digit, with too many bytes, or with other bytes, is no number
pub number_of-empty : (text : List ℕ) → eqb (length text) 0 ≡ true → None ≡ number_of text
unfolding number_of
number_of-empty text h = grind (arith, nat_tests)

pub number_of-long : (text : List ℕ) → LONGEST_NUMBER < length text → None ≡ number_of text
unfolding number_of
number_of-long text h = grind (arith, nat_tests)

no_number : (short all : Bool) (n : ℕ) → all ≡ false → ◌≡◌ {A = Option ℕ} None (cond (short && all) (Some n) None)
no_number true true n e = cc
no_number true false n e = refl
no_number false all n e = refl

pub number_of-other : (text : List ℕ) → list_all is_digit text ≡ false → None ≡ number_of text
unfolding number_of
number_of-other text h = no_number (leb 1 (length text) && leb (length text) LONGEST_NUMBER) (list_all is_digit text) _ h

some_number : (some short all : Bool) (n : ℕ) → some ≡ true → short ≡ true → all ≡ true → ◌≡◌ {A = Option ℕ} (Some n) (cond (some && short && all) (Some n) None)
some_number some short all n e f g = rw (e, f, g) refl

-- any other text is a number
pub number_of-whole : (text : List ℕ) → 1 ≤ length text → length text ≤ LONGEST_NUMBER → list_all is_digit text ≡ true → Some (decimal text) ≡ number_of text
unfolding number_of
number_of-whole text some few digits =
    some_number (leb 1 (length text)) (leb (length text) LONGEST_NUMBER) (list_all is_digit text) _ (grind (arith, nat_tests)) (grind (arith, nat_tests)) digits

-- the number read is the one that a text spells
spelled : (b : Bool) (v n : ℕ) → ◌≡◌ {A = Option ℕ} (cond b (Some v) None) (Some n) → (b ≡ true) × (n ≡ v)
spelled true v n e = (refl, cc)
spelled false v n e = cc

pub number_of-spells : (text : List ℕ) (n : ℕ) → number_of text ≡ Some n → IsNumber text n
unfolding number_of
number_of-spells text n e =
    let given = spelled (is_number text) (decimal text) n e in
    let outer = and_parts (leb 1 (length text) && leb (length text) LONGEST_NUMBER) (list_all is_digit text) given.0 in
    let inner = and_parts (leb 1 (length text)) (leb (length text) LONGEST_NUMBER) outer.0 in
    record {
      some = leb-true 1 (length text) inner.0;
      few = leb-true (length text) LONGEST_NUMBER inner.1;
      digits = AllPass-from_list_all is_digit text outer.1;
      value = given.1;
    }

pub number_of-spelled : (text : List ℕ) (n : ℕ) → IsNumber text n → number_of text ≡ Some n
number_of-spelled text n h = sym (ap Some h.value ∙ number_of-whole text h.some h.few (list_all-from_AllPass is_digit text h.digits))

pub number_exact : (text : List ℕ) (o : Option ℕ) → o ≡ number_of text → (n : ℕ) → (o ≡ Some n) ↔ IsNumber text n
number_exact text o e n = (λ h. number_of-spells text n (sym e ∙ h), λ h. e ∙ number_of-spelled text n h)

-- the size of a number
pub number_small : (text : List ℕ) (n : ℕ) → IsNumber text n → n ≤ LARGEST_NUMBER
number_small text n h = let below = decimal-lt text h.digits h.few in omega (arith, below, h.value)

-- a number is spelled by one value
pub one_number : (text : List ℕ) (m n : ℕ) → IsNumber text m → IsNumber text n → m ≡ n
one_number text m n h k = h.value ∙ sym k.value
