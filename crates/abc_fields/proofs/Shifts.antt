-- Laws of shifts.
use Rattle.std.proofs.Common.{◌≡◌, ℕ, ℤ, List, [], ◌∷◌, Option, Some, None, IfSome, ◌≤◌, refl, sym, ap, ◌∙◌, subst, ⊎_elim, arith}
use Rattle.std.specs.Prelude.{◌↔◌, pos, neg_ℤ}
use Rattle.std.specs.List.{AllZip}
use Rattle.std.proofs.lemmas.Int.{ints}
use Rattle.std.specs.Option.{option_and_then, option_or}
use Rattle.abc_fields.specs.declared.property.Property.{Property}
use Rattle.abc_fields.specs.declared.property.Property.TheVariants.{Clef, Octave, Transpose, Other}
use Rattle.abc_fields.specs.declared.shift.Shift.{Shift}
use Rattle.abc_fields.specs.Property.{property_of}
use Rattle.abc_fields.specs.Spelling.Clef.{HasMark, IsClef}
use Rattle.abc_fields.specs.Spelling.Property.{IsProperty, IsSignedNumber}
use Rattle.abc_fields.specs.Shift.{IsWithin, IsSmallShift, with_property, shift_after, no_shift, shift_of}
use Rattle.abc_fields.specs.Spelling.Shift.{clef_in, octave_in, transpose_in, last_said, IsShift}
use Rattle.abc_text.proofs.Numbers.{number_small}
use Rattle.abc_fields.proofs.Properties.{property_read, property_known}
use Rattle.abc_fields.proofs.Readings.{bound}

or_or : (a b c : Option ℤ) → option_or a (option_or b c) ≡ option_or (option_or a b) c
or_or None b c = refl
or_or (Some n) b c = refl

or_none : (a : Option ℤ) → option_or a None ≡ a
or_none None = refl
or_none (Some n) = refl

-- one property
record With (shift : Shift) (p : Property) : Type 0 where
  clef : (with_property shift p).clef ≡ option_or (clef_in p) shift.clef
  octave : (with_property shift p).octave ≡ option_or (octave_in p) shift.octave
  transpose : (with_property shift p).transpose ≡ option_or (transpose_in p) shift.transpose

with_one : (shift : Shift) (p : Property) → With shift p
with_one shift (Clef n) = record { clef = refl; octave = refl; transpose = refl }
with_one shift (Octave n) = record { clef = refl; octave = refl; transpose = refl }
with_one shift (Transpose n) = record { clef = refl; octave = refl; transpose = refl }
with_one shift Other = record { clef = refl; octave = refl; transpose = refl }

-- properties after a shift
record Said (properties : List Property) (before after : Shift) : Type 0 where
  clef : after.clef ≡ option_or (last_said clef_in properties) before.clef
  octave : after.octave ≡ option_or (last_said octave_in properties) before.octave
  transpose : after.transpose ≡ option_or (last_said transpose_in properties) before.transpose

said_none : (before after : Shift) → before ≡ after → Said [] before after
said_none before after e = record {
  clef = sym (ap (λ s. s.clef) e);
  octave = sym (ap (λ s. s.octave) e);
  transpose = sym (ap (λ s. s.transpose) e);
}

none_said : (before after : Shift) → Said [] before after → before ≡ after
none_said before after said = λ i. record { clef = sym said.clef i; octave = sym said.octave i; transpose = sym said.transpose i }

said_more : (p : Property) (ps : List Property) (before after : Shift) → Said ps (with_property before p) after → Said (p ∷ ps) before after
said_more p ps before after said =
    let one = with_one before p in
    record {
      clef = said.clef ∙ ap (option_or (last_said clef_in ps)) one.clef ∙ or_or (last_said clef_in ps) (clef_in p) before.clef;
      octave = said.octave ∙ ap (option_or (last_said octave_in ps)) one.octave ∙ or_or (last_said octave_in ps) (octave_in p) before.octave;
      transpose = said.transpose ∙ ap (option_or (last_said transpose_in ps)) one.transpose ∙ or_or (last_said transpose_in ps) (transpose_in p) before.transpose;
    }

more_said : (p : Property) (ps : List Property) (before after : Shift) → Said (p ∷ ps) before after → Said ps (with_property before p) after
more_said p ps before after said =
    let one = with_one before p in
    record {
      clef = said.clef ∙ sym (ap (option_or (last_said clef_in ps)) one.clef ∙ or_or (last_said clef_in ps) (clef_in p) before.clef);
      octave = said.octave ∙ sym (ap (option_or (last_said octave_in ps)) one.octave ∙ or_or (last_said octave_in ps) (octave_in p) before.octave);
      transpose = said.transpose ∙ sym (ap (option_or (last_said transpose_in ps)) one.transpose ∙ or_or (last_said transpose_in ps) (transpose_in p) before.transpose);
    }

-- words are read by their grammar
words_read : (words : List (List ℕ)) (before after : Shift) → shift_after words before ≡ Some after → (properties : List Property) × AllZip IsProperty words properties × Said properties before after
words_read [] before after e = ([], tt, said_none before after cc)
words_read (word ∷ words) before after e =
    let one = bound (λ p. shift_after words (with_property before p)) (property_of word) after e in
    let more = words_read words (with_property before one.0) after one.2 in
    (one.0 ∷ more.0, (property_read word one.0 one.1, more.1), said_more one.0 more.0 before after more.2)

words_known : (words : List (List ℕ)) (properties : List Property) (before after : Shift) → AllZip IsProperty words properties → Said properties before after → shift_after words before ≡ Some after
words_known [] [] before after are said = ap Some (none_said before after said)
words_known [] (p ∷ ps) before after are said = absurd are
words_known (word ∷ words) [] before after are said = absurd are
words_known (word ∷ words) (p ∷ ps) before after are said =
    ap (option_and_then (λ p. shift_after words (with_property before p))) (property_known word p are.0) ∙ words_known words ps (with_property before p) after are.1 (more_said p ps before after said)

shift_read : (words : List (List ℕ)) (shift : Shift) → shift_of words ≡ Some shift → IsShift words shift
unfolding shift_of
shift_read words shift e =
    let read = words_read words no_shift shift e in
    record {
      properties = read.0;
      said = read.1;
      clef = read.2.clef ∙ or_none _;
      octave = read.2.octave ∙ or_none _;
      transpose = read.2.transpose ∙ or_none _;
    }

shift_known : (words : List (List ℕ)) (shift : Shift) → IsShift words shift → shift_of words ≡ Some shift
unfolding shift_of
shift_known words shift is = words_known words is.properties no_shift shift is.said record {
  clef = is.clef ∙ sym (or_none _);
  octave = is.octave ∙ sym (or_none _);
  transpose = is.transpose ∙ sym (or_none _);
}

pub shift_exact : (words : List (List ℕ)) (shift : Shift) → (shift_of words ≡ Some shift) ↔ IsShift words shift
shift_exact words shift = (shift_read words shift, shift_known words shift)

-- a shift is within its bounds
within : (m n : ℕ) → n ≤ m → IsWithin m (pos n) × IsWithin m (neg_ℤ (pos n))
within m n h = ((omega (arith, ints), omega (arith, ints)), (omega (arith, ints), omega (arith, ints)))

signed_within : (text : List ℕ) (n : ℤ) → IsSignedNumber text n → IsWithin 999999999 n
signed_within text n is =
    let small = within 999999999 is.size (number_small is.digits is.size is.number) in
    ⊎_elim (λ h. subst (IsWithin 999999999) (sym h.1) small.0) (⊎_elim (λ h. subst (IsWithin 999999999) (sym h.1) small.0) (λ h. subst (IsWithin 999999999) (sym h.1) small.1)) is.sign

mark_within : (text : List ℕ) (n : ℤ) → HasMark text n → IsWithin 12 n
mark_within text n has =
    let small = within 12 12 (omega arith) in
    ⊎_elim (λ h. subst (IsWithin 12) (sym h.1) small.0) (λ h. subst (IsWithin 12) (sym h.1) small.1) has

clef_within : (text : List ℕ) (n : ℤ) → IsClef text n → IsWithin 12 n
clef_within text n is = ⊎_elim (mark_within text n) (λ h. subst (IsWithin 12) (sym h.1) (within 12 0 (omega arith)).0) is

small_more : (word : List ℕ) (shift : Shift) (p : Property) → IsProperty word p → IsSmallShift shift → IsSmallShift (with_property shift p)
small_more word shift (Clef n) is small = record {
  clef = ⊎_elim (λ h. clef_within h.0 n h.2) (λ h. mark_within word n h.1) is;
  octave = small.octave;
  transpose = small.transpose;
}
small_more word shift (Octave n) is small = record { clef = small.clef; octave = signed_within is.0 n is.2; transpose = small.transpose }
small_more word shift (Transpose n) is small = record { clef = small.clef; octave = small.octave; transpose = signed_within is.0 n is.2 }
small_more word shift Other is small = small

small_after : (words : List (List ℕ)) (before after : Shift) → IsSmallShift before → shift_after words before ≡ Some after → IsSmallShift after
small_after [] before after small e = let same : before ≡ after = cc in subst IsSmallShift same small
small_after (word ∷ words) before after small e =
    let one = bound (λ p. shift_after words (with_property before p)) (property_of word) after e in
    small_after words (with_property before one.0) after (small_more word before one.0 (property_read word one.0 one.1) small) one.2

pub shift_small : (words : List (List ℕ)) (shift : Option Shift) → shift ≡ shift_of words → IfSome shift IsSmallShift
unfolding shift_of
shift_small words None e = tt
shift_small words (Some shift) e = small_after words no_shift shift record { clef = tt; octave = tt; transpose = tt } (sym e)
