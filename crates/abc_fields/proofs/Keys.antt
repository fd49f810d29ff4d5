-- A value is read by its grammar.
use Rattle.std.proofs.Common.{◌≡◌, ◌==◌, ◌||◌, ℕ, ◌⊎◌, ℤ, pos, negsuc, ◌+ℤ◌, Bool, true, false, List, [], ◌∷◌, length, codes, Option, Some, None, Result, refl, sym, ap, ◌∙◌, subst, inl, inr, ⊎_elim}
use Rattle.std.proofs.Common.{arith}
use Rattle.std.specs.Prelude.{int_lt, IfSome}
use Rattle.std.specs.Option.{option_map}
use Rattle.std.specs.Str.{bytes_eq}
use Rattle.std.proofs.lemmas.Bool.{cond-true, cond-false, or_cases, or_parts, or_from, false_from_ne_true, both_ways}
use Rattle.std.proofs.lemmas.Int.{ints}
use Rattle.std.proofs.lemmas.Slice.Eq.{bytes_eq-Decides}
use Rattle.abc_fields.specs.declared.fault_code.FaultCode.{FaultCode}
use Rattle.abc_fields.specs.declared.fault_code.FaultCode.TheVariants.{BadKey}
use Rattle.abc_fields.specs.declared.key.Key.{Key}
use Rattle.abc_fields.specs.declared.signature.Signature.{Signature}
use Rattle.abc_fields.specs.declared.tonic.KeyMode.{KeyMode}
use Rattle.abc_fields.specs.declared.tonic.KeyMode.TheVariants.{Named, Explicit}
use Rattle.abc_fields.specs.Listed.{with_accidentals}
use Rattle.abc_fields.specs.Mode.{added_sharps, is_minor}
use Rattle.abc_fields.specs.Shift.{IsSmallShift, no_shift, shift_of}
use Rattle.abc_fields.specs.Spelling.Shift.{IsShift}
use Rattle.abc_fields.specs.Signature.{IsSharps, IsSignature, signature_of}
use Rattle.abc_fields.specs.Tonic.{tonic_at, key_mode_at}
use Rattle.abc_fields.specs.Spelling.Tonic.{IsTonic}
use Rattle.abc_text.specs.Letter.{letter_of}
use Rattle.abc_text.specs.Word.{IsFirstWord, words_of}
use Rattle.abc_fields.specs.Clef.{mark_of, names_clef, without_line}
use Rattle.abc_fields.specs.Key.{empty_key, unchanged_key, IsInRange, key_with, key_on, sets_properties, begins_accidental, toneless_start, tonal_start, start_by_words, start_by, start_of, key_after}
use Rattle.abc_fields.specs.Key.{complete_key, spelled_key, key_in, key_of}
use Rattle.abc_fields.specs.Spelling.Key.{IsKeyOn, HasNoTonic, IsStart, IsCompleted, IsSpelled, IsKey}
use Rattle.abc_fields.specs.Spelling.Key.IsStart.{tonal, listed, properties}
use Rattle.abc_fields.specs.Spelling.Key.IsKey.{nothing, spelled}
use Rattle.abc_text.proofs.Words.{words_exact}
use Rattle.abc_fields.proofs.Shifts.{shift_exact, shift_small}
use Rattle.abc_fields.proofs.Tonics.{no_length, tonic_from, tonic_to, key_mode_from, key_mode_to}
use Rattle.abc_fields.proofs.Starts.{begins_from, begins_to, sets_from, sets_to}
use Rattle.abc_fields.proofs.Signatures.{natural_range, signature_of_range}
use Rattle.abc_fields.proofs.Listings.{listed_from, listed_to, listed_range}
use Rattle.abc_fields.proofs.Readings.{branches, map_some, Reads, reads}

-- the key on a tonic
in_range : (sharps : ℤ) → int_lt sharps (negsuc 6) ≡ false → int_lt (pos 7) sharps ≡ false → IsSharps sharps
in_range sharps low high = (grind (arith, ints), grind (arith, ints))

not_below : (sharps : ℤ) → IsSharps sharps → int_lt sharps (negsuc 6) ≡ false
not_below sharps h = grind (arith, ints)

not_above : (sharps : ℤ) → IsSharps sharps → int_lt (pos 7) sharps ≡ false
not_above sharps h = grind (arith, ints)

abbrev key_of_sharps : ℤ → Bool → Key
key_of_sharps sharps minor = record { signature = Some (signature_of sharps); sharps = sharps; minor = minor; shift = no_shift }

with_from : (sharps : ℤ) (minor : Bool) (key : Key) → key_with sharps minor ≡ Some key → IsSharps sharps × (key ≡ key_of_sharps sharps minor)
unfolding key_with
with_from sharps minor key e = ⊎_elim
    (λ h. let none : None ≡ Some key = h.1 in cc)
    (λ h.
    let known : Some (key_of_sharps sharps minor) ≡ Some key = h.1 in
    let parts = or_parts (int_lt sharps (negsuc 6)) (int_lt (pos 7) sharps) h.0 in
    (in_range sharps parts.0 parts.1, cc))
    (branches (int_lt sharps (negsuc 6) || int_lt (pos 7) sharps) _ _ _ e)

with_to : (sharps : ℤ) (minor : Bool) → IsSharps sharps → key_with sharps minor ≡ Some (key_of_sharps sharps minor)
unfolding key_with
with_to sharps minor h = cond-false _ None (Some (key_of_sharps sharps minor)) (or_from (int_lt sharps (negsuc 6)) (int_lt (pos 7) sharps) (not_below sharps h) (not_above sharps h))

key_on_from : (major : ℤ) (key_mode : KeyMode) (key : Key) → key_on major key_mode ≡ Some key → IsKeyOn major key_mode key
key_on_from major Explicit key e = cc
key_on_from major (Named mode) key e = with_from (major +ℤ added_sharps mode) (is_minor mode) key e

key_on_to : (major : ℤ) (key_mode : KeyMode) (key : Key) → IsKeyOn major key_mode key → key_on major key_mode ≡ Some key
key_on_to major Explicit key h = ap Some (sym h)
key_on_to major (Named mode) key h = with_to (major +ℤ added_sharps mode) (is_minor mode) h.0 ∙ ap Some (sym h.1)

-- the beginning of a value
no_tonic_from : (value : List ℕ) → tonic_at value ≡ None → HasNoTonic value
no_tonic_from value e = λ sharps rest is. let known : ◌≡◌ {A = Option (ℤ × List ℕ)} None (Some (sharps, rest)) = sym e ∙ tonic_to value sharps rest is in cc

no_tonic_to : (value : List ℕ) (o : Option (ℤ × List ℕ)) → tonic_at value ≡ o → HasNoTonic value → o ≡ None
no_tonic_to value None e h = refl
no_tonic_to value (Some p) e h = absurd (h p.0 p.1 (tonic_from value p.0 p.1 e))

first_from : (value first : List ℕ) (rest : List (List ℕ)) → words_of value ≡ first ∷ rest → (following : List ℕ) × IsFirstWord value first following
first_from value first rest e = let are = (words_exact value (first ∷ rest)).0 e in (are.0, are.1)

first_to : (value first following : List ℕ) → IsFirstWord value first following → words_of value ≡ first ∷ words_of following
first_to value first following is = (words_exact value (first ∷ words_of following)).1 (following, is, (words_exact following (words_of following)).0 refl)

toneless_from : (value first following : List ℕ) (start : Key) → HasNoTonic value → IsFirstWord value first following → toneless_start first ≡ Some start → IsStart value start value
toneless_from value first following start toneless is e = ⊎_elim
    (λ h. let known : Some empty_key ≡ Some start = h.1 in listed first following toneless is (begins_from first h.0) (cc) refl)
    (λ h. ⊎_elim
    (λ k.
    let known : Some unchanged_key ≡ Some start = k.1 in
    properties first following toneless is (λ begins. both_ways (begins_accidental first) h.0 (begins_to first begins)) (sets_from first k.0) (cc) refl)
    (λ k. let none : None ≡ Some start = k.1 in cc)
    (branches (sets_properties first) _ _ _ h.1))
    (branches (begins_accidental first) _ _ _ e)

by_words : (value : List ℕ) (found : Key × List ℕ) (words : List (List ℕ)) → words_of value ≡ words → HasNoTonic value → start_by_words value words ≡ Some found → IsStart value found.0 found.1
by_words value found [] w toneless e = cc
by_words value found (first ∷ rest) w toneless e =
    let is = first_from value first rest w in
    let start = map_some {A = Key} {B = Key × List ℕ} (λ key. (key, value)) (toneless_start first) found e in
    subst (λ (p : Key × List ℕ). IsStart value p.0 p.1) (sym start.2) (toneless_from value first is.0 start.0 toneless is.1 start.1)

tonal_from : (value : List ℕ) (found : Key × List ℕ) (major : ℤ) (following : List ℕ) (o : Option (KeyMode × List ℕ)) → key_mode_at following ≡ o → IsTonic value major following
    → tonal_start major o ≡ Some found → IsStart value found.0 found.1
tonal_from value found major following None b is e = cc
tonal_from value found major following (Some key_mode) b is e =
    let key = map_some {A = Key} {B = Key × List ℕ} (λ key. (key, key_mode.1)) (key_on major key_mode.0) found e in
    subst (λ (p : Key × List ℕ). IsStart value p.0 p.1) (sym key.2)
    (tonal major following key_mode.0 is (key_mode_from following key_mode.0 key_mode.1 b) (key_on_from major key_mode.0 key.0 key.1))

by_tonic : (value : List ℕ) (found : Key × List ℕ) (o : Option (ℤ × List ℕ)) → tonic_at value ≡ o → start_by value o ≡ Some found → IsStart value found.0 found.1
by_tonic value found None t e = by_words value found (words_of value) refl (no_tonic_from value t) e
by_tonic value found (Some tonic) t e = tonal_from value found tonic.0 tonic.1 (key_mode_at tonic.1) refl (tonic_from value tonic.0 tonic.1 t) e

start_from : (value : List ℕ) (found : Key × List ℕ) → start_of value ≡ Some found → IsStart value found.0 found.1
unfolding start_of
start_from value found e = by_tonic value found (tonic_at value) refl e

toneless_to : (value first following : List ℕ) (start : Key) → HasNoTonic value → IsFirstWord value first following → toneless_start first ≡ Some start → start_of value ≡ Some (start, value)
unfolding start_of
toneless_to value first following start toneless is e =
    ap (start_by value) (no_tonic_to value (tonic_at value) refl toneless)
    ∙ ap (start_by_words value) (first_to value first following is)
    ∙ ap (option_map {T = Key} {U = Key × List ℕ} (λ key. (key, value))) e

start_to : (value : List ℕ) (start : Key) (text : List ℕ) → IsStart value start text → start_of value ≡ Some (start, text)
unfolding start_of
start_to value start text (tonal major following key_mode is b k) =
    ap (start_by value) (tonic_to value major following is)
    ∙ ap (tonal_start major) (key_mode_to following key_mode text b)
    ∙ ap (option_map {T = Key} {U = Key × List ℕ} (λ key. (key, text))) (key_on_to major key_mode start k)
start_to value start text (listed first following toneless is begins s t) =
    toneless_to value first following empty_key toneless is (cond-true (begins_accidental first) _ _ (begins_to first begins)) ∙ (λ i. Some (sym s i, sym t i))
start_to value start text (properties first following toneless is other sets s t) =
    toneless_to value first following unchanged_key toneless is
    (cond-false (begins_accidental first) _ _ (false_from_ne_true (begins_accidental first) (λ b. other (begins_from first b))) ∙ cond-true (sets_properties first) _ _ (sets_to first sets))
    ∙ (λ i. Some (sym s i, sym t i))

-- the words that complete it
signature_from : (o : Option Signature) (words : List (List ℕ)) → IsCompleted o words (option_map (λ signature. with_accidentals signature words) o)
signature_from None words = refl
signature_from (Some signature) words = (with_accidentals signature words, listed_from words signature, refl)

signature_to : (o : Option Signature) (words : List (List ℕ)) (changed : Option Signature) → IsCompleted o words changed → option_map (λ signature. with_accidentals signature words) o ≡ changed
signature_to None words changed h = sym h
signature_to (Some signature) words changed h = ap Some (sym (listed_to words signature h.0 h.1)) ∙ sym h.2

pub record Completes (start : Key) (words : List (List ℕ)) (key : Key) : Type 0 where
  pub signature : IsCompleted start.signature words key.signature
  pub sharps : key.sharps ≡ start.sharps
  pub minor : key.minor ≡ start.minor
  pub shift : IsShift words key.shift

completed_from : (start : Key) (words : List (List ℕ)) (key : Key) → complete_key start words ≡ Some key → Completes start words key
unfolding complete_key
completed_from start words key e =
    let shift = map_some (key_after start words) (shift_of words) key e in
    subst (Completes start words) (sym shift.2) (record {
      signature = signature_from start.signature words;
      sharps = refl;
      minor = refl;
      shift = (shift_exact words shift.0).0 shift.1;
    })

completed_to : (start : Key) (words : List (List ℕ)) (key : Key) → Completes start words key → complete_key start words ≡ Some key
unfolding complete_key
completed_to start words key h =
    let signature = signature_to start.signature words key.signature h.signature in
    ap (option_map (key_after start words)) ((shift_exact words key.shift).1 h.shift)
    ∙ (λ i. Some (record { signature = signature i; sharps = sym h.sharps i; minor = sym h.minor i; shift = key.shift }))

-- the value
nothing_from : (value : List ℕ) → ((length value == 0) || bytes_eq value (codes "none")) ≡ true → (value ≡ []) ⊎ (value ≡ codes "none")
nothing_from value t = ⊎_elim
    (λ t. inl (no_length value t))
    (λ t. inr ((bytes_eq-Decides value (codes "none")).0 t))
    (or_cases (length value == 0) (bytes_eq value (codes "none")) t)

nothing_to : (value : List ℕ) → (value ≡ []) ⊎ (value ≡ codes "none") → ((length value == 0) || bytes_eq value (codes "none")) ≡ true
nothing_to value h = ⊎_elim
    (λ e. ap (λ v. (length v == 0) || bytes_eq v (codes "none")) e)
    (λ e. ap (λ v. (length v == 0) || bytes_eq v (codes "none")) e)
    h

no_start : (value : List ℕ) → (value ≡ []) ⊎ (value ≡ codes "none") → start_of value ≡ None
unfolding start_of letter_of words_of mark_of without_line names_clef
no_start value h = ⊎_elim (λ e. ap start_of e) (λ e. ap start_of e) h

by_start : (value : List ℕ) (key : Key) (o : Option (Key × List ℕ)) → start_of value ≡ o → spelled_key o ≡ Some key → IsSpelled value key
by_start value key None s e = cc
by_start value key (Some start) s e =
    let text = start.1 in
    let h = completed_from start.0 (words_of text) key e in
    record {
      start = start.0;
      text = text;
      words = words_of text;
      begins = start_from value start s;
      are_words = (words_exact text (words_of text)).0 refl;
      signature = h.signature;
      sharps = h.sharps;
      minor = h.minor;
      shift = h.shift;
    }

key_in_from : (value : List ℕ) (key : Key) → key_in value ≡ Some key → IsKey value key
unfolding key_in
key_in_from value key e = ⊎_elim
    (λ h. let known : Some empty_key ≡ Some key = h.1 in nothing (nothing_from value h.0) (cc))
    (λ h. spelled (by_start value key (start_of value) refl h.1))
    (branches ((length value == 0) || bytes_eq value (codes "none")) _ _ _ e)

key_in_to : (value : List ℕ) (key : Key) → IsKey value key → key_in value ≡ Some key
unfolding key_in
key_in_to value key (nothing is e) = cond-true _ (Some empty_key) (spelled_key (start_of value)) (nothing_to value is) ∙ ap Some (sym e)
key_in_to value key (spelled h) =
    let begins = start_to value h.start h.text h.begins in
    let something : ((length value == 0) || bytes_eq value (codes "none")) ≡ false = false_from_ne_true _ (λ t.
    let none : ◌≡◌ {A = Option (Key × List ℕ)} None (Some (h.start, h.text)) = sym (no_start value (nothing_from value t)) ∙ begins in cc) in
    let words : words_of h.text ≡ h.words = (words_exact h.text h.words).1 h.are_words in
    let done : complete_key h.start h.words ≡ Some key = completed_to h.start h.words key (record { signature = h.signature; sharps = h.sharps; minor = h.minor; shift = h.shift }) in
    cond-false _ (Some empty_key) (spelled_key (start_of value)) something
    ∙ ap spelled_key begins
    ∙ ap (complete_key h.start) words
    ∙ done

-- a key is within its bounds
no_sharps : IsSharps (pos 0)
no_sharps = (omega (arith, ints), omega (arith, ints))

no_shift_small : IsSmallShift no_shift
no_shift_small = record { clef = tt; octave = tt; transpose = tt }

pub no_key_range : IsInRange empty_key
no_key_range = record { sharps = no_sharps; signature = natural_range; shift = no_shift_small }

key_on_range : (major : ℤ) (key_mode : KeyMode) (key : Key) → IsKeyOn major key_mode key → IsInRange key
key_on_range major Explicit key h = subst IsInRange (sym h) no_key_range
key_on_range major (Named mode) key h = subst IsInRange (sym h.1) (record { sharps = h.0; signature = signature_of_range (major +ℤ added_sharps mode); shift = no_shift_small })

start_range : (value : List ℕ) (start : Key) (text : List ℕ) → IsStart value start text → IsInRange start
start_range value start text (tonal major following key_mode is b k) = key_on_range major key_mode start k
start_range value start text (listed first following toneless is begins s t) = subst IsInRange (sym s) no_key_range
start_range value start text (properties first following toneless is other sets s t) = subst IsInRange (sym s) (record { sharps = no_sharps; signature = tt; shift = no_shift_small })

signature_range : (o : Option Signature) (words : List (List ℕ)) (changed : Option Signature) → IsCompleted o words changed → IfSome o IsSignature → IfSome changed IsSignature
signature_range None words changed h r = subst (λ c. IfSome c IsSignature) (sym h) tt
signature_range (Some signature) words changed h r =
    subst (λ c. IfSome c IsSignature) (ap Some (sym (listed_to words signature h.0 h.1)) ∙ sym h.2) (listed_range words signature r)

key_range : (value : List ℕ) (key : Key) → IsKey value key → IsInRange key
key_range value key (nothing is e) = subst IsInRange (sym e) no_key_range
key_range value key (spelled h) =
    let r = start_range value h.start h.text h.begins in
    record {
      sharps = subst IsSharps (sym h.sharps) r.sharps;
      signature = signature_range h.start.signature h.words key.signature h.signature r.signature;
      shift = shift_small h.words (Some key.shift) (sym ((shift_exact h.words key.shift).1 h.shift));
    }

-- the reader answers the key
pub key_read : (value : List ℕ) (r : Result Key FaultCode) → r ≡ key_of value → Reads (IsKey value) IsInRange BadKey r
key_read value = reads (IsKey value) IsInRange BadKey (key_in value) (key_in_from value) (key_in_to value) (key_range value)
