-- The mode of a K: is known by the first three letters of the run after its tonic.
use Rattle.std.proofs.Common.{◌≡◌, ℕ, suc, ◌+◌, ◌<◌, ◌≤◌, eqb, Bool, true, false, cond, ◌||◌, ◌⊎◌, ⊎_elim, List, [], ◌∷◌, length, Option, Some, None, Ok, codes, refl, sym, ap, ◌∙◌}
use Rattle.std.proofs.Common.{inl, inr, arith, ℤ, pos}
use Rattle.std.specs.Prelude.{◌≢◌, ◌+ℤ◌, ◌==◌, ◌&&◌, nat_le}
use Rattle.std.specs.Option.{option_map, ok_or}
use Rattle.std.specs.Str.{bytes_eq}
use Rattle.std.specs.Char.{to_ascii_lowercase}
use Rattle.std.proofs.lemmas.Bool.{and_parts, leb-true, cases_lt, cond-true, cond-false, cases_Bool, false_from_ne_true, or_from, ne_eqb}
use Rattle.std.proofs.lemmas.Int.{ints}
use Rattle.std.proofs.lemmas.Slice.Eq.{bytes_eq-Decides}
use Rattle.std.proofs.lemmas.Str.Ascii.{lowercase_is}
use Rattle.abc_text.specs.declared.letter.Letter.{Letter}
use Rattle.abc_text.specs.declared.letter.Letter.TheVariants.{A}
use Rattle.abc_text.specs.Letter.{capital}
use Rattle.abc_text.specs.Word.{words_of}
use Rattle.abc_fields.specs.declared.fault_code.FaultCode.TheVariants.{BadKey}
use Rattle.abc_fields.specs.declared.key.Key.{Key}
use Rattle.abc_fields.specs.declared.shift.Shift.{Shift}
use Rattle.abc_fields.specs.Key.{complete_key, key_after, key_in, key_with, spelled_key, start_by, start_of, tonal_start}
use Rattle.abc_fields.specs.Mode.{front_of, mode_named, mode_of}
use Rattle.abc_fields.specs.Shift.{no_shift, shift_of}
use Rattle.abc_fields.specs.Signature.{signature_of}
use Rattle.abc_fields.specs.Spelling.Tonic.{IsTonic}
use Rattle.abc_fields.specs.Tonic.{key_mode_at, key_mode_by}
use Rattle.abc_fields.proofs.Tonics.{run_read, tonic_to}
use Rattle.abc_bars.specs.KeyFieldLaws.{BeginsWith, NamesMode, lydian, major, ionian, mixolydian, dorian, minor, aeolian, letter_m, phrygian, locrian, IsTonicWithRun, NamesNone, NamedModesAdd}
use Rattle.abc_bars.specs.KeyFieldLaws.{OthersAreMajor, OtherRunsAreRefused}

-- letters, capitals or not
abbrev IsSmall : ℕ → Type 0
IsSmall small = (97 ≤ small) × (small ≤ 122)

lowered : (b small : ℕ) → IsSmall small → (b ≡ small) ⊎ (b + 32 ≡ small) → to_ascii_lowercase b ≡ small
lowered b small is h = ⊎_elim
    (λ same. let known = (lowercase_is b).2 (omega arith) in known ∙ same)
    (λ raised. let known = (lowercase_is b).0 (omega arith, omega arith) in known ∙ raised)
    h

raised : (b small : ℕ) → to_ascii_lowercase b ≡ small → (b ≡ small) ⊎ (b + 32 ≡ small)
raised b small e = ⊎_elim
    (λ low. inl (sym ((lowercase_is b).1 low) ∙ e))
    (λ high. ⊎_elim
    (λ above. inl (sym ((lowercase_is b).2 above) ∙ e))
    (λ within. inr (sym ((lowercase_is b).0 (high, within)) ∙ e))
    (cases_lt 90 b))
    (cases_lt b 65)

abbrev three : ℕ → ℕ → ℕ → List ℕ
three x y z = x ∷ y ∷ z ∷ []

begins_front : (x y z : ℕ) (run : List ℕ) → IsSmall x → IsSmall y → IsSmall z → BeginsWith (three x y z) run → front_of run ≡ three x y z
begins_front x y z [] p q r h = absurd h
begins_front x y z (a ∷ []) p q r h = absurd h.1
begins_front x y z (a ∷ b ∷ []) p q r h = absurd h.1.1
begins_front x y z (a ∷ b ∷ c ∷ run) p q r h =
    let first = lowered a x p h.0 in
    let second = lowered b y q h.1.0 in
    let third = lowered c z r h.1.1.0 in
    (λ i. first i ∷ second i ∷ third i ∷ [])

front_begins : (x y z : ℕ) (run : List ℕ) → front_of run ≡ three x y z → BeginsWith (three x y z) run
front_begins x y z [] e = cc
front_begins x y z (a ∷ []) e = cc
front_begins x y z (a ∷ b ∷ []) e = cc
front_begins x y z (a ∷ b ∷ c ∷ run) e = (raised a x cc, (raised b y cc, (raised c z cc, tt)))

-- a run whose first letters are these
front_named : (run : List ℕ) (x y z : ℕ) → front_of run ≡ three x y z → mode_of run ≡ mode_named (three x y z)
unfolding mode_of
front_named run x y z e =
    let other : bytes_eq run (codes "m") ≡ false = false_from_ne_true (bytes_eq run (codes "m")) (λ t.
    let one : length (front_of run) ≡ 1 = ap (λ r. length (front_of r)) ((bytes_eq-Decides run (codes "m")).0 t) in
    let many : length (front_of run) ≡ 3 = ap length e in
    omega (arith, one, many)) in
    cond-false (bytes_eq run (codes "m")) _ _ other ∙ ap mode_named e

small_letters : (x y z : ℕ) (run : List ℕ) → IsSmall x → IsSmall y → IsSmall z → BeginsWith (three x y z) run → mode_of run ≡ mode_named (three x y z)
small_letters x y z run p q r h = front_named run x y z (begins_front x y z run p q r h)

-- a run that names no mode
unnamed : (x y z : ℕ) (run : List ℕ) → (BeginsWith (three x y z) run → ⊥) → bytes_eq (front_of run) (three x y z) ≡ false
unnamed x y z run h = false_from_ne_true (bytes_eq (front_of run) (three x y z)) (λ t. h (front_begins x y z run ((bytes_eq-Decides (front_of run) (three x y z)).0 t)))

none_named : (run : List ℕ) → NamesNone run → mode_of run ≡ None
unfolding mode_of mode_named
none_named run none =
    let name = front_of run in
    let short : bytes_eq run (codes "m") ≡ false = false_from_ne_true (bytes_eq run (codes "m")) (λ t. none _ _ (letter_m ((bytes_eq-Decides run (codes "m")).0 t))) in
    cond-false (bytes_eq run (codes "m")) _ _ short
    ∙ cond-false (bytes_eq name (codes "lyd")) _ _ (unnamed _ _ _ run (λ h. none _ _ (lydian h)))
    ∙ cond-false (bytes_eq name (codes "maj") || bytes_eq name (codes "ion")) _ _
    (or_from (bytes_eq name (codes "maj")) (bytes_eq name (codes "ion")) (unnamed _ _ _ run (λ h. none _ _ (major h))) (unnamed _ _ _ run (λ h. none _ _ (ionian h))))
    ∙ cond-false (bytes_eq name (codes "mix")) _ _ (unnamed _ _ _ run (λ h. none _ _ (mixolydian h)))
    ∙ cond-false (bytes_eq name (codes "dor")) _ _ (unnamed _ _ _ run (λ h. none _ _ (dorian h)))
    ∙ cond-false (bytes_eq name (codes "min") || bytes_eq name (codes "aeo")) _ _
    (or_from (bytes_eq name (codes "min")) (bytes_eq name (codes "aeo")) (unnamed _ _ _ run (λ h. none _ _ (minor h))) (unnamed _ _ _ run (λ h. none _ _ (aeolian h))))
    ∙ cond-false (bytes_eq name (codes "phr")) _ _ (unnamed _ _ _ run (λ h. none _ _ (phrygian h)))
    ∙ cond-false (bytes_eq name (codes "loc")) _ _ (unnamed _ _ _ run (λ h. none _ _ (locrian h)))

-- a value that begins with a tonic is neither empty nor `none`
tonic_no_none : (letter : Letter) → capital letter ≡ 110 → ⊥
tonic_no_none A e = omega arith
tonic_no_none _ e = omega arith

tonic_key : (value : List ℕ) (sharps : ℤ) (following : List ℕ) → IsTonic value sharps following → key_in value ≡ spelled_key (tonal_start sharps (key_mode_at following))
unfolding key_in start_of
tonic_key value sharps following is =
    let some : eqb (length value) 0 ≡ false = ap (λ l. eqb (length l) 0) is.spelling ∙ ne_eqb (suc (length is.following)) 0 (λ e. omega (arith, e)) in
    let other : bytes_eq value (codes "none") ≡ false = false_from_ne_true (bytes_eq value (codes "none")) (λ t.
    let whole : capital is.letter ∷ is.following ≡ codes "none" = sym is.spelling ∙ (bytes_eq-Decides value (codes "none")).0 t in
    tonic_no_none is.letter cc) in
    cond-false (eqb (length value) 0 || bytes_eq value (codes "none")) _ _ (or_from (eqb (length value) 0) (bytes_eq value (codes "none")) some other)
    ∙ ap (λ o. spelled_key (start_by value o)) (tonic_to value sharps following is)

read_tonic : (value blanks run : List ℕ) (sharps : ℤ) (is : IsTonicWithRun value sharps blanks run)
    → key_in value ≡ spelled_key (tonal_start sharps (key_mode_by (mode_of run) (length blanks) run is.following is.rest))
read_tonic value blanks run sharps is =
    tonic_key value sharps is.following is.tonic ∙ ap (λ o. spelled_key (tonal_start sharps o)) (run_read is.following blanks run is.rest is.letters)

-- what completes a key leaves its sharps and whether it is minor
shifted : (start : Key) (words : List (List ℕ)) (o : Option Shift) (key : Key) → option_map (key_after start words) o ≡ Some key → (key.sharps ≡ start.sharps) × (key.minor ≡ start.minor)
shifted start words None key e = cc
shifted start words (Some shift) key e = let same : key_after start words shift ≡ key = cc in (ap (λ (k : Key). k.sharps) (sym same), ap (λ (k : Key). k.minor) (sym same))

completes : (start : Key) (words : List (List ℕ)) (key : Key) → complete_key start words ≡ Some key → (key.sharps ≡ start.sharps) × (key.minor ≡ start.minor)
unfolding complete_key
completes start words key e = shifted start words (shift_of words) key e

by_test : (out : Bool) (start key : Key) (text : List ℕ) → spelled_key (option_map (λ first. (first, text)) (cond out None (Some start))) ≡ Some key
    → (key.sharps ≡ start.sharps) × (key.minor ≡ start.minor)
by_test true start key text e = cc
by_test false start key text e = completes start (words_of text) key e

with_mode : (sharps : ℤ) (is_minor : Bool) (text : List ℕ) (key : Key) → spelled_key (option_map (λ first. (first, text)) (key_with sharps is_minor)) ≡ Some key → (key.sharps ≡ sharps)
    × (key.minor ≡ is_minor)
unfolding key_with
with_mode sharps is_minor text key e = by_test _ (record { signature = Some (signature_of sharps); sharps = sharps; minor = is_minor; shift = no_shift }) key text e

read_some : (o : Option Key) (key : Key) → ok_or o BadKey ≡ Ok key → o ≡ Some key
read_some None key e = cc
read_some (Some other) key e = cc

-- a mode that is named, by the codes of its letters
small : (x : ℕ) → (nat_le 97 x && nat_le x 122) ≡ true → IsSmall x
small x is = let parts = and_parts (nat_le 97 x) (nat_le x 122) is in (leb-true 97 x parts.0, leb-true x 122 parts.1)

module _ (sharps : ℤ) (blanks : ℕ) (run text rest : List ℕ) where
  by_letters : (x y z : ℕ) → (nat_le 97 x && nat_le x 122) ≡ true → (nat_le 97 y && nat_le y 122) ≡ true → (nat_le 97 z && nat_le z 122) ≡ true → BeginsWith (three x y z) run
      → tonal_start sharps (key_mode_by (mode_of run) blanks run text rest) ≡ tonal_start sharps (key_mode_by (mode_named (three x y z)) blanks run text rest)
  by_letters x y z p q r h = ap (λ o. tonal_start sharps (key_mode_by o blanks run text rest)) (small_letters x y z run (small x p) (small y q) (small z r) h)

  mode_sharps : (added : ℤ) (is_minor : Bool) → NamesMode run added is_minor
      → tonal_start sharps (key_mode_by (mode_of run) blanks run text rest) ≡ option_map (λ first. (first, rest)) (key_with (sharps +ℤ added) is_minor)
  unfolding mode_of mode_named
  mode_sharps _ _ (lydian h) = by_letters 108 121 100 refl refl refl h
  mode_sharps _ _ (major h) = by_letters 109 97 106 refl refl refl h
  mode_sharps _ _ (ionian h) = by_letters 105 111 110 refl refl refl h
  mode_sharps _ _ (mixolydian h) = by_letters 109 105 120 refl refl refl h
  mode_sharps _ _ (dorian h) = by_letters 100 111 114 refl refl refl h
  mode_sharps _ _ (minor h) = by_letters 109 105 110 refl refl refl h
  mode_sharps _ _ (aeolian h) = by_letters 97 101 111 refl refl refl h
  mode_sharps _ _ (letter_m h) = ap (λ r. tonal_start sharps (key_mode_by (mode_of r) blanks run text rest)) h
  mode_sharps _ _ (phrygian h) = by_letters 112 104 114 refl refl refl h
  mode_sharps _ _ (locrian h) = by_letters 108 111 99 refl refl refl h

pub named_modes_add : NamedModesAdd
named_modes_add value blanks run sharps added is_minor key is names read =
    with_mode (sharps +ℤ added) is_minor is.rest key
    (ap spelled_key (sym (mode_sharps sharps (length blanks) run is.following is.rest added is_minor names))
    ∙ sym (read_tonic value blanks run sharps is)
    ∙ read_some (key_in value) key read)

-- no mode is named
plain_sharps : (sharps : ℤ) → sharps +ℤ pos 0 ≡ sharps
plain_sharps sharps = omega (arith, ints)

by_default : (sharps : ℤ) (blanks : ℕ) (run text rest : List ℕ) → (run ≡ []) ⊎ ((0 < blanks) × (run ≢ codes "exp"))
    → tonal_start sharps (key_mode_by None blanks run text rest) ≡ option_map (λ first. (first, text)) (key_with sharps false)
by_default sharps blanks run text rest why =
    ⊎_elim
    (λ nil. ap (λ r. tonal_start sharps (key_mode_by None blanks r text rest)) nil)
    (λ later. ⊎_elim
    (λ t. ap (tonal_start sharps) (cond-true (length run == 0) _ _ t))
    (λ t. ap (tonal_start sharps)
    (cond-false (length run == 0) _ _ t
    ∙ cond-false (blanks == 0) _ _ (ne_eqb blanks 0 (λ e. let some = later.0 in omega arith))
    ∙ cond-false (bytes_eq run (codes "exp")) _ _ (false_from_ne_true (bytes_eq run (codes "exp")) (λ t. later.1 ((bytes_eq-Decides run (codes "exp")).0 t)))))
    (cases_Bool (length run == 0)))
    why
    ∙ ap (λ s. option_map (λ first. (first, text)) (key_with s false)) (plain_sharps sharps)

pub others_are_major : OthersAreMajor
others_are_major value blanks run sharps key is none why read =
    with_mode sharps false is.following key
    (ap spelled_key (sym (by_default sharps (length blanks) run is.following is.rest why))
    ∙ ap (λ o. spelled_key (tonal_start sharps (key_mode_by o (length blanks) run is.following is.rest))) (sym (none_named run none))
    ∙ sym (read_tonic value blanks run sharps is)
    ∙ read_some (key_in value) key read)

pub other_runs_are_refused : OtherRunsAreRefused
other_runs_are_refused value run sharps is none some =
    ap (λ o. ok_or o BadKey)
    (read_tonic value [] run sharps is
    ∙ ap (λ o. spelled_key (tonal_start sharps (key_mode_by o 0 run is.following is.rest))) (none_named run none)
    ∙ ap (λ o. spelled_key (tonal_start sharps o)) (cond-false (length run == 0) _ _ (ne_eqb (length run) 0 (λ e. omega arith))))
