-- Keys. ABC 2.1 section 3.1.14.
use Rattle.std.specs.Prelude.{ℕ, IfSome, ◌==◌, ◌||◌, Bool, false, ℤ, pos, negsuc, ◌+ℤ◌, int_lt, if◌then◌else◌, List, [], ◌∷◌}
use Rattle.std.specs.Prelude.{length, codes, Option, Some, None, Result, Ok, Err}
use Rattle.std.specs.List.{list_any}
use Rattle.std.specs.Option.{is_some, option_map, ok_or}
use Rattle.std.specs.Str.{bytes_eq}
use Rattle.abc_fields.specs.declared.fault_code.FaultCode.{FaultCode}
use Rattle.abc_fields.specs.declared.fault_code.FaultCode.TheVariants.{BadKey}
use Rattle.abc_fields.specs.declared.key.Key.{Key}
use Rattle.abc_fields.specs.declared.shift.Shift.{Shift}
use Rattle.abc_fields.specs.declared.tonic.KeyMode.{KeyMode}
use Rattle.abc_fields.specs.declared.tonic.KeyMode.TheVariants.{Named, Explicit}
use Rattle.abc_fields.specs.Clef.{is_clef_name, mark_of}
use Rattle.abc_fields.specs.Listed.{with_accidentals}
use Rattle.abc_fields.specs.Mode.{added_sharps, is_minor}
use Rattle.abc_fields.specs.Shift.{IsSmallShift, no_shift, shift_of}
use Rattle.abc_fields.specs.Signature.{IsSharps, IsSignature, natural, signature_of}
use Rattle.abc_fields.specs.Tonic.{tonic_at, key_mode_at}
use Rattle.abc_text.specs.Word.{words_of}
use Rattle.abc_text.specs.Byte.{equals_sign, caret, underscore}

-- The key of an empty signature: it has no sharps and flats.
abbrev pub empty_key : Key
empty_key = record { signature = Some natural; sharps = pos 0; minor = false; shift = no_shift }

-- The key that leaves the signature as it is.
abbrev pub unchanged_key : Key
unchanged_key = record { signature = None; sharps = pos 0; minor = false; shift = no_shift }

-- The sharps of a key, the alterations of its signature and the parts of its shift lie within their
-- bounds.
pub record IsInRange (key : Key) : Type 0 where
  pub sharps : IsSharps key.sharps
  pub signature : IfSome key.signature IsSignature
  pub shift : IsSmallShift key.shift

-- The key of a mode with this number of sharps, if there are at most seven sharps or flats.
unfoldable pub key_with : ℤ → Bool → Option Key
key_with sharps minor =
    if int_lt sharps (negsuc 6) || int_lt (pos 7) sharps then None
    else Some (record { signature = Some (signature_of sharps); sharps = sharps; minor = minor; shift = no_shift })

-- The key of a mode on the tonic whose major key has these sharps.
abbrev pub key_on : ℤ → KeyMode → Option Key
key_on major Explicit = Some empty_key
key_on major (Named mode) = key_with (major +ℤ added_sharps mode) (is_minor mode)

-- A word sets properties, as the first word: it has a `=`, or the mark of an octave, or is the
-- name of a clef.
abbrev pub sets_properties : List ℕ → Bool
sets_properties word = list_any (λ b. b == equals_sign) word || is_some (mark_of word) || is_clef_name word

-- A word begins with `^`, `_` or `=`.
abbrev pub begins_accidental : List ℕ → Bool
begins_accidental [] = false
begins_accidental (b ∷ rest) = (b == caret) || (b == underscore) || (b == equals_sign)

-- The beginning of a key without a tonic, by its first word.
abbrev pub toneless_start : List ℕ → Option Key
toneless_start first =
    if begins_accidental first then Some empty_key
    else (if sets_properties first then Some unchanged_key
    else None)

-- The beginning of a key on a tonic, and the text with its other words.
abbrev pub tonal_start : ℤ → Option (KeyMode × List ℕ) → Option (Key × List ℕ)
tonal_start major None = None
tonal_start major (Some key_mode) = option_map (λ key. (key, key_mode.1)) (key_on major key_mode.0)

-- The beginning of a value without a tonic, by its words, which all complete it.
abbrev pub start_by_words : List ℕ → List (List ℕ) → Option (Key × List ℕ)
start_by_words value [] = None
start_by_words value (first ∷ rest) = option_map (λ key. (key, value)) (toneless_start first)

-- The beginning of a value, by its tonic and the text after it, or without a tonic.
abbrev pub start_by : List ℕ → Option (ℤ × List ℕ) → Option (Key × List ℕ)
start_by value None = start_by_words value (words_of value)
start_by value (Some tonic) = tonal_start tonic.0 (key_mode_at tonic.1)

-- The key at the front of a value, and the text with its other words.
unfoldable pub start_of : List ℕ → Option (Key × List ℕ)
start_of value = start_by value (tonic_at value)

-- A key with this shift, and with the accidentals among these words.
abbrev pub key_after : Key → List (List ℕ) → Shift → Key
key_after start words shift = record start {
  signature = option_map (λ signature. with_accidentals signature words) start.signature;
  shift = shift;
}

-- A key with the accidentals and the properties among words, if none is malformed.
unfoldable pub complete_key : Key → List (List ℕ) → Option Key
complete_key start words = option_map (key_after start words) (shift_of words)

-- The key of a value that is not empty.
abbrev pub spelled_key : Option (Key × List ℕ) → Option Key
spelled_key None = None
spelled_key (Some start) = complete_key start.0 (words_of start.1)

-- The key of a value, if it is accepted: without accidentals if the value is empty or `none`.
unfoldable pub key_in : List ℕ → Option Key
key_in value =
    if (length value == 0) || bytes_eq value (codes "none") then Some empty_key
    else spelled_key (start_of value)

-- The key of a value, or its fault.
abbrev pub key_of : List ℕ → Result Key FaultCode
key_of value = ok_or (key_in value) BadKey

-- The key that a field K: sets, by the result of its reading: that key, or an empty signature if it is refused. Not in
-- ABC 2.1.
abbrev pub key_or_empty : Result Key FaultCode → Key
key_or_empty (Ok key) = key
key_or_empty (Err fault) = empty_key
