-- Values as the worked examples write them: a tick is 484,323,840 grains. Not in ABC 2.1.
use Rattle.std.specs.Prelude.{ℕ, ℤ, ◌*◌, Bool, true, false, List, [], ◌∷◌, map, pos, neg_ℤ, Option, option_map, Some, None}
use Rattle.std.specs.Prelude.{Result, Ok, Err}
use Rattle.abc_fields.specs.Key.{key_of}
use Rattle.abc_fields.specs.declared.fault_code.FaultCode.{FaultCode}
use Rattle.abc_fields.specs.declared.fault_code.FaultCode.TheVariants as faults
use Rattle.abc_fields.specs.declared.key.Key.{Key}
use Rattle.abc_fields.specs.declared.shift.Shift.{Shift}
use Rattle.abc_fields.specs.declared.signature.Signature.{Signature}
use Rattle.abc_fields.specs.declared.voice.Voice.{Voice}
use Rattle.abc_scan.specs.declared.length.WrittenLength.{WrittenLength}
use Rattle.abc_scan.specs.declared.length.WrittenLength.TheVariants.{Factor}
use Rattle.abc_text.specs.declared.letter.Letter.{Letter}
use Rattle.abc_text.specs.declared.letter.Letter.TheVariants as letters
use Rattle.abc_scan.specs.declared.chord_part.ChordPartKind.{ChordPartKind}
use Rattle.abc_scan.specs.declared.chord_part.ChordPartKind.TheVariants as parts
use Rattle.abc_scan.specs.declared.spanned.Spanned.{Spanned}
use Rattle.abc_scan.specs.declared.token.TokenKind.{TokenKind}
use Rattle.abc_scan.specs.declared.token.TokenKind.TheVariants as kinds
use Rattle.abc_time.specs.declared.grains.Grains.{Grains}
use Rattle.abc_time.specs.declared.ratio.Ratio.{Ratio}

-- One number over another.
abbrev pub ratio : ℕ → ℕ → Ratio
ratio num den = record { num = num; den = den }

-- The moment of a tick.
abbrev pub at_tick : ℕ → Grains
at_tick tick = record { 0 = tick * 484323840 }

-- A note without accidental.
abbrev pub note : Letter → ℤ → WrittenLength → TokenKind
note letter octave length = kinds.Note (record { accidental = None; letter = letter; octave = octave; length = length })

-- No written length: one unit.
abbrev pub plain : WrittenLength
plain = Factor 1 1

-- A token from one byte of a line to another, counted from 0.
abbrev pub token : TokenKind → ℕ → ℕ → Spanned TokenKind
token kind from to = record { kind = kind; from = from; to = to }

-- A C of this octave and length, from one byte of a line to another.
abbrev pub c_token : ℤ → WrittenLength → ℕ → ℕ → Spanned TokenKind
c_token octave length from to = token (note letters.C octave length) from to

-- A double bar line with `closes` colons before it and none after it.
abbrev pub double_bar : ℕ → TokenKind
double_bar closes = kinds.Bar (record { closes = closes; opens = 0; double = true })

-- A bar line with colons before it and after it, and whether it is double, from one byte of a line to another.
abbrev pub bar_token : ℕ → ℕ → Bool → ℕ → ℕ → Spanned TokenKind
bar_token closes opens double from to = token (kinds.Bar (record { closes = closes; opens = opens; double = double })) from to

-- The kinds of tokens.
abbrev pub kinds_of : List (Spanned TokenKind) → List TokenKind
kinds_of tokens = map (λ t. t.kind) tokens

-- A blank from one byte of a line to another.
abbrev pub blank : ℕ → ℕ → Spanned TokenKind
blank from to = token kinds.Blank from to

-- A part from one byte of a chord to another, counted from 0.
abbrev pub part : ChordPartKind → ℕ → ℕ → Spanned ChordPartKind
part kind from to = record { kind = kind; from = from; to = to }

-- A middle C in a chord, from one byte of the chord to another.
abbrev pub c_part : ℕ → ℕ → Spanned ChordPartKind
c_part from to = part (parts.Note (record { accidental = None; letter = letters.C; octave = pos 0; length = plain })) from to

-- A chord of these parts, with no length after it, from one byte of a line to another.
abbrev pub chord_token : List (Spanned ChordPartKind) → ℕ → ℕ → Spanned TokenKind
chord_token inside from to = token (kinds.Chord (record { parts = inside; length = plain })) from to

-- A shift with these parts.
abbrev pub shift : Option ℤ → Option ℤ → Option ℤ → Shift
shift clef octave transpose = record { clef = clef; octave = octave; transpose = transpose }

-- A voice that is named by the bytes from one place to another, with the parts of its shift.
abbrev pub voice : ℕ → ℕ → Option ℤ → Option ℤ → Option ℤ → Voice
voice from to clef octave transpose = record { from = from; to = to; shift = shift clef octave transpose }

-- The sharps of a key that is accepted.
abbrev pub sharps_of : Result Key FaultCode → Option ℤ
sharps_of (Ok key) = Some key.sharps
sharps_of (Err fault) = None

-- The shift of a key that is accepted.
abbrev pub shift_in_key : Result Key FaultCode → Option Shift
shift_in_key (Ok key) = Some key.shift
shift_in_key (Err fault) = None

-- The sharps of the keys of these values. Flats are negative.
abbrev pub sharps_of_keys : List (List ℕ) → List (Option ℤ)
sharps_of_keys values = map (λ value. sharps_of (key_of value)) values

-- As many sharps, and as many flats.
abbrev pub sharps : List ℕ → List (Option ℤ)
sharps counts = map (λ n. Some (pos n)) counts

abbrev pub flats : List ℕ → List (Option ℤ)
flats counts = map (λ n. Some (neg_ℤ (pos n))) counts

-- The alterations of the letters F, C, G, D, A, E and B in a signature.
abbrev pub by_fifths : Signature → List ℤ
by_fifths s = s.f ∷ s.c ∷ s.g ∷ s.d ∷ s.a ∷ s.e ∷ s.b ∷ []

-- The same of a key that is accepted and has a signature.
abbrev pub by_fifths_in_key : Result Key FaultCode → Option (List ℤ)
by_fifths_in_key (Ok key) = option_map by_fifths key.signature
by_fifths_in_key (Err fault) = None

-- The key of a value without a tonic, accidentals and numbers.
abbrev pub no_key : Key
no_key = record { signature = None; sharps = pos 0; minor = false; shift = shift None None None }

-- The codes of faults in the order in which they are declared.
abbrev pub fault_codes : List FaultCode
fault_codes =
    faults.BadReference ∷ faults.BadMeter ∷ faults.BadUnit ∷ faults.BadTempo ∷ faults.BadKey ∷ faults.BadOrder ∷ faults.BadPart
    ∷ faults.BadVoice ∷ faults.TooManyVoices ∷ faults.BadByte ∷ faults.Unclosed ∷ faults.BadLength ∷ faults.BadTuplet
    ∷ faults.NestedTuplet ∷ faults.BadBroken ∷ faults.LooseTie ∷ faults.EmptyChord ∷ faults.BigChord ∷ faults.BadEnding
    ∷ faults.FreeBarRest ∷ faults.KeyRange ∷ faults.MissingKey ∷ faults.TempoRange ∷ faults.UnknownPart ∷ faults.UnevenVoices
    ∷ faults.TuneTooLong ∷ faults.BadProgram ∷ []
