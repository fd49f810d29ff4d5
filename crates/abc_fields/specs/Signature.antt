-- Key signatures. ABC 2.1 section 3.1.14.
use Rattle.std.specs.Prelude.{ℕ, ◌+◌, ◌-◌, ◌*◌, ◌%◌, nat_le, nat_lt, ℤ, pos, negsuc, ◌≤ℤ◌, if◌then◌else◌}
use Rattle.abc_text.specs.declared.letter.Letter.{Letter}
use Rattle.abc_text.specs.declared.letter.Letter.TheVariants.{C, D, E, F, G, A, B}
use Rattle.abc_text.specs.Letter.{semitones}
use Rattle.abc_fields.specs.declared.signature.Signature.{Signature}

-- The signature that alters each letter so.
abbrev pub by_letter : (Letter → ℤ) → Signature
by_letter by = record { a = by A; b = by B; c = by C; d = by D; e = by E; f = by F; g = by G }

-- The signature without sharps and flats.
abbrev pub natural : Signature
natural = by_letter (λ _. pos 0)

-- The alteration of a letter in semitones.
abbrev pub alteration : Signature → Letter → ℤ
alteration signature A = signature.a
alteration signature B = signature.b
alteration signature C = signature.c
alteration signature D = signature.d
alteration signature E = signature.e
alteration signature F = signature.f
alteration signature G = signature.g

-- The signature with another alteration of a letter.
abbrev pub altered_signature : Signature → Letter → ℤ → Signature
altered_signature signature A by = record signature { a = by }
altered_signature signature B by = record signature { b = by }
altered_signature signature C by = record signature { c = by }
altered_signature signature D by = record signature { d = by }
altered_signature signature E by = record signature { e = by }
altered_signature signature F by = record signature { f = by }
altered_signature signature G by = record signature { g = by }

-- The number of fifths from F up to a letter. A fifth is seven semitones, and C is one fifth above F. Sharps come in
-- the order F C G D A E B, flats in the order B E A D G C F.
abbrev pub fifths : Letter → ℕ
fifths letter = (7 * semitones letter + 1) % 12

-- The alteration of a letter by this number of sharps, or of flats if it is negative. Sharps count from F upwards,
-- flats from B downwards. The first flat is `negsuc 0`.
abbrev pub alteration_by_fifths : ℤ → Letter → ℤ
alteration_by_fifths (pos sharps) letter = if nat_lt (fifths letter) sharps then pos 1 else pos 0
alteration_by_fifths (negsuc flats) letter = if nat_le (6 - fifths letter) flats then negsuc 0 else pos 0

-- The signature of this number of sharps, or of flats if it is negative.
unfoldable pub signature_of : ℤ → Signature
signature_of sharps = by_letter (alteration_by_fifths sharps)

-- A number of sharps, or of flats if it is negative: at most seven.
abbrev pub IsSharps : ℤ → Type 0
IsSharps sharps = (negsuc 6 ≤ℤ sharps) × (sharps ≤ℤ pos 7)

-- An alteration lies between a double flat and a double sharp. ABC 2.1 section 4.2.
abbrev pub IsAlteration : ℤ → Type 0
IsAlteration by = (negsuc 1 ≤ℤ by) × (by ≤ℤ pos 2)

-- Each letter is altered within these bounds.
pub record IsSignature (s : Signature) : Type 0 where
  pub a : IsAlteration s.a
  pub b : IsAlteration s.b
  pub c : IsAlteration s.c
  pub d : IsAlteration s.d
  pub e : IsAlteration s.e
  pub f : IsAlteration s.f
  pub g : IsAlteration s.g
