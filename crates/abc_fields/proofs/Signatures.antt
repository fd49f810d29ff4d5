-- Signatures stay within their bounds.
use Rattle.std.proofs.Common.{ℤ, pos, negsuc, arith}
use Rattle.std.proofs.lemmas.Bool.{cond_both}
use Rattle.std.proofs.lemmas.Int.{ints}
use Rattle.abc_text.specs.declared.letter.Letter.{Letter}
use Rattle.abc_text.specs.declared.letter.Letter.TheVariants.{C, D, E, F, G, A, B}
use Rattle.abc_fields.specs.declared.signature.Signature.{Signature}
use Rattle.abc_fields.specs.Signature.{by_letter, natural, altered_signature, alteration_by_fifths, signature_of, IsAlteration, IsSignature}

natural_note : IsAlteration (pos 0)
natural_note = (omega (arith, ints), omega (arith, ints))

by_fifths_range : (sharps : ℤ) (letter : Letter) → IsAlteration (alteration_by_fifths sharps letter)
by_fifths_range (pos sharps) letter = cond_both _ (pos 1) (pos 0) IsAlteration (λ _. (omega (arith, ints), omega (arith, ints))) (λ _. natural_note)
by_fifths_range (negsuc flats) letter = cond_both _ (negsuc 0) (pos 0) IsAlteration (λ _. (omega (arith, ints), omega (arith, ints))) (λ _. natural_note)

by_letter_range : (by : Letter → ℤ) → ((letter : Letter) → IsAlteration (by letter)) → IsSignature (by_letter by)
by_letter_range by h = record { a = h A; b = h B; c = h C; d = h D; e = h E; f = h F; g = h G }

pub signature_of_range : (sharps : ℤ) → IsSignature (signature_of sharps)
unfolding signature_of
signature_of_range sharps = by_letter_range (alteration_by_fifths sharps) (by_fifths_range sharps)

pub natural_range : IsSignature natural
natural_range = by_letter_range (λ _. pos 0) (λ _. natural_note)

pub altered_range : (s : Signature) (letter : Letter) (by : ℤ) → IsSignature s → IsAlteration by → IsSignature (altered_signature s letter by)
altered_range s A by h k = record { a = k; b = h.b; c = h.c; d = h.d; e = h.e; f = h.f; g = h.g }
altered_range s B by h k = record { a = h.a; b = k; c = h.c; d = h.d; e = h.e; f = h.f; g = h.g }
altered_range s C by h k = record { a = h.a; b = h.b; c = k; d = h.d; e = h.e; f = h.f; g = h.g }
altered_range s D by h k = record { a = h.a; b = h.b; c = h.c; d = k; e = h.e; f = h.f; g = h.g }
altered_range s E by h k = record { a = h.a; b = h.b; c = h.c; d = h.d; e = k; f = h.f; g = h.g }
altered_range s F by h k = record { a = h.a; b = h.b; c = h.c; d = h.d; e = h.e; f = k; g = h.g }
altered_range s G by h k = record { a = h.a; b = h.b; c = h.c; d = h.d; e = h.e; f = h.f; g = k }
