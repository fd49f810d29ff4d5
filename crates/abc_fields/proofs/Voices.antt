-- Laws of the field V:.
use Rattle.std.proofs.Common.{◌≡◌, ℕ, ◌+◌, List, length, drop, Some, Result, sym, ap, ◌∙◌, subst}
use Rattle.std.specs.List.{slice_range}
use Rattle.std.specs.Option.{option_and_then, option_map}
use Rattle.abc_fields.specs.declared.fault_code.FaultCode.{FaultCode}
use Rattle.abc_fields.specs.declared.fault_code.FaultCode.TheVariants.{BadVoice}
use Rattle.abc_fields.specs.declared.shift.Shift.{Shift}
use Rattle.abc_fields.specs.declared.voice.Voice.{Voice}
use Rattle.abc_text.specs.Word.{first_word, words_of}
use Rattle.abc_fields.specs.Shift.{IsSmallShift, shift_of}
use Rattle.abc_fields.specs.Voice.{voice_at, voice_in, voice_of}
use Rattle.abc_fields.specs.Spelling.Voice.{IsVoice}
use Rattle.abc_fields.proofs.Shifts.{shift_exact, shift_small}
use Rattle.abc_text.proofs.Words.{first_at, first_known}
use Rattle.abc_fields.proofs.Readings.{bound, map_some, Reads, reads}

voice_from : (text : List ℕ) (voice : Voice) → voice_in text ≡ Some voice → IsVoice text voice
unfolding voice_in
voice_from text voice e =
    let place = bound (voice_at text) (first_word text) voice e in
    let from : ℕ = place.0.0 in
    let to : ℕ = place.0.1 in
    let shift = map_some {A = Shift} {B = Voice} (λ s. record { from = from; to = to; shift = s }) (shift_of (words_of (drop to text))) voice place.2 in
    let at = first_at text from to (sym place.1) in
    subst (IsVoice text) (sym shift.2) record {
      identifier = slice_range text from to;
      following = drop to text;
      first = at.first;
      from = at.from_is;
      to = at.to_is;
      shift = (shift_exact (words_of (drop to text)) shift.0).0 shift.1;
    }

voice_to : (text : List ℕ) (voice : Voice) → IsVoice text voice → voice_in text ≡ Some voice
unfolding voice_in
voice_to text voice is =
    let known = first_known text is.identifier is.following is.first in
    let from = length is.first.blanks in
    let to = from + length is.identifier in
    let shift : shift_of (words_of (drop to text)) ≡ Some voice.shift = ap (λ l. shift_of (words_of l)) known.after_is ∙ (shift_exact (words_of is.following) voice.shift).1 is.shift in
    let to_is : to ≡ voice.to = sym (is.to ∙ ap (λ n. n + length is.identifier) is.from) in
    sym (ap (option_and_then (voice_at text)) known.known)
    ∙ ap (option_map (λ (s : Shift). record { from = from; to = to; shift = s })) shift
    ∙ (λ i. Some (record { from = sym is.from i; to = to_is i; shift = voice.shift }))

small_shift : (text : List ℕ) (voice : Voice) → IsVoice text voice → IsSmallShift voice.shift
small_shift text voice is = shift_small (words_of is.following) (Some voice.shift) (sym ((shift_exact (words_of is.following) voice.shift).1 is.shift))

-- the reader answers the voice
pub voice_read : (text : List ℕ) (r : Result Voice FaultCode) → r ≡ voice_of text → Reads (IsVoice text) (λ voice. IsSmallShift voice.shift) BadVoice r
unfolding voice_of
voice_read text = reads (IsVoice text) (λ voice. IsSmallShift voice.shift) BadVoice (voice_in text) (voice_from text) (voice_to text) (small_shift text)
