-- BadByte, Unclosed, BadEnding and BadProgram are at the places of the rules.
use Rattle.std.proofs.Common.{◌≡◌, ◌∙◌, ℕ, ◌+◌, Bool, true, false, cond, leb, Some, None, List, [], ◌∷◌, ◌++◌, inl, inr, ⊎_elim, refl, ap, arith}
use Rattle.std.specs.Prelude.{is_none}
use Rattle.std.proofs.lemmas.Bool.{cases_lt}
use Rattle.std.proofs.lemmas.Bool.Decides.{nat_tests}
use Rattle.std.proofs.lemmas.List.Elements.{filter-append}
use Rattle.abc_scan.specs.declared.chord.Chord.{Chord}
use Rattle.abc_scan.specs.declared.directive.Directive.TheVariants as directives
use Rattle.abc_scan.specs.declared.chord_part.ChordPartKind.{ChordPartKind}
use Rattle.abc_scan.specs.declared.chord_part.ChordPartKind.TheVariants as parts
use Rattle.abc_scan.specs.declared.spanned.Spanned.{Spanned}
use Rattle.abc_scan.specs.declared.token.TokenKind.TheVariants as kinds
use Rattle.abc_time.specs.declared.ratio.Ratio.{Ratio}
use Rattle.abc_bars_items.specs.Column.{column_of}
use Rattle.abc_bars_voice.specs.declared.voice_state.VoiceState.{VoiceState}
use Rattle.abc_fields.specs.declared.fault_code.FaultCode.TheVariants.{BadProgram}
use Rattle.abc_bars_notes.specs.Sound.{fault_if}
use Rattle.abc_bars_notes.specs.TimeTokens.{play_chord}
use Rattle.abc_bars.specs.LookBack.CellFaults.{AreFaultsOfCells, Faults, HasSpellingFaults, IsProgramFault, byte_fault, byte_faults, is_of_spelling}
use Rattle.abc_bars.proofs.LookBack.CellFaults.{EachHas, faults_of_cells, Passing-none_at}
use Rattle.abc_bars.proofs.LookBack.TokenFaults.{Passing, all_parts, Passing-play_chord}
use Rattle.abc_bars.proofs.LookBack.TokenResults.{directive_faults}

abbrev Ours : Faults → Faults
Ours faults = Passing is_of_spelling faults

-- Each byte that begins no part of a chord has one.
byte-passes : (from : ℕ) (kind : ChordPartKind) → Ours (byte_fault from kind) ≡ byte_fault from kind
byte-passes from parts.BadByte = refl
byte-passes from _ = refl

bytes-pass : (from : ℕ) (rest : List (Spanned ChordPartKind)) → Ours (byte_faults from rest) ≡ byte_faults from rest
bytes-pass from [] = refl
bytes-pass from (part ∷ rest) =
    filter-append (λ fault. is_of_spelling fault.1) (byte_fault (from + part.from) part.kind) (byte_faults from rest)
    ∙ (λ i. byte-passes (from + part.from) part.kind i ++ bytes-pass from rest i)

of-chord : (state : VoiceState) (broken : List Ratio) (tied : Bool) (from : ℕ) (chord : Chord)
    → Ours (play_chord state broken tied from chord).faults ≡ byte_faults from chord.parts
of-chord state broken tied from chord =
    Passing-play_chord is_of_spelling refl refl (λ _. Unit {0}) (λ _ _. (refl, (refl, (refl, tt)))) state broken tied from chord (all_parts chord.parts)
    ∙ bytes-pass from chord.parts

of-program : (from number : ℕ) → IsProgramFault from (directives.Program number) (Ours (directive_faults from (directives.Program number)))
of-program from number = ⊎_elim
    (λ high. let out : leb number 127 ≡ false = grind (arith, nat_tests) in
    inl (high, ap (λ b. Ours (fault_if (is_none (cond b (Some number) None)) (column_of from) BadProgram)) out))
    (λ low. let within : leb number 127 ≡ true = grind (arith, nat_tests) in
    inr (low, ap (λ b. Ours (fault_if (is_none (cond b (Some number) None)) (column_of from) BadProgram)) within))
    (cases_lt 127 number)

each : EachHas is_of_spelling HasSpellingFaults
each place (kinds.Chord chord) now after is = of-chord _ _ _ place.from chord
each place (kinds.Ending None) now after is = refl
each place (kinds.Ending (Some passes)) now after is = refl
each place (kinds.Directive (directives.Program number)) now after is = of-program place.from number
each place (kinds.Directive (directives.Reach reach)) now after is = refl
each place kinds.Unclosed now after is = refl
each place kinds.BadByte now after is = refl
each place kind now after is = Passing-none_at is_of_spelling place kind now after refl

pub spelling_faults : AreFaultsOfCells is_of_spelling HasSpellingFaults
spelling_faults = faults_of_cells is_of_spelling HasSpellingFaults each
