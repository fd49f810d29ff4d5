-- BadLength in the cells of lines: each of their places is one of which the rule of lengths speaks.
use Rattle.std.proofs.Common.{◌≡◌, ◌∙◌, ℕ, Bool, true, false, cond, List, [], ◌∷◌, ◌++◌, length, refl, sym, subst, append_assoc}
use Rattle.std.specs.Prelude.{◌||◌, Some, filter, take}
use Rattle.abc_scan.specs.declared.chord.Chord.{Chord}
use Rattle.abc_scan.specs.declared.chord_part.ChordPartKind.{ChordPartKind}
use Rattle.abc_scan.specs.declared.spanned.Spanned.{Spanned}
use Rattle.abc_scan.specs.declared.token.TokenKind.{TokenKind}
use Rattle.abc_scan.specs.declared.token.TokenKind.TheVariants as kinds
use Rattle.abc_bars_notes.specs.ChordFaults.{AreFaultsOf}
use Rattle.abc_bars_notes.specs.ChordNotes.{notes_of}
use Rattle.abc_bars_notes.specs.Lasting.{Lasts}
use Rattle.abc_bars_notes.specs.TokenRole.{has_note, is_note_part}
use Rattle.abc_bars.specs.LookBack.Along.{CellTokens}
use Rattle.abc_bars.specs.LookBack.CellFaults.{AreFaultsAfter, CellStart, Faults, HasLengthFaults, IsChordFault, place_in}
use Rattle.abc_bars.specs.LookBack.CellPlace.{CellPlace, cell_with}
use Rattle.abc_bars.specs.LookBack.Lengths.{state_there}
use Rattle.abc_bars.specs.LookBack.LineFaults.{AreLengthFaultsOfLines, HasLengthFaultsOfLine, IsCellOfLine}
use Rattle.abc_bars.specs.LookBack.LineLengths.{IsInLine}
use Rattle.abc_bars.proofs.LookBack.FaultsOfLengths.{bad_lengths}
use Rattle.abc_bars.proofs.LookBack.LineLengths.{is-place}

-- A chord for which the test finds no note has none.
cond-none : (b c : Bool) (part : Spanned ChordPartKind) (rest : List (Spanned ChordPartKind)) → (b || c) ≡ false → (c ≡ false → rest ≡ []) → cond b (part ∷ rest) rest ≡ []
cond-none true c part rest none others = absurd (cc)
cond-none false c part rest none others = others none

filter-none : (inside : List (Spanned ChordPartKind)) → has_note inside ≡ false → filter (λ part. is_note_part part.kind) inside ≡ []
filter-none [] none = refl
filter-none (part ∷ rest) none =
    cond-none (is_note_part part.kind) (has_note rest) part (filter (λ p. is_note_part p.kind) rest) none (filter-none rest)

-- A chord with notes is a time token, and one without them has no fault.
chord-by : (place : CellPlace) (chord : Chord) (own : Faults) (b : Bool) → has_note chord.parts ≡ b → IsInLine place (kinds.Chord chord)
    → IsChordFault place chord own → HasLengthFaultsOfLine place (kinds.Chord chord) own
chord-by place chord own true some within has = has.some (is-place place (kinds.Chord chord) some within)
chord-by place chord own false none within has =
    subst (λ notes. AreFaultsOf (λ note. Lasts (state_there place) (cell_with place (kinds.Chord chord)) (length place.front) note.length (Some chord.length)) place.from (take 16 notes) own)
    (sym (filter-none chord.parts none)) (has.none (filter-none chord.parts none))

in-line : (place : CellPlace) (kind : TokenKind) (own : Faults) → IsInLine place kind → HasLengthFaults place kind own → HasLengthFaultsOfLine place kind own
in-line place (kinds.Note note) own within has = has (is-place place (kinds.Note note) refl within)
in-line place (kinds.Rest written) own within has = has (is-place place (kinds.Rest written) refl within)
in-line place (kinds.Chord chord) own within has = chord-by place chord own (has_note chord.parts) refl within has
in-line place kind own within has = has

module _ (start : CellStart) (cell : CellTokens) (of_line : IsCellOfLine start cell) where
  each-token : (front ahead : CellTokens) (faults : Faults) → front ++ ahead ≡ cell
      → AreFaultsAfter HasLengthFaults start front ahead faults → AreFaultsAfter HasLengthFaultsOfLine start front ahead faults
  each-token front [] faults is has = has
  each-token front (token ∷ ahead) faults is has = (
    has.0,
    has.1,
    has.2,
    in-line (place_in start front token ahead) token.kind has.0
        (record { header = of_line.header; line = of_line.line; values = of_line.values; cell = rw is of_line.among }) has.3,
    each-token (front ++ token ∷ []) ahead has.1 (append_assoc front (token ∷ []) ahead ∙ is) has.4,
  )

pub length_faults_of_lines : AreLengthFaultsOfLines
length_faults_of_lines start cell of_line = each-token start cell of_line [] cell _ refl (bad_lengths start cell)
