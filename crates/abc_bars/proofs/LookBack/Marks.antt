-- BadBroken is at the marks of a cell that do not act, and a chord without a note gives and leaves nothing.
use Rattle.std.proofs.Common.{◌≡◌, ◌∙◌, ℕ, ◌+◌, Bool, true, false, List, [], ◌∷◌, ◌++◌, drop, length, Option, Some, refl, sym, ap, subst, append-nil}
use Rattle.std.specs.Prelude.{IsSomeAnd}
use Rattle.std.proofs.lemmas.List.Elements.{filter-append}
use Rattle.std.specs.List.{slice_get}
use Rattle.abc_fields.specs.declared.fault_code.FaultCode.{FaultCode}
use Rattle.abc_fields.specs.declared.fault_code.FaultCode.TheVariants.{BadBroken}
use Rattle.abc_scan.specs.declared.broken.BrokenRhythm.{BrokenRhythm}
use Rattle.abc_scan.specs.declared.spanned.Spanned.{Spanned}
use Rattle.abc_scan.specs.declared.token.TokenKind.{TokenKind}
use Rattle.abc_scan.specs.declared.token.TokenKind.TheVariants as kinds
use Rattle.abc_bars_items.specs.Column.{column_of}
use Rattle.abc_bars_voice.specs.declared.voice_state.VoiceState.{VoiceState}
use Rattle.abc_bars_notes.specs.declared.broken.Preceding.{Preceding}
use Rattle.abc_bars_notes.specs.declared.broken.Preceding.TheVariants.{Nothing}
use Rattle.abc_bars_notes.specs.declared.chords.ChordContext.{ChordContext}
use Rattle.abc_bars_notes.specs.declared.sound.ChordBuilder.{ChordBuilder}
use Rattle.abc_bars_notes.specs.Acting.{Acts, IsMarkAt, preceding_at}
use Rattle.abc_bars_notes.specs.Broken.{preceding_after, preceding_from, factors_of, is_bad_mark}
use Rattle.abc_bars_notes.specs.Chords.{chord_builder_of}
use Rattle.abc_bars_notes.specs.Sound.{fault_if}
use Rattle.abc_bars_notes.specs.TimeTokens.{chord_by}
use Rattle.abc_bars_notes.specs.TokenRole.{has_note}
use Rattle.abc_bars_notes.proofs.Acting.{marks_act}
use Rattle.abc_bars_body.specs.declared.body.Body.{Body}
use Rattle.abc_bars_body.specs.declared.cell.CellResult.{CellResult}
use Rattle.abc_bars_body.specs.Body.{here, with_here}
use Rattle.abc_bars_body.specs.Cell.{after_chord_mention, empty_cell_result, may_be_tied, tie_ahead}
use Rattle.abc_bars_body.proofs.HereLaws.{same_here}
use Rattle.abc_bars.specs.LookBack.AfterBody.{mentioned_if}
use Rattle.abc_bars.specs.LookBack.Element.{Element}
use Rattle.abc_bars.specs.LookBack.Faults.{AreFaultsOfMarks, BadMarksDoNotAct, EmptyChordsGiveNone, EmptyChordsLeaveAll, IsFaultOfMark, is_bad_broken_code}
use Rattle.abc_bars.specs.LookBack.BodyState.{body_at}
use Rattle.abc_bars.specs.LookBack.Place.{opening_at}
use Rattle.abc_bars.proofs.LookBack.CellPlace.{body-at, drop-front, split-following, take-front}
use Rattle.abc_bars.proofs.LookBack.TokenFaults.{Passing, Passing-token_faults}
use Rattle.abc_bars.proofs.LookBack.TokenResults.{token_faults}
use Rattle.abc_bars.proofs.LookBack.CellFaults.{preceding_from-more, look_back-faults, rest_faults}
use Rattle.abc_bars.proofs.LookBack.BodyState.{body_at_cons}

-- the faults BadBroken
abbrev Bad : List (ℕ × FaultCode) → List (ℕ × FaultCode)
Bad faults = Passing is_bad_broken_code faults

of-mark : (b : Bool) (column : ℕ) → Bad (fault_if b column BadBroken) ≡ fault_if b column BadBroken
of-mark true column = refl
of-mark false column = refl

-- The fault of a mark, by what is before it and these tokens ahead of it.
abbrev bad_in : Preceding → ℕ → TokenKind → List (Spanned TokenKind) → List (ℕ × FaultCode)
bad_in preceding from (kinds.Broken mark) ahead = fault_if (is_bad_mark preceding ahead) (column_of from) BadBroken
bad_in preceding from _ ahead = []

of-kind : (body : Body) (preceding : Preceding) (after : Bool) (from : ℕ) (kind : TokenKind) (ahead : List (Spanned TokenKind))
    → Bad (token_faults body preceding after from kind ahead) ≡ bad_in preceding from kind ahead
of-kind body preceding after from (kinds.Broken mark) ahead = of-mark (is_bad_mark preceding ahead) (column_of from)
of-kind body preceding after from kind ahead = Passing-token_faults is_bad_broken_code body preceding after from kind ahead refl

token-there : (front ahead : List (Spanned TokenKind)) (token : Spanned TokenKind) → slice_get (front ++ token ∷ ahead) (length front) ≡ Some token
token-there [] ahead token = refl
token-there (first ∷ front) ahead token = token-there front ahead token

module _ (front ahead : List (Spanned TokenKind)) (token : Spanned TokenKind) (others : List (ℕ × FaultCode)) where
  abbrev cell : List (Spanned TokenKind)
  cell = front ++ token ∷ ahead

  mark-there : (mark : BrokenRhythm) → token.kind ≡ kinds.Broken mark → IsMarkAt cell (length front) mark
  mark-there mark is = subst (λ (o : Option (Spanned TokenKind)). IsSomeAnd o (λ t. t.kind ≡ kinds.Broken mark)) (sym (token-there front ahead token)) is

  read-there : is_bad_mark (preceding_from Nothing front) ahead ≡ is_bad_mark (preceding_at cell (length front)) (drop (length front + 1) cell)
  read-there = λ i. is_bad_mark (preceding_from Nothing (sym (take-front front (token ∷ ahead)) i)) (sym (drop-front front ahead token) i)

  idle-by : (b : Bool) (mark : BrokenRhythm) → token.kind ≡ kinds.Broken mark → is_bad_mark (preceding_from Nothing front) ahead ≡ b → ¬ Acts cell mark (length front)
      → fault_if b (column_of token.from) BadBroken ++ others ≡ (column_of token.from, BadBroken) ∷ others
  idle-by true mark is bad none = refl
  idle-by false mark is bad none = absurd (none ((marks_act cell (length front) mark (mark-there mark is)).0 (sym read-there ∙ bad)))

  acting-is : (mark : BrokenRhythm) → token.kind ≡ kinds.Broken mark → Acts cell mark (length front) → is_bad_mark (preceding_from Nothing front) ahead ≡ false
  acting-is mark is acts = read-there ∙ (marks_act cell (length front) mark (mark-there mark is)).1 acts

  of-broken : (kind : TokenKind) → token.kind ≡ kind → IsFaultOfMark cell (length front) token (bad_in (preceding_from Nothing front) token.from kind ahead ++ others) others
  of-broken (kinds.Broken mark) same = record {
    acting = λ other is acts. ap (λ b. fault_if b (column_of token.from) BadBroken ++ others) (acting-is other is acts);
    idle = λ other is none. idle-by (is_bad_mark (preceding_from Nothing front) ahead) other is refl none;
    other = λ none. absurd (none mark same);
  }
  of-broken _ same = record { acting = λ mark is acts. refl; idle = λ mark is none. absurd (cc (same, is)); other = λ none. refl }

-- The faults of the tokens after those in front.
abbrev bad_from : Preceding → List (Spanned TokenKind) → List (ℕ × FaultCode)
bad_from preceding [] = []
bad_from preceding (token ∷ ahead) = bad_in preceding token.from token.kind ahead ++ bad_from (preceding_after preceding token.kind) ahead

of-rest : (opening : Body) (before : List Element) (preceding : Preceding) (after : Bool) (cell : List (Spanned TokenKind))
    → Bad (rest_faults opening before preceding after cell) ≡ bad_from preceding cell
unfolding rest_faults
of-rest opening before preceding after [] = refl
of-rest opening before preceding after (token ∷ ahead) =
    filter-append (λ fault. is_bad_broken_code fault.1) (token_faults (body_at opening before) preceding after token.from token.kind ahead) _
    ∙ (λ i. of-kind (body_at opening before) preceding after token.from token.kind ahead i
    ++ of-rest opening (record { kind = token.kind; tied = tie_ahead ahead } ∷ before) (preceding_after preceding token.kind) (may_be_tied token.kind) ahead i)

are-faults : (front cell : List (Spanned TokenKind)) → AreFaultsOfMarks front cell (bad_from (preceding_from Nothing front) cell)
are-faults front [] = refl
are-faults front (token ∷ ahead) =
    let preceding : Preceding = preceding_from Nothing front in
    let others : List (ℕ × FaultCode) = bad_from (preceding_after preceding token.kind) ahead in (
      others,
      subst (λ (b : Preceding). AreFaultsOfMarks (front ++ token ∷ []) ahead (bad_from b ahead)) (preceding_from-more Nothing front token) (are-faults (front ++ token ∷ []) ahead),
      of-broken front ahead token others token.kind refl,
    )

pub bad_marks_do_not_act : BadMarksDoNotAct
bad_marks_do_not_act values fields key before cell =
    let opening : Body = opening_at values fields key in
    subst (AreFaultsOfMarks [] cell) (sym (ap Bad (look_back-faults opening before cell) ∙ of-rest opening before Nothing false cell)) (are-faults [] cell)

-- A chord without a note gives no item.
no-item : (b : Bool) (state : VoiceState) (from : ℕ) (inside : ChordBuilder) → b ≡ false → (chord_by b state from inside).items ≡ []
no-item true state from inside e = cc
no-item false state from inside e = refl

pub empty_chords_give_none : EmptyChordsGiveNone
empty_chords_give_none place chord empty =
    let opening : Body = opening_at place.values place.fields place.key in
    let token : Spanned TokenKind = record { kind = kinds.Chord chord; from = place.from; to = place.to } in
    let none : CellResult = empty_cell_result opening in
    let split = split-following opening place.before none none place.front [] token refl refl in
    let start : CellResult = split.0 in
    let body : Body = after_chord_mention (has_note chord.parts) (body-at place) in
    let outside : ChordContext = record { length = chord.length; tied = false; from = place.from } in
    ap (λ (given : CellResult). length given.items.items) split.1
    ∙ ap (λ l. length (start.items.items ++ l))
    (no-item (has_note chord.parts) (here body) place.from (chord_builder_of (here body) (factors_of start.preceding []) outside chord.parts) empty)
    ∙ ap length (append-nil start.items.items) ∙ split.3

-- It leaves what holds as it was.
left-by : (b : Bool) (body : Body) (inside : VoiceState → ChordBuilder) → b ≡ false
    → with_here (mentioned_if b body) (chord_by b (here (mentioned_if b body)) 0 (inside (here (mentioned_if b body)))).state ≡ body
left-by true body inside e = absurd (cc)
left-by false body inside e = sym (same_here body)

pub empty_chords_leave_all : EmptyChordsLeaveAll
empty_chords_leave_all values fields key before chord tied empty =
    let body : Body = body_at (opening_at values fields key) before in
    let outside : ChordContext = record { length = chord.length; tied = tied; from = 0 } in
    body_at_cons values fields key before (record { kind = kinds.Chord chord; tied = tied })
    ∙ left-by (has_note chord.parts) body (λ state. chord_builder_of state [] outside chord.parts) empty
