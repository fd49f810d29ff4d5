-- Loose ties are those that have no note or chord directly before them, and tied notes are those of the last time token.
use Rattle.std.proofs.Common.{◌≡◌, ◌∙◌, ◌==◌, ℕ, Bool, true, false, ◌||◌, cond, List, [], ◌∷◌, ◌++◌, map, Option, Some, None, refl, sym, ap, append-nil}
use Rattle.std.specs.Prelude.{All, filter}
use Rattle.std.proofs.lemmas.List.Elements.{All-head, All-tail, filter-append}
use Rattle.abc_fields.specs.declared.fault_code.FaultCode.{FaultCode}
use Rattle.abc_fields.specs.declared.fault_code.FaultCode.TheVariants.{LooseTie}
use Rattle.abc_fields.specs.declared.key.Key.{Key}
use Rattle.abc_fields.specs.Fault.{number_of}
use Rattle.abc_scan.specs.declared.note.Note.{Note}
use Rattle.abc_scan.specs.declared.spanned.Spanned.{Spanned}
use Rattle.abc_scan.specs.declared.token.TokenKind.{TokenKind}
use Rattle.abc_scan.specs.declared.token.TokenKind.TheVariants as kinds
use Rattle.abc_bars_header.specs.HeaderLine.{HeaderLine}
use Rattle.abc_bars_body.specs.declared.body.Body.{Body}
use Rattle.abc_bars_header.specs.declared.defaults.Defaults.{Defaults}
use Rattle.abc_bars_voice.specs.declared.voice_state.VoiceState.{VoiceState}
use Rattle.abc_bars_voice.specs.declared.tied_note.TiedNote.{TiedNote}
use Rattle.abc_bars_notes.specs.declared.broken.Preceding.{Preceding}
use Rattle.abc_bars_notes.specs.declared.broken.Preceding.TheVariants.{Nothing}
use Rattle.abc_bars_notes.specs.Broken.{factors_of, is_time_token, preceding_after}
use Rattle.abc_bars_notes.specs.LooseTies.{is_loose_tie}
use Rattle.abc_bars_notes.specs.TokenRole.{has_note}
use Rattle.abc_bars_notes.proofs.LooseTies.{ties_after_notes}
use Rattle.abc_bars_body.specs.Body.{here}
use Rattle.abc_bars_body.specs.Cell.{after_chord_mention, may_be_tied, tie_ahead}
use Rattle.abc_bars_items.specs.Column.{column_of}
use Rattle.abc_bars.specs.LookBack.Element.{Element}
use Rattle.abc_bars.specs.LookBack.BodyState.{body_at}
use Rattle.abc_bars.specs.LookBack.Place.{result_in_body, opening_at}
use Rattle.abc_bars.specs.LookBack.Ties.{IsTimeBefore, altered_note, is_after_note, loose_from, loose_in, loose_ties, tied_in_chord, tied_notes}
use Rattle.abc_bars.specs.LookBack.Voice.{counted_notes, voice_state_at, tied_among, tied_at, tied_said}
use Rattle.abc_bars.proofs.LookBack.TokenFaults.{Passing, Passing-token_faults}
use Rattle.abc_bars.proofs.LookBack.TokenResults.{token_faults}
use Rattle.abc_bars.proofs.LookBack.CellFaults.{look_back-faults, rest_faults}

-- Whether a fault of this code is LooseTie.
abbrev is_loose_code : FaultCode → Bool
is_loose_code code = number_of code == number_of LooseTie

-- the loose ties among faults
abbrev Ties : List (ℕ × FaultCode) → List (ℕ × FaultCode)
Ties faults = Passing is_loose_code faults

of-tie : (b : Bool) (column : ℕ) → Ties (cond b [] ((column, LooseTie) ∷ [])) ≡ cond b [] ((column, LooseTie) ∷ [])
of-tie true column = refl
of-tie false column = refl

-- The loose ties of a token, if this is directly before it.
of-kind : (body : Body) (preceding : Preceding) (after : Bool) (before : Option TokenKind) (from : ℕ) (kind : TokenKind) (ahead : List (Spanned TokenKind))
    → after ≡ is_after_note before → Ties (token_faults body preceding after from kind ahead) ≡ loose_in before from kind
of-kind body preceding after before from (kinds.Chord chord) ahead e =
    ties_after_notes (here (after_chord_mention (has_note chord.parts) body)) (factors_of preceding ahead) from chord (tie_ahead ahead)
of-kind body preceding after before from kinds.Tie ahead e = of-tie after (column_of from) ∙ ap (λ b. cond b [] ((column_of from, LooseTie) ∷ [])) e
of-kind body preceding after before from kind ahead e = Passing-token_faults is_loose_code body preceding after from kind ahead refl

of-rest : (opening : Body) (elements : List Element) (preceding : Preceding) (after : Bool) (before : Option TokenKind) (cell : List (Spanned TokenKind)) → after ≡ is_after_note before
    → Ties (rest_faults opening elements preceding after cell) ≡ loose_from before cell
unfolding rest_faults
of-rest opening elements preceding after before [] e = refl
of-rest opening elements preceding after before (token ∷ ahead) e =
    filter-append (λ fault. is_loose_code fault.1) (token_faults (body_at opening elements) preceding after token.from token.kind ahead) _
    ∙ (λ i. of-kind (body_at opening elements) preceding after before token.from token.kind ahead e i
    ++ of-rest opening (record { kind = token.kind; tied = tie_ahead ahead } ∷ elements) (preceding_after preceding token.kind) (may_be_tied token.kind) (Some token.kind) ahead refl i)

pub filter-loose_ties : (values : Defaults) (fields : List HeaderLine) (key : Key) (before : List Element) (cell : List (Spanned TokenKind))
    → filter is_loose_tie (result_in_body values fields key before cell).faults ≡ loose_ties cell
filter-loose_ties values fields key before cell =
    let opening : Body = opening_at values fields key in
    ap Ties (look_back-faults opening before cell) ∙ of-rest opening before Nothing false None cell refl

-- A token that takes no time leaves the tied notes.
pub tied_said-over : (opening : VoiceState) (tied : List TiedNote) (before : List Element) (kind : TokenKind) (follows : Bool) → is_time_token kind ≡ false → tied_said opening tied before kind follows
    ≡ tied
tied_said-over opening tied before (kinds.Note note) true e = cc
tied_said-over opening tied before (kinds.Note note) false e = cc
tied_said-over opening tied before (kinds.Rest length) follows e = cc
tied_said-over opening tied before (kinds.Chord chord) follows e = rw e refl
tied_said-over opening tied before _ follows e = refl

one-of : (opening : VoiceState) (before : List Element) (b : Bool) (x : List Note × Note) (xs : List TiedNote) (ys : List (List Note × Note)) → xs ≡ map (altered_note opening before) ys
    → cond b (altered_note opening before x ∷ xs) xs ≡ map (altered_note opening before) (cond b (x ∷ ys) ys)
one-of opening before true x xs ys e = ap (λ l. altered_note opening before x ∷ l) e
one-of opening before false x xs ys e = e

in-chord : (opening : VoiceState) (before : List Element) (follows : Bool) (earlier : List Note) (notes : List (Note × Bool))
    → tied_among opening (tied_at opening before) before follows earlier notes ≡ map (altered_note opening before) (tied_in_chord follows earlier notes)
in-chord opening before follows earlier [] = refl
in-chord opening before follows earlier (note ∷ later) =
    one-of opening before (follows || note.1) (earlier, note.0) _ _ (in-chord opening before follows (note.0 ∷ earlier) later)

-- A time token leaves the notes from which a tie leads on.
pub tied_said-by : (opening : VoiceState) (before : List Element) (kind : TokenKind) (follows : Bool) → is_time_token kind ≡ true
    → tied_said opening (tied_at opening before) before kind follows ≡ map (altered_note opening before) (tied_notes kind follows)
tied_said-by opening before (kinds.Note note) true e = refl
tied_said-by opening before (kinds.Note note) false e = refl
tied_said-by opening before (kinds.Rest length) follows e = refl
tied_said-by opening before (kinds.Chord chord) follows e = rw e (in-chord opening before follows [] (counted_notes chord))
tied_said-by opening before _ follows e = cc

-- No time token.
abbrev pub Passed : Element → Type 0
Passed other = is_time_token other.kind ≡ false

pub tied_at-following : (opening : VoiceState) (nearer rest : List Element) → All Passed nearer → tied_at opening (nearer ++ rest) ≡ tied_at opening rest
tied_at-following opening [] rest none = refl
tied_at-following opening (other ∷ nearer) rest none =
    tied_said-over opening (tied_at opening (nearer ++ rest)) (nearer ++ rest) other.kind other.tied (All-head Passed other nearer none)
    ∙ tied_at-following opening nearer rest (All-tail Passed other nearer none)

pub tied_at-last : (opening : VoiceState) (before earlier : List Element) (token : Element) → IsTimeBefore before token earlier
    → tied_at opening before ≡ map (altered_note opening earlier) (tied_notes token.kind token.tied)
tied_at-last opening before earlier token is =
    ap (tied_at opening) is.split ∙ tied_at-following opening is.nearer (token ∷ earlier) is.none ∙ tied_said-by opening earlier token.kind token.tied is.time

pub tied_at-none : (opening : VoiceState) (before : List Element) → All Passed before → tied_at opening before ≡ []
tied_at-none opening before none = ap (tied_at opening) (sym (append-nil before)) ∙ tied_at-following opening before [] none

pub voice_state_at_ties : (opening : VoiceState) (before earlier : List Element) (token : Element) → IsTimeBefore before token earlier
    → (voice_state_at opening before).tied ≡ map (altered_note opening earlier) (tied_notes token.kind token.tied)
unfolding voice_state_at
voice_state_at_ties opening before earlier token is = tied_at-last opening before earlier token is

pub voice_state_at_no_ties : (opening : VoiceState) (before : List Element) → All Passed before → (voice_state_at opening before).tied ≡ []
unfolding voice_state_at
voice_state_at_no_ties opening before none = tied_at-none opening before none
