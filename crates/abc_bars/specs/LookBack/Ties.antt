-- Which ties of a cell are loose, and from which notes of a voice a tie leads on. ABC 2.1 section 4.11.
use Rattle.std.specs.Prelude.{◌≡◌, ℕ, ◌+◌, Bool, true, false, ◌||◌, if◌then◌else◌, List, [], ◌∷◌, ◌++◌, map, filter, All, Option}
use Rattle.std.specs.Prelude.{Some, None}
use Rattle.abc_fields.specs.declared.fault_code.FaultCode.{FaultCode}
use Rattle.abc_fields.specs.declared.fault_code.FaultCode.TheVariants.{LooseTie}
use Rattle.abc_scan.specs.declared.chord.Chord.{Chord}
use Rattle.abc_scan.specs.declared.note.Note.{Note}
use Rattle.abc_scan.specs.declared.spanned.Spanned.{Spanned}
use Rattle.abc_scan.specs.declared.token.TokenKind.{TokenKind}
use Rattle.abc_scan.specs.declared.token.TokenKind.TheVariants as kinds
use Rattle.abc_bars_notes.specs.Broken.{is_time_token}
use Rattle.abc_bars_items.specs.Column.{column_of}
use Rattle.abc_bars_notes.specs.LooseTies.{is_loose, with_before}
use Rattle.abc_bars_body.specs.Cell.{may_be_tied}
use Rattle.abc_bars.specs.LookBack.Element.{Element}
use Rattle.abc_bars.specs.LookBack.Voice.{alteration_at, as_tied, counted_notes, tied_at}
use Rattle.abc_bars_voice.specs.declared.voice_state.VoiceState.{VoiceState}
use Rattle.abc_bars_voice.specs.declared.tied_note.TiedNote.{TiedNote}

-- Whether what is directly before a token in its cell, if anything does, is a note or a chord.
abbrev pub is_after_note : Option TokenKind → Bool
is_after_note None = false
is_after_note (Some kind) = may_be_tied kind

-- The loose ties inside a chord at a place of its line: those that have no note directly before them.
abbrev pub loose_inside : ℕ → Chord → List (ℕ × FaultCode)
loose_inside from chord = map (λ pair. (column_of (from + pair.1.from), LooseTie)) (filter is_loose (with_before chord.parts))

-- The loose ties of a token at a place of its line, by the token directly before it. A tie is loose if no note or chord is
-- there; a chord without notes counts. A chord has the loose ties inside it. That nothing may be between is not in ABC 2.1.
abbrev pub loose_in : Option TokenKind → ℕ → TokenKind → List (ℕ × FaultCode)
loose_in before from kinds.Tie = if is_after_note before then [] else (column_of from, LooseTie) ∷ []
loose_in before from (kinds.Chord chord) = loose_inside from chord
loose_in before from _ = []

-- The loose ties of tokens, of which the first has this directly before it.
abbrev pub loose_from : Option TokenKind → List (Spanned TokenKind) → List (ℕ × FaultCode)
loose_from before [] = []
loose_from before (token ∷ ahead) = loose_in before token.from token.kind ++ loose_from (Some token.kind) ahead

-- The loose ties of a cell.
abbrev pub loose_ties : List (Spanned TokenKind) → List (ℕ × FaultCode)
loose_ties cell = loose_from None cell

-- The last time token before a place of a voice, a note, a rest or a chord with a note, and what is before it.
pub record IsTimeBefore (before : List Element) (token : Element) (earlier : List Element) : Type 0 where
  pub nearer : List Element
  pub split : before ≡ nearer ++ token ∷ earlier
  pub time : is_time_token token.kind ≡ true
  pub none : All (λ other. is_time_token other.kind ≡ false) nearer

-- The notes of a chord that a tie directly follows, or all if a tie follows the chord. Each comes with the notes before it in
-- the chord, newest first.
abbrev pub tied_in_chord : Bool → List Note → List (Note × Bool) → List (List Note × Note)
tied_in_chord follows earlier [] = []
tied_in_chord follows earlier (note ∷ later) =
    if follows || note.1 then (earlier, note.0) ∷ tied_in_chord follows (note.0 ∷ earlier) later
    else tied_in_chord follows (note.0 ∷ earlier) later

-- The notes of a token from which a tie leads on; `follows` says whether a tie directly follows the token. Of a chord they are
-- among its first sixteen notes, of a rest there are none.
abbrev pub tied_notes : TokenKind → Bool → List (List Note × Note)
tied_notes (kinds.Note note) follows = if follows then ([], note) ∷ [] else []
tied_notes (kinds.Chord chord) follows = tied_in_chord follows [] (counted_notes chord)
tied_notes _ follows = []

-- A note from which a tie leads on, as it was altered at its own place, of a voice that opened with this state.
abbrev pub altered_note : VoiceState → List Element → List Note × Note → TiedNote
altered_note opening before tied = as_tied tied.1 (alteration_at opening (tied_at opening before) before tied.0 tied.1)

-- The notes from which a tie leads on at a token, each as it was altered at its own place.
abbrev pub tied_after : VoiceState → List Element → Element → List TiedNote
tied_after opening earlier token = map (altered_note opening earlier) (tied_notes token.kind token.tied)
