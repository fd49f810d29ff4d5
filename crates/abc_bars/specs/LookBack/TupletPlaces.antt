-- The tuplet of a place of a voice, by the last accepted mark before it and the time tokens between. ABC 2.1 section 4.13; the
-- bounds, q of p that is not from 2 to 9, and that bars do not end a tuplet are not in ABC 2.1.
use Rattle.std.specs.Prelude.{◌≡◌, ◌≢◌, ◌<◌, ◌≤◌, ◌⊎◌, ℕ, ◌+◌, Bool, true, false, List, ◌∷◌, ◌++◌, length, filter, All, Option}
use Rattle.std.specs.Prelude.{Some, None}
use Rattle.abc_fields.specs.declared.meter.Meter.{Meter}
use Rattle.abc_fields.specs.declared.meter.Meter.TheVariants.{Free, Of}
use Rattle.abc_scan.specs.declared.token.TokenKind.{TokenKind}
use Rattle.abc_scan.specs.declared.token.TokenKind.TheVariants as kinds
use Rattle.abc_scan.specs.declared.tuplet.Tuplet.{Tuplet}
use Rattle.abc_bars_notes.specs.TokenRole.{has_note}
use Rattle.abc_bars_voice.specs.declared.voice_state.VoiceState.{VoiceState}
use Rattle.abc_bars_voice.specs.Tuplet.{IsTupletNumber, OpenTuplet}
use Rattle.abc_bars.specs.LookBack.Element.{Element}
use Rattle.abc_bars.specs.LookBack.Voice.{meter_at, voice_state_at}

-- Whether a token is a time token: a note, a rest, or a chord with a note.
abbrev pub is_time : TokenKind → Bool
is_time (kinds.Note note) = true
is_time (kinds.Rest length) = true
is_time (kinds.Chord chord) = has_note chord.parts
is_time _ = false

-- The number of time tokens among tokens.
abbrev pub time_count : List Element → ℕ
time_count tokens = length (filter (λ token. is_time token.kind) tokens)

-- A mark's numbers are from 1 to 64, as far as they are written.
pub record IsAccepted (mark : Tuplet) : Type 0 where
  pub p_is : IsTupletNumber mark.p
  pub q_is : (q : ℕ) → mark.q ≡ Some q → IsTupletNumber q
  pub r_is : (r : ℕ) → mark.r ≡ Some r → IsTupletNumber r

-- A token is an accepted tuplet mark.
abbrev pub IsAcceptedMark : TokenKind → Type 0
IsAcceptedMark (kinds.Tuplet mark) = IsAccepted mark
IsAcceptedMark _ = ⊥

-- The meters 6/8, 9/8 and 12/8.
abbrev pub IsCompound : Meter → Type 0
IsCompound Free = ⊥
IsCompound (Of num den) = (den ≡ 8) × ((num ≡ 6) ⊎ ((num ≡ 9) ⊎ (num ≡ 12)))

-- q of a mark that does not write it.
pub record IsUsualTime (meter : Meter) (p q : ℕ) : Type 0 where
  pub three : (p ≡ 2) ⊎ ((p ≡ 4) ⊎ (p ≡ 8)) → q ≡ 3
  pub two : (p ≡ 3) ⊎ (p ≡ 6) → q ≡ 2
  pub compound : p ≢ 2 → p ≢ 3 → p ≢ 4 → p ≢ 6 → p ≢ 8 → IsCompound meter → q ≡ 3
  pub simple : p ≢ 2 → p ≢ 3 → p ≢ 4 → p ≢ 6 → p ≢ 8 → ¬ IsCompound meter → q ≡ 2

-- q of a mark in a meter.
abbrev pub IsTimeOf : Meter → ℕ → Option ℕ → ℕ → Type 0
IsTimeOf meter p (Some written) q = q ≡ written
IsTimeOf meter p None q = IsUsualTime meter p q

-- r of a mark: p, if it is not written.
abbrev pub IsSizeOf : ℕ → Option ℕ → ℕ → Type 0
IsSizeOf p (Some written) r = r ≡ written
IsSizeOf p None r = r ≡ p

-- The last accepted mark before a place of a voice, with its numbers q and r, and the tokens since, newest first.
pub record IsLastMark (opening : Meter) (before : List Element) (mark : Tuplet) (q r : ℕ) (since : List Element) : Type 0 where
  pub tied : Bool
  pub earlier : List Element
  pub split : before ≡ since ++ record { kind = kinds.Tuplet mark; tied = tied } ∷ earlier
  pub accepted : IsAccepted mark
  pub q_is : IsTimeOf (meter_at opening earlier) mark.p mark.q q
  pub r_is : IsSizeOf mark.p mark.r r
  pub none : All (λ token. ¬ IsAcceptedMark token.kind) since

-- The next time token of a voice is in the tuplet of a mark, with `left` left: fewer than r come between.
pub record IsInTuplet (opening : Meter) (before : List Element) (tuplet : OpenTuplet) : Type 0 where
  pub mark : Tuplet
  pub r : ℕ
  pub since : List Element
  pub last : IsLastMark opening before mark tuplet.q r since
  pub p_is : tuplet.p ≡ mark.p
  pub fewer : time_count since < r
  pub left : tuplet.left + time_count since ≡ r

-- The tuplet of a mark is over at a place: r time tokens come between, or more.
pub record IsPastTuplet (opening : Meter) (before : List Element) : Type 0 where
  pub mark : Tuplet
  pub q : ℕ
  pub r : ℕ
  pub since : List Element
  pub last : IsLastMark opening before mark q r since
  pub enough : r ≤ time_count since

-- The tuplet of a place of a voice, if it is in one.
pub data IsTupletAt (opening : Meter) (before : List Element) (tuplet : Option OpenTuplet) : Type 0 where
  inside : (this : OpenTuplet) → IsInTuplet opening before this → tuplet ≡ Some this → IsTupletAt opening before tuplet
  past : IsPastTuplet opening before → tuplet ≡ None → IsTupletAt opening before tuplet
  no_mark : All (λ token. ¬ IsAcceptedMark token.kind) before → tuplet ≡ None → IsTupletAt opening before tuplet

-- So it is at each place of a voice.
abbrev pub TupletsByMarks : Type 0
TupletsByMarks =
    (opening : VoiceState) (before : List Element) → IsTupletAt opening.meter before (voice_state_at opening before).tuplet
