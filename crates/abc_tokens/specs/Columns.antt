-- Where the tokens of a line lie in it. Not in ABC 2.1.
use Rattle.std.specs.Prelude.{◌≡◌, ◌≢◌, ℕ, ◌+◌, ◌-◌, ◌<◌, ◌≤◌, List, [], ◌∷◌, All, filter, slice_get, if◌then◌else◌, ◌==◌, Option, Some, None}
use Rattle.abc_scan.specs.Byte.{closing_bracket}
use Rattle.abc_scan.specs.declared.chord_part.ChordPartKind.{ChordPartKind}
use Rattle.abc_scan.specs.declared.spanned.Spanned.{Spanned}
use Rattle.abc_scan.specs.declared.token.TokenKind.{TokenKind}
use Rattle.abc_scan.specs.declared.token.TokenKind.TheVariants as kinds
use Rattle.abc_tokens.specs.declared.line_token.LineToken.{LineToken}
use Rattle.abc_tokens.specs.declared.line_token.LineTokenKind.{LineTokenKind}
use Rattle.abc_tokens.specs.declared.line_token.LineTokenKind.TheVariants as of_line

-- A part of a chord lies within the chord, from one place to another.
abbrev pub IsPartWithin : ℕ → ℕ → Spanned ChordPartKind → Type 0
IsPartWithin from to p = (0 < p.from) × (p.from < p.to) × (from + p.to < to)

-- The parts of a chord lie within it.
abbrev pub HasPartsWithin : ℕ → ℕ → TokenKind → Type 0
HasPartsWithin from to (kinds.Chord chord) = All (IsPartWithin from to) chord.parts
HasPartsWithin from to _ = Unit {0}

-- A token of a line has its parts within it.
abbrev pub HoldsParts : Spanned TokenKind → Type 0
HoldsParts t = HasPartsWithin t.from t.to t.kind

-- The tokens that are no parts of chords.
abbrev pub outer_tokens : List LineToken → List LineToken
outer_tokens tokens = filter (λ t. t.depth == 0) tokens

-- Tokens lie end to end from one column to another.
abbrev pub JoinColumns : ℕ → List LineToken → ℕ → Type 0
JoinColumns from [] to = from ≡ to
JoinColumns from (t ∷ ts) to = (t.from ≡ from) × (from ≤ t.to) × JoinColumns t.to ts to

-- A part of a chord, a token of depth 1, lies between two columns.
abbrev pub IsPartBetween : ℕ → ℕ → LineToken → Type 0
IsPartBetween from to t = t.depth ≢ 0 → (t.depth ≡ 1) × (from < t.from) × (t.from < t.to) × (t.to < to)

-- Each part of a chord lies within the last token before it that is no part. Parts at the front lie between these columns.
abbrev pub PartsLieWithin : ℕ → ℕ → List LineToken → Type 0
PartsLieWithin from to [] = Unit {0}
PartsLieWithin from to (t ∷ ts) =
    IsPartBetween from to t
    × PartsLieWithin (if t.depth == 0 then t.from else from) (if t.depth == 0 then t.to else to) ts

-- The column after the `[` of a chord, where its parts begin. No other token has parts. ABC 2.1 section 4.17.
abbrev pub opened_at : LineTokenKind → ℕ → Option ℕ
opened_at of_line.Chord column = Some column
opened_at _ column = None

-- The column at which the parts of a chord go on after a token.
abbrev pub open_after : LineToken → Option ℕ
open_after t = if t.depth == 0 then opened_at t.kind (t.from + 1) else Some t.to

-- The parts of a chord that have come to this column end there, before its `]`.
abbrev pub IsClosed : List ℕ → Option ℕ → Type 0
IsClosed line None = Unit {0}
IsClosed line (Some column) = slice_get line (column - 1) ≡ Some closing_bracket

-- A part begins where its chord has come to. When another token begins, the parts of the chord before it have ended.
abbrev pub FollowsParts : List ℕ → Option ℕ → LineToken → Type 0
FollowsParts line column t = (t.depth ≡ 0 → IsClosed line column) × (t.depth ≢ 0 → column ≡ Some t.from)

-- The parts of each chord of a line lie end to end from its `[` to its `]`.
abbrev pub PartsFill : List ℕ → Option ℕ → List LineToken → Type 0
PartsFill line column [] = IsClosed line column
PartsFill line column (t ∷ ts) = FollowsParts line column t × PartsFill line (open_after t) ts
