-- Broken rhythm apart from how it is read: which marks of a cell act, and on what. ABC 2.1 section 4.4.
use Rattle.std.specs.Prelude.{◌≡◌, ◌<◌, ◌↔◌, ℕ, ◌+◌, Bool, true, false, List, ◌++◌, take, drop, slice_get, IsSomeAnd, Option, Some}
use Rattle.std.specs.Prelude.{option_map, option_to_list}
use Rattle.abc_scan.specs.declared.broken.BrokenRhythm.{BrokenRhythm}
use Rattle.abc_scan.specs.declared.spanned.Spanned.{Spanned}
use Rattle.abc_scan.specs.declared.token.TokenKind.{TokenKind}
use Rattle.abc_scan.specs.declared.token.TokenKind.TheVariants as kinds
use Rattle.abc_time.specs.declared.ratio.Ratio.{Ratio}
use Rattle.abc_bars_notes.specs.declared.broken.Preceding.{Preceding}
use Rattle.abc_bars_notes.specs.declared.broken.Preceding.TheVariants as precedings
use Rattle.abc_bars_notes.specs.Broken.{is_time_token, preceding_from, first_factor, second_factor, factors_of, is_bad_mark}
use Rattle.abc_bars_notes.specs.TokenRole.{hinders_marks, token_role}

-- Whether no mark reaches over a token.
abbrev pub hinders : TokenKind → Bool
hinders kind = hinders_marks (token_role kind)

-- A time token is at a place of a cell.
abbrev pub IsTimeAt : List (Spanned TokenKind) → ℕ → Type 0
IsTimeAt cell place = IsSomeAnd (slice_get cell place) (λ token. is_time_token token.kind ≡ true)

-- This mark is at a place of a cell.
abbrev pub IsMarkAt : List (Spanned TokenKind) → ℕ → BrokenRhythm → Type 0
IsMarkAt cell place mark = IsSomeAnd (slice_get cell place) (λ token. token.kind ≡ kinds.Broken mark)

-- At a place of a cell is neither a time token nor anything that hinders.
abbrev pub IsFreeAt : List (Spanned TokenKind) → ℕ → Type 0
IsFreeAt cell place =
    IsSomeAnd (slice_get cell place) (λ token. (is_time_token token.kind ≡ false) × (hinders token.kind ≡ false))

-- Between two places of a cell is neither a time token nor anything that hinders.
abbrev pub AreFreeBetween : List (Spanned TokenKind) → ℕ → ℕ → Type 0
AreFreeBetween cell low high = (k : ℕ) → low < k → k < high → IsFreeAt cell k

-- A mark acts on the last time token before it and on the next one after it in its cell, if nothing
-- that hinders is between. Not in ABC 2.1.
pub record IsActing (cell : List (Spanned TokenKind)) (mark : BrokenRhythm) (first place second : ℕ) : Type 0 where
  pub mark_is : IsMarkAt cell place mark
  pub first_is : IsTimeAt cell first
  pub second_is : IsTimeAt cell second
  pub before : first < place
  pub following : place < second
  pub free_before : AreFreeBetween cell first place
  pub free_after : AreFreeBetween cell place second

-- A mark at a place acts on some two time tokens.
pub record Acts (cell : List (Spanned TokenKind)) (mark : BrokenRhythm) (place : ℕ) : Type 0 where
  pub first : ℕ
  pub second : ℕ
  pub acting : IsActing cell mark first place second

-- A mark acts on the time token at a place as the second of the two.
pub record ActsBefore (cell : List (Spanned TokenKind)) (mark : BrokenRhythm) (second : ℕ) : Type 0 where
  pub first : ℕ
  pub place : ℕ
  pub acting : IsActing cell mark first place second

-- A mark acts on the time token at a place as the first of the two.
pub record ActsAfter (cell : List (Spanned TokenKind)) (mark : BrokenRhythm) (first : ℕ) : Type 0 where
  pub place : ℕ
  pub second : ℕ
  pub acting : IsActing cell mark first place second

-- The factors of the time token at a place. The first is that of the mark that acts on it and the time token before it; the
-- second that of the mark that acts on it and the next one. Each may be missing.
pub record AreFactors (cell : List (Spanned TokenKind)) (place : ℕ) (factors : List Ratio) : Type 0 where
  pub before : Option BrokenRhythm
  pub following : Option BrokenRhythm
  pub before_is : (mark : BrokenRhythm) → (before ≡ Some mark) ↔ ActsBefore cell mark place
  pub after_is : (mark : BrokenRhythm) → (following ≡ Some mark) ↔ ActsAfter cell mark place
  pub factors_are : factors ≡ option_to_list (option_map second_factor before) ++ option_to_list (option_map first_factor following)

-- What is nearest before a place of a cell, of what matters.
abbrev pub preceding_at : List (Spanned TokenKind) → ℕ → Preceding
preceding_at cell place = preceding_from precedings.Nothing (take place cell)

-- A mark at any place of any cell is good if it acts.
abbrev pub ActsAsRead : Type 0
ActsAsRead = (cell : List (Spanned TokenKind)) (place : ℕ) (mark : BrokenRhythm) → IsMarkAt cell place mark
    → (is_bad_mark (preceding_at cell place) (drop (place + 1) cell) ≡ false) ↔ Acts cell mark place

-- A time token at any place of any cell has the factors that are read.
abbrev pub GivesFactorsAsRead : Type 0
GivesFactorsAsRead = (cell : List (Spanned TokenKind)) (place : ℕ) → IsTimeAt cell place
    → AreFactors cell place (factors_of (preceding_at cell place) (drop (place + 1) cell))
