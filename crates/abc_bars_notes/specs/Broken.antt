-- Broken rhythm. ABC 2.1 section 4.4.
use Rattle.std.specs.Prelude.{ℕ, ◌-◌, ◌*◌, ◌^◌, min, Bool, true, false, not, ◌&&◌, if◌then◌else◌, List, [], ◌∷◌, ◌++◌, Option, Some}
use Rattle.std.specs.Prelude.{None, option_map, option_to_list}
use Rattle.abc_scan.specs.declared.broken.BrokenRhythm.{BrokenRhythm}
use Rattle.abc_scan.specs.declared.broken.Direction.{Direction}
use Rattle.abc_scan.specs.declared.broken.Direction.TheVariants.{Right, Left}
use Rattle.abc_scan.specs.declared.spanned.Spanned.{Spanned}
use Rattle.abc_scan.specs.declared.token.TokenKind.{TokenKind}
use Rattle.abc_time.specs.declared.ratio.Ratio.{Ratio}
use Rattle.abc_bars_notes.specs.declared.broken.Preceding.{Preceding}
use Rattle.abc_bars_notes.specs.declared.broken.Preceding.TheVariants as precedings
use Rattle.abc_bars_notes.specs.declared.broken.BrokenRole.{BrokenRole}
use Rattle.abc_bars_notes.specs.declared.broken.BrokenRole.TheVariants as roles
use Rattle.abc_bars_notes.specs.declared.broken.TheConstants.{MOST_MARKS}
use Rattle.abc_bars_notes.specs.declared.role.TokenRole.{TokenRole}
use Rattle.abc_bars_notes.specs.declared.role.TokenRole.TheVariants as tokens
use Rattle.abc_bars_notes.specs.TokenRole.{takes_time, token_role}

-- What broken rhythm sees of a token. A chord without notes is as if it were not there. Not in ABC 2.1.
abbrev pub broken_role : TokenRole → BrokenRole
broken_role (tokens.Sound noted) = if noted then roles.Time else roles.Silent
broken_role tokens.Rest = roles.Time
broken_role (tokens.Mark mark) = roles.Mark mark
broken_role tokens.Barrier = roles.Hindrance
broken_role _ = roles.Silent

abbrev pub role_of : TokenKind → BrokenRole
role_of kind = broken_role (token_role kind)

-- Whether a token is a time token.
abbrev pub is_time_token : TokenKind → Bool
is_time_token kind = takes_time (token_role kind)

-- After a time token a mark may act, after anything else it does not.
abbrev pub preceding_after_mark : Preceding → BrokenRhythm → Preceding
preceding_after_mark precedings.TimeToken mark = precedings.Mark mark
preceding_after_mark _ mark = precedings.Nothing

-- What is nearest, of what matters, after one token more of this role.
abbrev pub preceding_by : Preceding → BrokenRole → Preceding
preceding_by preceding roles.Time = precedings.TimeToken
preceding_by preceding (roles.Mark mark) = preceding_after_mark preceding mark
preceding_by preceding roles.Hindrance = precedings.Nothing
preceding_by preceding roles.Silent = preceding

-- What is nearest, of what matters, after one token more.
abbrev pub preceding_after : Preceding → TokenKind → Preceding
preceding_after preceding kind = preceding_by preceding (role_of kind)

-- What is nearest before the place after some tokens.
abbrev pub preceding_from : Preceding → List (Spanned TokenKind) → Preceding
preceding_from preceding [] = preceding
preceding_from preceding (token ∷ rest) = preceding_from (preceding_after preceding token.kind) rest

-- Whether a token is a time token, or has no role and this holds of those after it.
abbrev pub time_or : BrokenRole → Bool → Bool
time_or roles.Time later = true
time_or roles.Silent later = later
time_or _ later = false

-- Whether a time token comes first of what matters.
abbrev pub time_follows : List (Spanned TokenKind) → Bool
time_follows [] = false
time_follows (token ∷ rest) = time_or (role_of token.kind) (time_follows rest)

-- The mark that a token is, if a time token follows, or if it has no role that of the tokens after it.
abbrev pub mark_or : BrokenRole → Bool → Option BrokenRhythm → Option BrokenRhythm
mark_or (roles.Mark mark) follows later = if follows then Some mark else None
mark_or roles.Silent follows later = later
mark_or _ follows later = None

-- The mark that comes first of what matters, if a time token follows it.
abbrev pub mark_ahead : List (Spanned TokenKind) → Option BrokenRhythm
mark_ahead [] = None
mark_ahead (token ∷ rest) = mark_or (role_of token.kind) (time_follows rest) (mark_ahead rest)

-- The mark that a place is after, which had a time token before it.
abbrev pub mark_before : Preceding → Option BrokenRhythm
mark_before (precedings.Mark mark) = Some mark
mark_before _ = None

-- Into how many parts marks cut a note: two to the number of marks; more than three, which no text has, count as three.
abbrev pub parts_of : BrokenRhythm → ℕ
parts_of mark = 2 ^ min mark.marks MOST_MARKS

-- What k marks make of the shorter one: 1/2^k.
abbrev pub shorter_ratio : BrokenRhythm → Ratio
shorter_ratio mark = record { num = 1; den = parts_of mark }

-- What k marks make of the longer one: 2 - 1/2^k.
abbrev pub longer_ratio : BrokenRhythm → Ratio
longer_ratio mark = record { num = 2 * parts_of mark - 1; den = parts_of mark }

-- What marks of this direction multiply the time token before them by.
abbrev pub first_by : Direction → BrokenRhythm → Ratio
first_by Right mark = longer_ratio mark
first_by Left mark = shorter_ratio mark

-- What marks of this direction multiply the time token after them by.
abbrev pub second_by : Direction → BrokenRhythm → Ratio
second_by Right mark = shorter_ratio mark
second_by Left mark = longer_ratio mark

-- What a mark multiplies the time token before it by.
abbrev pub first_factor : BrokenRhythm → Ratio
first_factor mark = first_by mark.direction mark

-- What a mark multiplies the time token after it by.
abbrev pub second_factor : BrokenRhythm → Ratio
second_factor mark = second_by mark.direction mark

-- What the marks around a time token multiply it by: the mark before it, and the one that comes
-- next, with these tokens after it.
abbrev pub factors_of : Preceding → List (Spanned TokenKind) → List Ratio
factors_of preceding ahead =
    option_to_list (option_map second_factor (mark_before preceding)) ++ option_to_list (option_map first_factor (mark_ahead ahead))

-- Whether the last of what matters is a time token.
abbrev pub is_after_time : Preceding → Bool
is_after_time precedings.TimeToken = true
is_after_time _ = false

-- Whether a mark has no two time tokens to act on. Not in ABC 2.1.
abbrev pub is_bad_mark : Preceding → List (Spanned TokenKind) → Bool
is_bad_mark preceding ahead = not (is_after_time preceding && time_follows ahead)
