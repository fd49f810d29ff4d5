-- What tokens are to their voice: what takes time, what ties see, and what marks of broken rhythm see, follow from it.
use Rattle.std.specs.Prelude.{Bool, true, false, List}
use Rattle.std.specs.List.{list_any}
use Rattle.abc_scan.specs.declared.chord_part.ChordPartKind.{ChordPartKind}
use Rattle.abc_scan.specs.declared.chord_part.ChordPartKind.TheVariants as parts
use Rattle.abc_scan.specs.declared.spanned.Spanned.{Spanned}
use Rattle.abc_scan.specs.declared.token.TokenKind.{TokenKind}
use Rattle.abc_scan.specs.declared.token.TokenKind.TheVariants as kinds
use Rattle.abc_bars_notes.specs.declared.role.TokenRole.{TokenRole}
use Rattle.abc_bars_notes.specs.declared.role.TokenRole.TheVariants as roles

-- Whether a part of a chord is a note.
abbrev pub is_note_part : ChordPartKind → Bool
is_note_part (parts.Note note) = true
is_note_part _ = false

-- Whether a chord has a note.
abbrev pub has_note : List (Spanned ChordPartKind) → Bool
has_note inside = list_any (λ part. is_note_part part.kind) inside

-- What a token is to its voice.
abbrev pub token_role : TokenKind → TokenRole
token_role (kinds.Note note) = roles.Sound true
token_role (kinds.Chord chord) = roles.Sound (has_note chord.parts)
token_role (kinds.Rest length) = roles.Rest
token_role (kinds.Broken mark) = roles.Mark mark
token_role kinds.Tie = roles.Tie
token_role (kinds.BarRest bars) = roles.Barrier
token_role (kinds.InlineField field) = roles.Barrier
token_role (kinds.Field field) = roles.Barrier
token_role _ = roles.Other

-- Whether it is a time token: a note, a rest, or a chord with a note. Not in ABC 2.1.
abbrev pub takes_time : TokenRole → Bool
takes_time (roles.Sound noted) = noted
takes_time roles.Rest = true
takes_time _ = false

-- Whether no mark of broken rhythm reaches over it: a field, a bar rest, another mark. Not in ABC 2.1.
abbrev pub hinders_marks : TokenRole → Bool
hinders_marks (roles.Mark mark) = true
hinders_marks roles.Barrier = true
hinders_marks _ = false

-- Whether it is a tie. ABC 2.1 section 4.11.
abbrev pub is_tie_role : TokenRole → Bool
is_tie_role roles.Tie = true
is_tie_role _ = false

-- Whether a tie may be directly after it: after a note or a chord, even one without notes. Not in ABC 2.1.
abbrev pub is_tieable : TokenRole → Bool
is_tieable (roles.Sound noted) = true
is_tieable _ = false
