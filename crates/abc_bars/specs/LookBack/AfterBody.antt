-- The state in a tune's body after one element more.
use Rattle.std.specs.Prelude.{Bool, true, false, Option, Some, None}
use Rattle.abc_scan.specs.declared.field.Field.{Field}
use Rattle.abc_scan.specs.declared.token.TokenKind.{TokenKind}
use Rattle.abc_scan.specs.declared.token.TokenKind.TheVariants as kinds
use Rattle.abc_bars_body.specs.declared.body.Body.{Body}
use Rattle.abc_bars_notes.specs.TokenRole.{has_note}
use Rattle.abc_bars_body.specs.Body.{here, after_mention, with_here}
use Rattle.abc_bars_body.specs.BodyFields.{field_result}
use Rattle.abc_bars.specs.LookBack.After.{after}
use Rattle.abc_bars.specs.LookBack.Element.{Element, field_of}

-- Whether a token mentions its voice: a note, a chord that is not empty, a rest or a rest of bars. Not in ABC 2.1.
abbrev pub mentions : TokenKind → Bool
mentions (kinds.Note note) = true
mentions (kinds.Rest length) = true
mentions (kinds.BarRest bars) = true
mentions (kinds.Chord chord) = has_note chord.parts
mentions _ = false

-- The current voice is mentioned, if a token mentions it.
abbrev pub mentioned_if : Bool → Body → Body
mentioned_if true body = after_mention body
mentioned_if false body = body

-- After a token that is no field, which is the current voice's.
abbrev pub after_sound : Body → Element → Body
after_sound body element =
    let body = mentioned_if (mentions element.kind) body in
    with_here body (after (here body) element)

-- After a token that is this field or none.
abbrev pub after_token : Body → Element → Option Field → Body
after_token body element (Some field) = (field_result body field.letter field.value 0).body
after_token body element None = after_sound body element

-- After one element more. The place of a field changes nothing of what it leaves.
abbrev pub body_after : Body → Element → Body
body_after body element = after_token body element (field_of element.kind)
