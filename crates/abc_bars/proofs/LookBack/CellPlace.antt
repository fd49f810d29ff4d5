-- Which of the items of a cell a token gives: it is after as many as the tokens in front of it give.
use Rattle.std.proofs.Common.{◌≡◌, ◌∙◌, ℕ, suc, ◌+◌, Bool, true, false, List, [], ◌∷◌, ◌++◌, length, take, Some, None, refl, sym, ap, append-nil, append_assoc, add-one, drop}
use Rattle.std.proofs.Common.{length-append}
use Rattle.abc_scan.specs.declared.directive.Directive.TheVariants as directives
use Rattle.abc_scan.specs.declared.spanned.Spanned.{Spanned}
use Rattle.abc_scan.specs.declared.token.TokenKind.{TokenKind}
use Rattle.abc_scan.specs.declared.token.TokenKind.TheVariants as kinds
use Rattle.abc_bars_body.specs.declared.body.Body.{Body}
use Rattle.abc_bars_body.specs.declared.body.Current.{Current}
use Rattle.abc_bars_body.specs.declared.body.Current.TheVariants.{Unnamed, At}
use Rattle.abc_bars_body.specs.declared.cell.CellResult.{CellResult}
use Rattle.abc_bars_notes.specs.declared.broken.Preceding.{Preceding}
use Rattle.abc_bars_notes.specs.declared.broken.Preceding.TheVariants.{Nothing}
use Rattle.abc_fields.specs.declared.key.Key.{Key}
use Rattle.abc_bars_header.specs.declared.defaults.Defaults.{Defaults}
use Rattle.abc_bars_header.specs.HeaderLine.{HeaderLine}
use Rattle.abc_bars_items.specs.declared.item.Item.{Item}
use Rattle.abc_bars_items.specs.declared.item.Item.TheVariants as items
use Rattle.abc_bars_voice.specs.declared.voice_state.VoiceState.{VoiceState}
use Rattle.abc_bars_notes.specs.declared.sound.ChordBuilder.{ChordBuilder}
use Rattle.abc_bars_notes.specs.Broken.{factors_of, preceding_from}
use Rattle.abc_bars_notes.specs.Lasting.{factors_at}
use Rattle.abc_bars_notes.specs.TimeTokens.{chord_by, first_length}
use Rattle.abc_bars_notes.specs.TokenRole.{has_note}
use Rattle.abc_bars_body.specs.Body.{here, after_mention}
use Rattle.abc_bars_body.specs.Cell.{is_tie_token, after_chord_mention, empty_cell_result, tie_ahead, with_kind}
use Rattle.abc_bars_body.specs.Cell.{with_token}
use Rattle.abc_bars.specs.LookBack.CellPlace.{CellPlace, GivesItem, before_place, cell_with, voice_place_at, voice_place_of}
use Rattle.abc_bars.specs.LookBack.Cells.{after_tokens, look_back}
use Rattle.abc_bars.specs.LookBack.Element.{Element}
use Rattle.abc_bars.specs.LookBack.BodyState.{body_at}
use Rattle.abc_bars.specs.LookBack.Place.{opening_at}
use Rattle.abc_bars.specs.LookBack.Voice.{voice_state_at}
use Rattle.abc_bars.proofs.LookBack.BodyState.{here_found}
use Rattle.abc_bars.proofs.LookBack.TokenResults.{items_added, token_items}

-- What is before a token that is no tie, whatever follows it.
pub tie-next : (front ahead : List (Spanned TokenKind)) (token : Spanned TokenKind) → is_tie_token token.kind ≡ false → tie_ahead (front ++ token ∷ ahead) ≡ tie_ahead front
tie-next [] ahead token e = e
tie-next (first ∷ front) ahead token e = refl

-- The items of a cell come after those before it.
pub goes-on : (opening : Body) (before : List Element) (given : CellResult) (cell : List (Spanned TokenKind))
    → (more : List Item) × ((look_back opening before given cell).items.items ≡ given.items.items ++ more)
goes-on opening before given [] = ([], sym (append-nil _))
goes-on opening before given (token ∷ ahead) =
    let start : CellResult = record given { body = body_at opening before } in
    let first : List Item = token_items start.body start.preceding token.from token.kind ahead in
    let rest = goes-on opening (record { kind = token.kind; tied = tie_ahead ahead } ∷ before) (with_token start token ahead) ahead in
    (first ++ rest.0, rest.1 ∙ ap (λ l. l ++ rest.0) (items_added start token.from token.kind ahead) ∙ append_assoc given.items.items first rest.0)

by-chord : (b : Bool) (state other : VoiceState) (place : ℕ) (inside beside : ChordBuilder)
    → length (chord_by b state place inside).items ≡ length (chord_by b other place beside).items
by-chord true state other place inside beside = refl
by-chord false state other place inside beside = refl

-- A token gives the same number of items, whatever is ahead of it and whatever is nearest before it, in equal states.
more-same : (body : Body) (one other : Preceding) (place : ℕ) (kind : TokenKind) (ahead further : List (Spanned TokenKind))
    → length (token_items body one place kind ahead) ≡ length (token_items body other place kind further)
more-same body one other place (kinds.Chord chord) ahead further = by-chord (has_note chord.parts) _ _ place _ _
more-same body one other place (kinds.Ending None) ahead further = refl
more-same body one other place (kinds.Ending (Some passes)) ahead further = refl
more-same body one other place (kinds.Directive (directives.Program written)) ahead further = refl
more-same body one other place (kinds.Directive (directives.Reach reach)) ahead further = refl
more-same body one other place _ ahead further = refl

-- So after it as many items are given as after another that was given as many before.
as-many : (one other : CellResult) (body : Body) (place : ℕ) (kind : TokenKind) (ahead further : List (Spanned TokenKind)) → length one.items.items ≡ length other.items.items
    → length (with_kind (record one { body = body }) place kind ahead).items.items ≡ length (with_kind (record other { body = body }) place kind further).items.items
as-many one other body place kind ahead further same =
    ap length (items_added (record one { body = body }) place kind ahead) ∙ length-append one.items.items _
    ∙ (λ i. same i + more-same body one.preceding other.preceding place kind ahead further i)
    ∙ sym (ap length (items_added (record other { body = body }) place kind further) ∙ length-append other.items.items _)

-- What is before a token that is no tie, whatever follows it, what is nearest before it of what matters to broken
-- rhythm, and how many items were given: as many as where its cell ends before it.
pub split-following : (opening : Body) (before : List Element) (given alone : CellResult) (front ahead : List (Spanned TokenKind)) (token : Spanned TokenKind)
    → is_tie_token token.kind ≡ false → length given.items.items ≡ length alone.items.items
    → (start : CellResult) × (look_back opening before given (front ++ token ∷ ahead) ≡ look_back opening (after_tokens front before) start (token ∷ ahead))
    × (start.preceding ≡ preceding_from given.preceding front)
    × (length start.items.items ≡ length (look_back opening before alone front).items.items)
split-following opening before given alone [] ahead token e same = (given, refl, refl, same)
split-following opening before given alone (first ∷ front) ahead token e same =
    let held : Body = body_at opening before in
    let next : CellResult = with_token (record given { body = held }) first (front ++ token ∷ ahead) in
    let other : CellResult = with_token (record alone { body = held }) first front in
    let follows : Bool = tie_ahead (front ++ token ∷ ahead) in
    let rest = split-following opening (record { kind = first.kind; tied = follows } ∷ before) next other front ahead token e
    (as-many given alone held first.from first.kind (front ++ token ∷ ahead) front same) in (
      rest.0,
      rest.1 ∙ ap (λ b. look_back opening (after_tokens front (record { kind = first.kind; tied = b } ∷ before)) rest.0 (token ∷ ahead)) (tie-next front ahead token e),
      rest.2,
      rest.3 ∙ ap (λ b. length (look_back opening (record { kind = first.kind; tied = b } ∷ before) other front).items.items) (tie-next front ahead token e),
    )

pub take-front : (front rest : List (Spanned TokenKind)) → take (length front) (front ++ rest) ≡ front
take-front [] rest = refl
take-front (first ∷ front) rest = ap (λ l. first ∷ l) (take-front front rest)

drop-following : (front ahead : List (Spanned TokenKind)) (token : Spanned TokenKind) → drop (suc (length front)) (front ++ token ∷ ahead) ≡ ahead
drop-following [] ahead token = refl
drop-following (first ∷ front) ahead token = drop-following front ahead token

pub drop-front : (front ahead : List (Spanned TokenKind)) (token : Spanned TokenKind) → drop (length front + 1) (front ++ token ∷ ahead) ≡ ahead
drop-front front ahead token = rw add-one (drop-following front ahead token)

-- The factors that are read at the place of a token are those of its cell.
pub factors-there : (front ahead : List (Spanned TokenKind)) (token : Spanned TokenKind) (preceding : Preceding) → preceding ≡ preceding_from Nothing front
    → factors_of preceding ahead ≡ factors_at (front ++ token ∷ ahead) (length front)
factors-there front ahead token preceding e = λ i.
    factors_of ((e ∙ ap (preceding_from Nothing) (sym (take-front front (token ∷ ahead)))) i) (sym (drop-front front ahead token) i)

-- The state in the body at a place.
abbrev pub body-at : CellPlace → Body
body-at place = body_at (opening_at place.values place.fields place.key) (before_place place)

after_mention-in : (body : Body) (current : Current) → here (after_mention (record body { current = current })) ≡ here (record body { current = current })
after_mention-in body (Unnamed state) = refl
after_mention-in body (At place) = refl

-- The state of the current voice, whether a token mentions it or not.
module _ (values : Defaults) (fields : List HeaderLine) (key : Key) (before : List Element) where
  pub here_mentioned : here (after_mention (body_at (opening_at values fields key) before))
      ≡ voice_state_at (voice_place_of values fields key before).opening (voice_place_of values fields key before).before
  here_mentioned =
      after_mention-in (body_at (opening_at values fields key) before) (body_at (opening_at values fields key) before).current ∙ here_found values fields key before

  pub here_chord : (b : Bool) → here (after_chord_mention b (body_at (opening_at values fields key) before))
      ≡ voice_state_at (voice_place_of values fields key before).opening (voice_place_of values fields key before).before
  here_chord true = here_mentioned
  here_chord false = here_found values fields key before

pub here-is : (place : CellPlace) → here (after_mention (body-at place)) ≡ voice_state_at (voice_place_at place).opening (voice_place_at place).before
here-is place = here_mentioned place.values place.fields place.key (before_place place)

pub here-in-chord : (place : CellPlace) (b : Bool) → here (after_chord_mention b (body-at place)) ≡ voice_state_at (voice_place_at place).opening (voice_place_at place).before
here-in-chord place b = here_chord place.values place.fields place.key (before_place place) b

pub chord-items : (b : Bool) (state : VoiceState) (place : ℕ) (inside : ChordBuilder) → b ≡ true
    → (chord_by b state place inside).items ≡ items.Tone inside.tones (first_length inside.tones) ∷ []
chord-items true state place inside e = refl
chord-items false state place inside e = cc

module _ (place : CellPlace) (kind : TokenKind) (no_tie : is_tie_token kind ≡ false) (Holds : Item → Type 0)
    (gives : (start : CellResult) → factors_of start.preceding place.ahead ≡ factors_at (cell_with place kind) (length place.front)
    → (item : Item) × ((with_kind (record start { body = body-at place }) place.from kind place.ahead).items.items ≡ start.items.items ++ item ∷ [])
    × Holds item) where
  abbrev opening : Body
  opening = opening_at place.values place.fields place.key

  abbrev token : Spanned TokenKind
  token = record { kind = kind; from = place.from; to = place.to }

  -- A token that gives an item wherever it is in its cell gives it after what the tokens in front of it give.
  pub between : GivesItem place kind Holds
  between =
      let none : CellResult = empty_cell_result opening in
      let split = split-following opening place.before none none place.front place.ahead token no_tie refl in
      let last = split-following opening place.before none none place.front [] token no_tie refl in
      let start : CellResult = split.0 in
      let g = gives start (factors-there place.front place.ahead token start.preceding split.2) in
      let rest = goes-on opening (record { kind = kind; tied = tie_ahead place.ahead } ∷ before_place place)
      (with_token (record start { body = body-at place }) token place.ahead) place.ahead in (
        g.0,
        record {
          others = start.items.items;
          more = rest.0;
          split = ap (λ (given : CellResult). given.items.items) split.1 ∙ rest.1 ∙ ap (λ l. l ++ rest.0) g.1 ∙ append_assoc start.items.items (g.0 ∷ []) rest.0;
          following = split.3;
          one =
              ap (λ (given : CellResult). length given.items.items) last.1
              ∙ as-many last.0 start (body-at place) place.from kind [] place.ahead (last.3 ∙ sym split.3)
              ∙ ap length g.1 ∙ length-append start.items.items (g.0 ∷ []) ∙ ap (λ n. n + 1) split.3;
          none = refl;
        },
        g.2,
      )
