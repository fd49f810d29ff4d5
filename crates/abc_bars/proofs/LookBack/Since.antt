-- The notes whose accidentals can be heard are those since the last token that ends accidentals.
use Rattle.std.proofs.Common.{◌≡◌, ◌∙◌, ℕ, Bool, List, [], ◌∷◌, ◌++◌, Option, Some, None, is_some, refl, sym, ap, append_assoc, inl, inr}
use Rattle.std.specs.Prelude.{◌⊎◌}
use Rattle.std.proofs.lemmas.List.Elements.{All-cons, All-nil}
use Rattle.abc_bars_header.specs.declared.field_kind.FieldKind.{FieldKind}
use Rattle.abc_bars_header.specs.declared.field_kind.FieldKind.TheVariants as fields
use Rattle.abc_bars_header.specs.FieldKind.{kind_of}
use Rattle.abc_scan.specs.declared.field.Field.{Field}
use Rattle.abc_scan.specs.declared.note.Note.{Note}
use Rattle.abc_scan.specs.declared.token.TokenKind.{TokenKind}
use Rattle.abc_scan.specs.declared.token.TokenKind.TheVariants as kinds
use Rattle.abc_bars_body.specs.BodyFields.{part_of}
use Rattle.abc_bars.specs.LookBack.Element.{Element}
use Rattle.abc_bars.specs.LookBack.Since.{EndsAccidentals, FieldEndsAccidentals, IsEnded, IsSince, newest_first, notes_in, notes_of_tokens}
use Rattle.abc_bars.specs.LookBack.Voice.{counted_notes, ends_accidentals, notes_after, notes_of_bar, put_before, unless_ended}
use Rattle.abc_bars.proofs.LookBack.Fields.{begins-part, part-of}

-- A token ends accidentals and no earlier note is heard after it, or it adds its notes to those before it.
data After (Ends : Type 0) (notes own following : List Note) : Type 0 where
  ended : Ends → following ≡ [] → After Ends notes own following
  added : ¬ Ends → following ≡ own ++ notes → After Ends notes own following

part-after : (field : Field) (notes : List Note) (o : Option ℕ) → kind_of field.letter ≡ fields.Parts → part_of field.value ≡ o
    → After (FieldEndsAccidentals field) notes [] (unless_ended (is_some o) notes)
part-after field notes (Some letter) is e = ended (inr (begins-part field letter is e)) refl
part-after field notes None is e =
    added (λ ends. elim ends as (λ _. ⊥) [
      | inl key ↦ (let no : fields.Key ≡ fields.Parts = sym key ∙ is in absurd (cc))
      | inr part ↦ (let no : None ≡ Some part.letter = sym e ∙ part-of field part in absurd (cc))
    ]) refl

-- A field of another kind ends none.
other-ends : (field : Field) (kind : FieldKind) → kind_of field.letter ≡ kind → ¬ (kind ≡ fields.Key) → ¬ (kind ≡ fields.Parts) → ¬ FieldEndsAccidentals field
other-ends field kind is no_key no_part ends = elim ends as (λ _. ⊥) [
  | inl key ↦ no_key (sym is ∙ key)
  | inr part ↦ no_part (sym is ∙ part.kind)
]

field-after : (field : Field) (notes : List Note) (kind : FieldKind) → kind_of field.letter ≡ kind
    → After (FieldEndsAccidentals field) notes [] (unless_ended (ends_accidentals kind field.value) notes)
field-after field notes fields.Key is = ended (inl is) refl
field-after field notes fields.Parts is = part-after field notes (part_of field.value) is refl
field-after field notes kind is = added (other-ends field kind is (λ e. absurd (cc)) (λ e. absurd (cc))) refl

put-newest : (chord : List (Note × Bool)) (notes : List Note) → put_before chord notes ≡ newest_first chord ++ notes
put-newest [] notes = refl
put-newest (note ∷ later) notes = put-newest later (note.0 ∷ notes) ∙ sym (append_assoc (newest_first later) (note.0 ∷ []) notes)

token-after : (kind : TokenKind) (notes : List Note) → After (EndsAccidentals kind) notes (notes_in kind) (notes_after notes kind)
token-after (kinds.Note note) notes = added (λ ends. ends) refl
token-after (kinds.Chord chord) notes = added (λ ends. ends) (put-newest (counted_notes chord) notes)
token-after (kinds.Bar bar) notes = ended tt refl
token-after (kinds.Field field) notes = field-after field notes (kind_of field.letter) refl
token-after (kinds.InlineField field) notes = field-after field notes (kind_of field.letter) refl
token-after _ notes = added (λ ends. ends) refl

-- The tokens since the last one that ends accidentals, and that their notes are those that can be heard.
pub record Heard (before : List Element) : Type 0 where
  pub since : List Element
  pub since_is : IsSince before since
  pub notes : notes_of_bar before ≡ notes_of_tokens since

-- No token ends accidentals.
abbrev GoesOn : Element → Type 0
GoesOn token = ¬ EndsAccidentals token.kind

more-whole : (token : Element) (before since : List Element) → (before ≡ since) ⊎ IsEnded before since
    → (token ∷ before ≡ token ∷ since) ⊎ IsEnded (token ∷ before) (token ∷ since)
more-whole token before since (inl all) = inl (ap (λ l. token ∷ l) all)
more-whole token before since (inr end) =
    inr (record { token = end.token; earlier = end.earlier; split = ap (λ l. token ∷ l) end.split; ends = end.ends })

one-more : (token : Element) (before : List Element) → Heard before
    → After (EndsAccidentals token.kind) (notes_of_bar before) (notes_in token.kind) (notes_after (notes_of_bar before) token.kind)
    → Heard (token ∷ before)
one-more token before heard (ended ends none) = record {
  since = [];
  since_is = record { none = All-nil GoesOn; whole = inr (record { token = token; earlier = before; split = refl; ends = ends }) };
  notes = none;
}
one-more token before heard (added goes more) = record {
  since = token ∷ heard.since;
  since_is = record {
    none = All-cons GoesOn token heard.since goes heard.since_is.none;
    whole = more-whole token before heard.since heard.since_is.whole;
  };
  notes = more ∙ ap (λ l. notes_in token.kind ++ l) heard.notes;
}

pub heard-since : (before : List Element) → Heard before
heard-since [] = record { since = []; since_is = record { none = All-nil GoesOn; whole = inl refl }; notes = refl }
heard-since (token ∷ before) = one-more token before (heard-since before) (token-after token.kind (notes_of_bar before))
