-- Tokens mention voices one by one.
use Rattle.std.proofs.Common.{◌≡◌, ◌∙◌, ℕ, ◌≤◌, true, false, cond, ◌||◌, ◌⊎◌, ⊎_elim, position, Option, Some, None, Result, Ok, Err, List, [], ◌∷◌, length, bytes_eq, refl, sym, ap, subst}
use Rattle.std.specs.Prelude.{filter, slice_range}
use Rattle.std.specs.List.{Contains}
use Rattle.abc_fields.specs.declared.fault_code.FaultCode.{FaultCode}
use Rattle.abc_fields.specs.declared.voice.Voice.{Voice}
use Rattle.abc_fields.specs.Voice.{voice_of}
use Rattle.abc_scan.specs.declared.field.Field.{Field}
use Rattle.abc_scan.specs.declared.chord_part.ChordPartKind.{ChordPartKind}
use Rattle.abc_scan.specs.declared.spanned.Spanned.{Spanned}
use Rattle.abc_scan.specs.declared.token.TokenKind.{TokenKind}
use Rattle.abc_scan.specs.declared.token.TokenKind.TheVariants as kinds
use Rattle.abc_bars_header.specs.FieldKind.{kind_of}
use Rattle.abc_bars_header.specs.declared.field_kind.FieldKind.{FieldKind}
use Rattle.abc_bars_header.specs.declared.field_kind.FieldKind.TheVariants as fields
use Rattle.abc_bars_notes.specs.TokenRole.{has_note, is_note_part}
use Rattle.abc_bars_body.specs.BodyFields.{part_of}
use Rattle.abc_bars.specs.LookBack.AfterBody.{mentions}
use Rattle.abc_bars.specs.LookBack.ByName.{Current, NamedVoices, names_following, naming_at, owner_of, owner_of_field, owner_of_part, owner_of_voice}
use Rattle.abc_bars.specs.LookBack.Header.{with_name}
use Rattle.abc_bars.specs.LookBack.Mentions.{Mentions, MentionsVoice, TokensMention, mentioned_at}
use Rattle.abc_bars.specs.LookBack.Fields.{IsVoiceField, NamesVoice}
use Rattle.abc_bars.proofs.LookBack.Fields.{names-voice, voice-owner}
use Rattle.abc_bars.specs.LookBack.Place.{opening_at}
use Rattle.abc_bars.proofs.LookBack.BodyState.{IsCurrent, voice_list_of-found, naming_there, of_none, of_place}
use Rattle.abc_bars.proofs.Names.{list_any-at, list_any-finds, with_name-full, list_any-missing, with_name-known, with_name-new}

-- A name that is known, or one too many, adds none.
more-again : (names : List (List ℕ)) (name : List ℕ) → Contains names name ⊎ (15 ≤ length names) → with_name names name ≡ names
more-again names name h = ⊎_elim (λ has. with_name-known names name (list_any-finds name names has)) (λ full. with_name-full names name full) h

-- The current voice is heard: it is one of those that are mentioned, or there is none, and it is the one without a name.
heard-first : (naming : NamedVoices) → IsCurrent naming → naming.names ≡ [] → with_name naming.names naming.current ≡ [] ∷ []
heard-first naming (of_none is) none = λ i. with_name (is i).names (is i).current
heard-first naming (of_place at is) none = let e : None ≡ Some at = ap (position (bytes_eq naming.current)) (sym none) ∙ is in absurd (cc)

heard-again : (naming : NamedVoices) → IsCurrent naming → ¬ (naming.names ≡ []) → with_name naming.names naming.current ≡ naming.names
heard-again naming (of_none is) some = absurd (some (ap (λ (n : NamedVoices). n.names) is))
heard-again naming (of_place at is) some = with_name-known naming.names naming.current (list_any-at naming.current naming.names at is)

-- What is heard is of the current voice, and mentions it.
pub heard-chord : (inside : List (Spanned ChordPartKind)) → ¬ (filter (λ part. is_note_part part.kind) inside ≡ []) → has_note inside ≡ true
heard-chord [] some = absurd (some refl)
heard-chord (part ∷ inside) some =
    elim (is_note_part part.kind) as (λ b. ¬ (cond b (part ∷ filter (λ p. is_note_part p.kind) inside) (filter (λ p. is_note_part p.kind) inside) ≡ []) → (b || has_note inside) ≡ true) [
      | true ↦ λ h. refl
      | false ↦ λ h. heard-chord inside h
    ] some

pub silent-chord : (inside : List (Spanned ChordPartKind)) → ¬ (¬ (filter (λ part. is_note_part part.kind) inside ≡ [])) → has_note inside ≡ false
silent-chord [] none = refl
silent-chord (part ∷ inside) none =
    elim (is_note_part part.kind) as (λ b. ¬ (¬ (cond b (part ∷ filter (λ p. is_note_part p.kind) inside) (filter (λ p. is_note_part p.kind) inside) ≡ [])) → (b || has_note inside) ≡ false) [
      | true ↦ λ h. absurd (h (λ e. cc))
      | false ↦ λ h. silent-chord inside h
    ] none

heard-current : (kind : TokenKind) → MentionsVoice kind → (owner_of kind ≡ Current) × (mentions kind ≡ true)
heard-current (kinds.Note note) h = (refl, refl)
heard-current (kinds.Rest length) h = (refl, refl)
heard-current (kinds.BarRest bars) h = (refl, refl)
heard-current (kinds.Chord chord) h = (refl, heard-chord chord.parts h)
heard-current _ h = absurd h

-- Other tokens mention no voice.
part-keeps : (naming : NamedVoices) (part : Option ℕ) → names_following naming (owner_of_part part) false ≡ naming.names
part-keeps naming None = refl
part-keeps naming (Some letter) = refl

voice-keeps : (naming : NamedVoices) (value : List ℕ) (r : Result Voice FaultCode) → ((voice : Voice) → r ≡ Ok voice → ⊥) → names_following naming (owner_of_voice value r) false ≡ naming.names
voice-keeps naming value (Ok voice) none = absurd (none voice refl)
voice-keeps naming value (Err fault) none = refl

field-keeps : (naming : NamedVoices) (kind : FieldKind) (value : List ℕ) → ((voice : Voice) → kind ≡ fields.Voice → voice_of value ≡ Ok voice → ⊥)
    → names_following naming (owner_of_field kind value) false ≡ naming.names
field-keeps naming fields.Voice value none = voice-keeps naming value (voice_of value) (λ voice e. none voice refl e)
field-keeps naming fields.Parts value none = part-keeps naming (part_of value)
field-keeps naming _ value none = refl

no-voice : (field : Field) → ((name : List ℕ) → ¬ NamesVoice name field)
    → (voice : Voice) → kind_of field.letter ≡ fields.Voice → voice_of field.value ≡ Ok voice → ⊥
no-voice field none voice letter read = none (slice_range field.value voice.from voice.to) (names-voice field voice letter read)

others-keep : (naming : NamedVoices) (kind : TokenKind) → ((name : List ℕ) → ¬ IsVoiceField name kind) → ¬ MentionsVoice kind → names_following naming (owner_of kind) (mentions kind) ≡ naming.names
others-keep naming (kinds.Note note) none silent = absurd (silent tt)
others-keep naming (kinds.Rest length) none silent = absurd (silent tt)
others-keep naming (kinds.BarRest bars) none silent = absurd (silent tt)
others-keep naming (kinds.Chord chord) none silent = ap (names_following naming Current) (silent-chord chord.parts silent)
others-keep naming (kinds.InlineField field) none silent = field-keeps naming (kind_of field.letter) field.value (no-voice field none)
others-keep naming (kinds.Field field) none silent = field-keeps naming (kind_of field.letter) field.value (no-voice field none)
others-keep naming _ none silent = refl

-- So it is for the names after one token.
steps : (naming : NamedVoices) (kind : TokenKind) → IsCurrent naming → Mentions naming.names kind (names_following naming (owner_of kind) (mentions kind))
steps naming kind is = record {
  named_new = λ name h gone room. ap (λ o. names_following naming o (mentions kind)) (voice-owner kind name h)
      ∙ with_name-new naming.names name (list_any-missing name naming.names gone) room;
  named_again = λ name h again. ap (λ o. names_following naming o (mentions kind)) (voice-owner kind name h) ∙ more-again naming.names name again;
  unnamed = λ heard none. let of = heard-current kind heard in (λ i. names_following naming (of.0 i) (of.1 i)) ∙ heard-first naming is none;
  known = λ heard some. let of = heard-current kind heard in (λ i. names_following naming (of.0 i) (of.1 i)) ∙ heard-again naming is some;
  other = others-keep naming kind;
}

pub tokens_mention : TokensMention
tokens_mention values lines key before element =
    let naming : NamedVoices = naming_at (opening_at values lines key) before in
    subst (λ (l : List (List ℕ)). Mentions l element.kind (mentioned_at values lines key (element ∷ before))) (sym (voice_list_of-found values lines key before))
    (subst (λ (l : List (List ℕ)). Mentions naming.names element.kind l) (sym (voice_list_of-found values lines key (element ∷ before)))
    (steps naming element.kind (naming_there values lines key before).current))
