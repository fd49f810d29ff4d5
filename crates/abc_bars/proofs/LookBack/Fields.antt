-- What fields say is what their readers read.
use Rattle.std.proofs.Common.{◌≡◌, ◌∙◌, ◌+◌, ◌-◌, ◌<◌, ◌≤◌, ℕ, Bool, true, false, cond, List, [], ◌∷◌, ◌++◌, length, take, drop, bytes_eq, Some, None, Ok, refl, sym, ap, subst, arith}
use Rattle.std.proofs.Math.Seq.{take-append_seam, drop-append_seam}
use Rattle.std.proofs.lemmas.Bool.{and_from, and_parts, cond-true, le-leb, leb-true}
use Rattle.std.specs.Char.{is_ascii_uppercase}
use Rattle.std.specs.Prelude.{nat_le, slice_range}
use Rattle.abc_fields.specs.declared.voice.Voice.{Voice}
use Rattle.abc_fields.specs.Spelling.Voice.{IsVoice}
use Rattle.abc_fields.specs.Voice.{voice_of}
use Rattle.abc_fields.proofs.Voices.{voice_read}
use Rattle.abc_bars_header.specs.declared.field_kind.FieldKind.{FieldKind}
use Rattle.abc_bars_header.specs.declared.field_kind.FieldKind.TheVariants as fields
use Rattle.abc_bars_header.specs.FieldKind.{kind_of}
use Rattle.abc_scan.specs.declared.field.Field.{Field}
use Rattle.abc_scan.specs.declared.token.TokenKind.{TokenKind}
use Rattle.abc_scan.specs.declared.token.TokenKind.TheVariants as kinds
use Rattle.abc_bars_body.specs.BodyFields.{part_of}
use Rattle.abc_bars.specs.LookBack.ByName.{Named, owner_of, owner_of_field, owner_of_voice}
use Rattle.abc_bars.specs.LookBack.Fields.{BeginsPart, IsVoiceField, NamesVoice}

-- A capital letter is known by its code.
capital-is : (byte : ℕ) → 65 ≤ byte → byte ≤ 90 → is_ascii_uppercase byte ≡ true
capital-is byte least most = and_from (nat_le 65 byte) (nat_le byte 90) (le-leb 65 byte least) (le-leb byte 90 most)

-- An accepted P: names its part.
pub part-of : (field : Field) → (begins : BeginsPart field) → part_of field.value ≡ Some begins.letter
part-of field begins =
    ap part_of begins.spelled ∙ cond-true (is_ascii_uppercase begins.letter) (Some begins.letter) None (capital-is begins.letter begins.least begins.most)

begins-by : (field : Field) (byte : ℕ) (rest : List ℕ) (b : Bool) (letter : ℕ) → kind_of field.letter ≡ fields.Parts → field.value ≡ byte ∷ rest
    → is_ascii_uppercase byte ≡ b → cond b (Some byte) None ≡ Some letter → BeginsPart field
begins-by field byte rest true letter is spelled capital e =
    let within = and_parts (nat_le 65 byte) (nat_le byte 90) capital in
    record { kind = is; letter = byte; rest = rest; spelled = spelled; least = leb-true 65 byte within.0; most = leb-true byte 90 within.1 }
begins-by field byte rest false letter is spelled capital e = absurd (cc)

begins-with : (field : Field) (value : List ℕ) (letter : ℕ) → kind_of field.letter ≡ fields.Parts → field.value ≡ value → part_of value ≡ Some letter → BeginsPart field
begins-with field [] letter is spelled e = absurd (cc)
begins-with field (byte ∷ rest) letter is spelled e = begins-by field byte rest (is_ascii_uppercase byte) letter is spelled refl e

-- A P: that names a part is accepted.
pub begins-part : (field : Field) (letter : ℕ) → kind_of field.letter ≡ fields.Parts → part_of field.value ≡ Some letter → BeginsPart field
begins-part field letter is e = begins-with field field.value letter is refl e

-- A V: is read as it is spelled.
pub voice-accepted : (field : Field) (name : List ℕ) → (names : NamesVoice name field) → voice_of field.value ≡ Ok names.voice
voice-accepted field name names = ((voice_read field.value (voice_of field.value) refl).ok names.voice).1 names.value

pub names-voice : (field : Field) (voice : Voice) → kind_of field.letter ≡ fields.Voice → voice_of field.value ≡ Ok voice
    → NamesVoice (slice_range field.value voice.from voice.to) field
names-voice field voice letter read =
    record { kind = letter; voice = voice; value = ((voice_read field.value (voice_of field.value) refl).ok voice).0 read; spelled = refl }

-- An accepted V: is of the voice that it names.
pub owner-named : (field : Field) (name : List ℕ) → NamesVoice name field → owner_of_field (kind_of field.letter) field.value ≡ Named name
owner-named field name names =
    ap (λ (kind : FieldKind). owner_of_field kind field.value) names.kind
    ∙ ap (owner_of_voice field.value) (voice-accepted field name names)
    ∙ ap Named (sym names.spelled)

pub voice-owner : (kind : TokenKind) (name : List ℕ) → IsVoiceField name kind → owner_of kind ≡ Named name
voice-owner (kinds.Field field) name is = owner-named field name is
voice-owner (kinds.InlineField field) name is = owner-named field name is
voice-owner _ name is = absurd is

-- The name that an accepted V: says is not empty.
filled : (name : List ℕ) → 0 < length name → (bytes_eq name [] ≡ false) × (bytes_eq [] name ≡ false)
filled [] some = absurd (omega arith)
filled (byte ∷ name) some = (refl, refl)

pub name_filled : (value : List ℕ) (voice : Voice) → voice_of value ≡ Ok voice
    → (bytes_eq (slice_range value voice.from voice.to) [] ≡ false) × (bytes_eq [] (slice_range value voice.from voice.to) ≡ false)
name_filled value voice read =
    let is : IsVoice value voice = ((voice_read value (voice_of value) refl).ok voice).0 read in
    let word : List ℕ = is.identifier in
    let rest : drop voice.from value ≡ word ++ is.following =
    (λ i. drop (is.from i) (is.first.spelling i)) ∙ drop-append_seam is.first.blanks (word ++ is.following) in
    let to : voice.to ≡ voice.from + length word = is.to in
    let size : voice.to - voice.from ≡ length word = omega (arith, to) in
    let same : slice_range value voice.from voice.to ≡ word = (λ i. take (size i) (rest i)) ∙ take-append_seam word is.following in
    filled (slice_range value voice.from voice.to) (subst (λ (name : List ℕ). 0 < length name) (sym same) is.first.some)
