-- What alters a note is what alters it by the rule.
use Rattle.std.proofs.Common.{◌≡◌, ◌∙◌, ℤ, Bool, true, false, List, [], ◌∷◌, ◌++◌, reverse, Option, Some, None, unwrap_or, refl, ap}
use Rattle.std.specs.Prelude.{All, find, ◌&&◌, option_map}
use Rattle.std.specs.Option.{option_or}
use Rattle.std.proofs.lemmas.Bool.{eqb-true, and_parts}
use Rattle.std.proofs.lemmas.Bool.Decides.{Decides-int_eq, Decides-eqb}
use Rattle.std.proofs.lemmas.List.{reverse-append}
use Rattle.std.proofs.lemmas.List.Folds.{find-append}
use Rattle.std.proofs.lemmas.List.Elements.{All-head, All-tail}
use Rattle.abc_fields.specs.Signature.{alteration as signature_alteration}
use Rattle.abc_scan.specs.declared.note.Note.{Note}
use Rattle.abc_text.specs.declared.accidental.Accidental.{Accidental}
use Rattle.abc_text.specs.Accidental.{alteration as accidental_alteration}
use Rattle.abc_text.specs.Letter.{capital}
use Rattle.abc_bars_voice.specs.declared.accidentals.Accidentals.{Accidentals}
use Rattle.abc_bars_voice.specs.declared.voice_state.VoiceState.{VoiceState}
use Rattle.abc_bars_voice.specs.declared.tied_note.TiedNote.{TiedNote}
use Rattle.abc_bars_voice.specs.Accidentals.{written_on}
use Rattle.abc_bars_voice.specs.Alteration.{alteration_of, goes_on_in, tied_alteration}
use Rattle.abc_bars_notes.specs.NoteKeys.{IsSame, IsAltered, NotesSoundTheirKeys}
use Rattle.abc_bars_notes.specs.Sound.{tone_in}

same_by : (note : Note) (tied : TiedNote) → goes_on_in note tied ≡ true → IsSame note tied
same_by note tied e =
    let both = and_parts _ _ e in
    (eqb-true (capital tied.letter) (capital note.letter) both.0, (Decides-int_eq tied.octave note.octave).0 both.1)

same_to : (note : Note) (tied : TiedNote) → IsSame note tied → goes_on_in note tied ≡ true
same_to note tied h =
    let letters = (Decides-eqb (capital tied.letter) (capital note.letter)).1 h.0 in
    let octaves = (Decides-int_eq tied.octave note.octave).1 h.1 in
    λ i. letters i && octaves i

false_by : (b : Bool) → (b ≡ true → ⊥) → b ≡ false
false_by true h = absurd (h refl)
false_by false h = refl

one : (note : Note) (tied : TiedNote) (b : Bool) → goes_on_in note tied ≡ b → find (goes_on_in note) (tied ∷ []) ≡ find (λ t. b) (tied ∷ [])
one note tied true e = rw e refl
one note tied false e = rw e refl

none_found : (note : Note) (tied : List TiedNote) → All (λ other. ¬ IsSame note other) tied → find (goes_on_in note) (reverse tied) ≡ None
none_found note [] h = refl
none_found note (first ∷ tied) h =
    ap (find (goes_on_in note)) (reverse-append (first ∷ []) tied)
    ∙ find-append (goes_on_in note) (reverse tied) (first ∷ [])
    ∙ (λ i. option_or (none_found note tied (All-tail (λ other. ¬ IsSame note other) first tied h) i)
    (one note first false (false_by (goes_on_in note first) (λ e. All-head (λ other. ¬ IsSame note other) first tied h (same_by note first e))) i))

last_found : (note : Note) (before following : List TiedNote) (tied : TiedNote) → IsSame note tied → All (λ other. ¬ IsSame note other) following
    → find (goes_on_in note) (reverse (before ++ tied ∷ following)) ≡ Some tied
last_found note before following tied same h =
    ap (find (goes_on_in note)) (reverse-append before (tied ∷ following) ∙ ap (λ l. l ++ reverse before) (reverse-append (tied ∷ []) following))
    ∙ find-append (goes_on_in note) (reverse following ++ tied ∷ []) (reverse before)
    ∙ ap (λ o. option_or o (find (goes_on_in note) (reverse before)))
    (find-append (goes_on_in note) (reverse following) (tied ∷ [])
    ∙ (λ i. option_or (none_found note following h i) (one note tied true (same_to note tied same) i)))

pub altered_by : (state : VoiceState) (accidentals : Accidentals) (note : Note) → IsAltered state accidentals note (alteration_of state accidentals note)
altered_by state accidentals note =
    let signature = signature_alteration state.signature note.letter in
    let after_own : ℤ = unwrap_or (written_on accidentals note) (unwrap_or (tied_alteration state.tied note) signature) in
    let no_own : note.accidental ≡ None → alteration_of state accidentals note ≡ after_own =
    λ e. ap (λ (a : Option Accidental). unwrap_or (option_map accidental_alteration a) after_own) e in
    let no_written : written_on accidentals note ≡ None → after_own ≡ unwrap_or (tied_alteration state.tied note) signature =
    λ e. ap (λ w. unwrap_or w (unwrap_or (tied_alteration state.tied note) signature)) e in
    record {
      own = λ accidental e. ap (λ (a : Option Accidental). unwrap_or (option_map accidental_alteration a) after_own) e;
      written = λ last e f. no_own e ∙ ap (λ w. unwrap_or w (unwrap_or (tied_alteration state.tied note) signature)) f;
      tied = λ before following tied e f is same h.
          no_own e ∙ no_written f
          ∙ ap (λ o. unwrap_or (option_map (λ (t : TiedNote). t.alteration) o) signature)
          (ap (λ l. find (goes_on_in note) (reverse l)) is ∙ last_found note before following tied same h);
      signature = λ e f h.
          no_own e ∙ no_written f
          ∙ ap (λ o. unwrap_or (option_map (λ (t : TiedNote). t.alteration) o) signature) (none_found note state.tied h);
    }

pub notes_sound_their_keys : NotesSoundTheirKeys
notes_sound_their_keys state broken from note tied =
    (alteration_of state state.accidentals note, tone_in state state.accidentals broken None note tied, altered_by state state.accidentals note, refl, refl)
