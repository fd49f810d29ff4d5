-- Notes, rests and chords last as the rule says at their places, by the marks that act on them in their cell.
use Rattle.std.proofs.Common.{◌≡◌, ◌∙◌, List, [], ◌∷◌, ◌++◌, length, refl, ap}
use Rattle.abc_scan.specs.declared.spanned.Spanned.{Spanned}
use Rattle.abc_scan.specs.declared.token.TokenKind.{TokenKind}
use Rattle.abc_scan.specs.declared.token.TokenKind.TheVariants as kinds
use Rattle.abc_bars_voice.specs.declared.voice_state.VoiceState.{VoiceState}
use Rattle.abc_bars_notes.specs.BarRest.{bar_rest_of}
use Rattle.abc_bars_notes.specs.TimeTokens.{play_chord, play_note, play_rest}
use Rattle.abc_bars_notes.specs.TokenRole.{has_note}
use Rattle.abc_bars_notes.proofs.ChordNotes.{chords_sound}
use Rattle.abc_bars_notes.proofs.Lasting.{notes_last, rests_last}
use Rattle.abc_bars_body.specs.Body.{here}
use Rattle.abc_bars_body.specs.Cell.{after_chord_mention, tie_ahead}
use Rattle.abc_bars.specs.LookBack.CellPlace.{cell_with}
use Rattle.abc_bars.specs.LookBack.Lengths.{BarRestsLastThere, ChordsLastThere, LastsAsNote, LastsAsRest, NotesLastThere, RestsLastThere, SoundsAsChord, state_there}
use Rattle.abc_bars.proofs.LookBack.CellPlace.{between, body-at, here-in-chord, here-is}
use Rattle.abc_bars.proofs.LookBack.TokenResults.{items_added}

pub notes_last_there : NotesLastThere
notes_last_there place note is =
    let state : VoiceState = state_there place in
    let cell : List (Spanned TokenKind) = cell_with place (kinds.Note note) in
    between place (kinds.Note note) refl (LastsAsNote state cell (length place.front) note.length)
    (λ start factors.
    let lasts = notes_last state cell (length place.front) place.from note (tie_ahead place.ahead) is in (
      lasts.0,
      (λ i. start.items.items ++ (play_note (here-is place i) (factors i) (tie_ahead place.ahead) place.from note).items)
          ∙ ap (λ l. start.items.items ++ l) lasts.2,
      (lasts.1, lasts.3, lasts.4),
    ))

pub rests_last_there : RestsLastThere
rests_last_there place written is =
    let state : VoiceState = state_there place in
    let cell : List (Spanned TokenKind) = cell_with place (kinds.Rest written) in
    between place (kinds.Rest written) refl (LastsAsRest state cell (length place.front) written)
    (λ start factors.
    let lasts = rests_last state cell (length place.front) place.from written is in (
      _,
      (λ i. start.items.items ++ (play_rest (here-is place i) (factors i) place.from written).items)
          ∙ ap (λ l. start.items.items ++ l) lasts.1,
      (lasts.0, refl, lasts.2),
    ))

pub bar_rests_last_there : BarRestsLastThere
bar_rests_last_there place bars =
    let state : VoiceState = state_there place in
    between place (kinds.BarRest bars) refl (λ item. item ≡ (bar_rest_of state.meter bars).0)
    (λ start factors. (
      (bar_rest_of state.meter bars).0,
      items_added (record start { body = body-at place }) place.from (kinds.BarRest bars) place.ahead
          ∙ ap (λ (s : VoiceState). start.items.items ++ (bar_rest_of s.meter bars).0 ∷ []) (here-is place),
      refl,
    ))

pub chords_last_there : ChordsLastThere
chords_last_there place chord some is =
    let state : VoiceState = state_there place in
    let cell : List (Spanned TokenKind) = cell_with place (kinds.Chord chord) in
    let here_is : here (after_chord_mention (has_note chord.parts) (body-at place)) ≡ state = here-in-chord place (has_note chord.parts) in
    between place (kinds.Chord chord) refl (SoundsAsChord state cell (length place.front) chord)
    (λ start factors.
    let sounds = chords_sound state cell (length place.front) place.from chord (tie_ahead place.ahead) is some in (
      _,
      (λ i. start.items.items ++ (play_chord (here_is i) (factors i) (tie_ahead place.ahead) place.from chord).items)
          ∙ ap (λ l. start.items.items ++ l) sounds.2,
      (sounds.0, sounds.1, refl, sounds.3),
    ))
