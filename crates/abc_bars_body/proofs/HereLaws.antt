-- The state of the current voice of a body, after it was written.
use Rattle.std.proofs.Common.{◌≡◌, ℕ, zero, suc, ◌≤◌, ◌<◌, nat_lt, Bool, true, false, cond, List, [], ◌∷◌, length, unwrap_or, refl, sym, ap, ◌∙◌, arith}
use Rattle.std.specs.Prelude.{Option, None, Some}
use Rattle.std.proofs.lemmas.Bool.Decides.{nat_tests}
use Rattle.std_collections.proofs.Entries.{length-set_value_at}
use Rattle.std_collections.proofs.HashLookup.{get_value_set, set_value_at_twice}
use Rattle.abc_bars_body.specs.declared.body.Body.{Body}
use Rattle.abc_bars_body.specs.declared.body.Current.{Current}
use Rattle.abc_bars_body.specs.declared.body.Current.TheVariants.{Unnamed, At}
use Rattle.abc_bars_voice.specs.declared.voice_state.VoiceState.{VoiceState}
use Rattle.abc_bars_body.specs.Body.{here, here_in, after_mention, after_mention_in, with_here, with_here_in}
use Rattle.abc_bars_body.specs.BodyCopy.{with_changed}
use Rattle.abc_bars_header.specs.Voices.{voice_at, with_voice_at}
use Rattle.abc_bars_voice.specs.Accidentals.{no_accidentals, reach_of}
use Rattle.abc_bars_voice.specs.VoiceState.{without_accidentals}
use Rattle.abc_bars_voice.specs.declared.accidentals.Accidentals.{Accidentals}
use Rattle.abc_scan.specs.declared.directive.Reach.TheVariants.{Pitch}

set-same : (voices : List (List ℕ × VoiceState)) (place : ℕ) (another : VoiceState) → with_voice_at voices place (unwrap_or (voice_at voices place) another) ≡ voices
set-same [] place another = refl
set-same (voice ∷ voices) zero another = refl
set-same (voice ∷ voices) (suc place) another = ap (λ (rest : List (List ℕ × VoiceState)). voice ∷ rest) (set-same voices place another)

beyond : (voices : List (List ℕ × VoiceState)) (place : ℕ) (another : VoiceState) → length voices ≤ place → unwrap_or (voice_at voices place) another ≡ another
beyond [] place another h = refl
beyond (voice ∷ voices) zero another h = absurd (omega arith)
beyond (voice ∷ voices) (suc place) another h = beyond voices place another (omega arith)

not-below : (m n : ℕ) → nat_lt m n ≡ false → n ≤ m
not-below m n h = grind (arith, nat_tests)

below : (m n : ℕ) → nat_lt m n ≡ true → m < n
below m n h = grind (arith, nat_tests)

here-at : (body : Body) (place : ℕ) (b : Bool) → nat_lt place (length body.voices) ≡ b
    → body ≡ cond b (record body { voices = with_voice_at body.voices place (unwrap_or (voice_at body.voices place) body.another) })
    (record body { another = unwrap_or (voice_at body.voices place) body.another })
here-at body place true e = ap (λ (voices : List (List ℕ × VoiceState)). record body { voices = voices }) (sym (set-same body.voices place body.another))
here-at body place false e =
    ap (λ (another : VoiceState). record body { another = another }) (sym (beyond body.voices place body.another (not-below place (length body.voices) e)))

same-in : (body : Body) (current : Current) → record body { current = current } ≡ with_here_in (record body { current = current }) current (here_in body current)
same-in body (Unnamed state) = refl
same-in body (At place) = here-at (record body { current = At place }) place (nat_lt place (length body.voices)) refl

-- Writing the present state changes nothing.
pub same_here : (body : Body) → body ≡ with_here body (here body)
same_here body = same-in body body.current

read-at : (body : Body) (place : ℕ) (state : VoiceState) (b : Bool) → nat_lt place (length body.voices) ≡ b
    → here_in (cond b (record body { voices = with_voice_at body.voices place state }) (record body { another = state })) (At place) ≡ state
read-at body place state true e = ap (λ found. unwrap_or found body.another) (get_value_set body.voices place state (below place (length body.voices) e))
read-at body place state false e = beyond body.voices place state (not-below place (length body.voices) e)

kept-current : (body : Body) (place : ℕ) (state : VoiceState) (b : Bool)
    → (cond b (record body { voices = with_voice_at body.voices place state }) (record body { another = state })).current ≡ body.current
kept-current body place state true = refl
kept-current body place state false = refl

read-in : (body : Body) (current : Current) (state : VoiceState) → here (with_here_in (record body { current = current }) current state) ≡ state
read-in body (Unnamed old) state = refl
read-in body (At place) state =
    let at : Body = record body { current = At place } in
    ap (here_in (with_here_in at (At place) state)) (kept-current at place state (nat_lt place (length body.voices)))
    ∙ read-at at place state (nat_lt place (length body.voices)) refl

-- The written state is the present one.
pub here_written : (body : Body) (state : VoiceState) → here (with_here body state) ≡ state
here_written body state = read-in body body.current state

twice-at : (body : Body) (place : ℕ) (first last : VoiceState) (b : Bool) → nat_lt place (length body.voices) ≡ b
    → with_here (cond b (record body { voices = with_voice_at body.voices place first; current = At place }) (record body { another = first; current = At place })) last
    ≡ cond b (record body { voices = with_voice_at body.voices place last; current = At place }) (record body { another = last; current = At place })
twice-at body place first last true e =
    let written : Body = record body { voices = with_voice_at body.voices place first; current = At place } in
    ap (λ b. cond b (record written { voices = with_voice_at written.voices place last }) (record written { another = last }))
    (ap (nat_lt place) (length-set_value_at body.voices place first) ∙ e)
    ∙ ap (λ (voices : List (List ℕ × VoiceState)). record body { voices = voices; current = At place }) (set_value_at_twice body.voices place first last)
twice-at body place first last false e =
    let written : Body = record body { another = first; current = At place } in
    ap (λ b. cond b (record written { voices = with_voice_at written.voices place last }) (record written { another = last })) e

twice-in : (body : Body) (current : Current) (first last : VoiceState)
    → with_here (with_here_in (record body { current = current }) current first) last ≡ with_here_in (record body { current = current }) current last
twice-in body (Unnamed old) first last = refl
twice-in body (At place) first last = twice-at body place first last (nat_lt place (length body.voices)) refl

-- The last write decides.
pub written_twice : (body : Body) (first last : VoiceState) → with_here (with_here body first) last ≡ with_here body last
written_twice body first last = twice-in body body.current first last

same-current : (body : Body) (state : VoiceState) (place : ℕ) → body.current ≡ At place → (with_here body state).current ≡ At place
same-current body state place is =
    ap (λ (current : Current). (with_here_in body current state).current) is ∙ kept-current body place state (nat_lt place (length body.voices)) ∙ is

-- The last write decides, also after an earlier change.
pub changed_twice : (body : Body) (here : Option VoiceState) (last : VoiceState) → with_here (with_changed body here) last ≡ with_here body last
changed_twice body None last = refl
changed_twice body (Some first) last = written_twice body first last

-- A mentioned voice stays mentioned, whether its state changes or not.
pub still_mentioned : (body : Body) (place : ℕ) (here : Option VoiceState) → body.current ≡ At place → after_mention (with_changed body here) ≡ with_changed body here
still_mentioned body place None is = ap (after_mention_in body) is
still_mentioned body place (Some state) is = ap (after_mention_in (with_here body state)) (same-current body state place is)

cleared : (accidentals : Accidentals) → accidentals ≡ no_accidentals Pitch → no_accidentals (reach_of accidentals) ≡ accidentals
cleared accidentals is = ap (λ (a : Accidentals). no_accidentals (reach_of a)) is ∙ sym is

-- A voice without accidentals stays the same if they end.
pub clear_same : (body : Body) → (here body).accidentals ≡ no_accidentals Pitch → body ≡ with_here body (without_accidentals (here body))
clear_same body is =
    same_here body ∙ sym (ap (λ (a : Accidentals). with_here body (record (here body) { accidentals = a })) (cleared (here body).accidentals is))
