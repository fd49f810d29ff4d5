-- A voice's events in another order: its notes taken from the last to the first.
use Rattle.std.proofs.Common.{◌≡◌, ℕ, ◌==◌, true, false, cond, List, [], ◌∷◌, ◌++◌, length, flat_map, map, refl, sym, ap, subst, ◌∙◌}
use Rattle.std.specs.Prelude.{All, IsPermutation, take}
use Rattle.std.proofs.Math.Seq.{take-append_seam}
use Rattle.std.proofs.lemmas.Grind.{flat_map-append}
use Rattle.std.proofs.lemmas.List.{append-nil, append_assoc, map-append}
use Rattle.std.proofs.lemmas.List.Elements.{All-head, All-tail}
use Rattle.std.proofs.lemmas.List.Sorted.{All-permutation, IsPermutation-append_comm, IsPermutation-append_left, IsPermutation-append_right, IsPermutation-map, IsPermutation-trans}
use Rattle.abc_time.specs.declared.grains.Grains.{Grains}
use Rattle.abc_time.specs.Grains.{tick_at}
use Rattle.abc_voices_score.specs.Limits.{IsSoundingWithin}
use Rattle.abc_voices_score.specs.declared.score.ProgramChange.{ProgramChange}
use Rattle.abc_voices_score.specs.declared.score.Sounding.{Sounding}
use Rattle.smf_bytes.specs.declared.event.Event.{Event}
use Rattle.smf_bytes.specs.declared.voice_event.VoiceEvent.{VoiceEvent}
use Rattle.smf_bytes.specs.declared.voice_event.VoiceEventKind.TheVariants.{NoteOff, NoteOn}
use Rattle.smf_bytes.specs.Voice.{all_ends, all_of, change_of, ends_of, event_at}
use Rattle.smf_bytes.specs.Event.{note_events, note_off, note_on, program_event}
use Rattle.smf_bytes.specs.Order.{in_order}
use Rattle.smf_bytes.specs.Track.{voice_events}
use Rattle.smf_bytes.proofs.Ordered.{in_order_permutation}

ends_push : (notes : List Sounding) (note : Sounding) → all_ends (notes ++ note ∷ []) ≡ all_ends notes ++ ends_of note
ends_push notes note = flat_map-append ends_of notes (note ∷ []) ∙ ap (λ l. all_ends notes ++ l) (append-nil (ends_of note))

-- the last note's events go after the events so far
pub one_back : (all events events' : List VoiceEvent) (left left' : List Sounding) (note : Sounding) → left ≡ left' ++ note ∷ [] → IsPermutation (events ++ ends_of note) events'
    → IsPermutation all (events ++ all_ends left) → IsPermutation all (events' ++ all_ends left')
one_back all events events' left left' note e f p =
    let own = ends_of note in
    let others = all_ends left' in
    let split : events ++ all_ends left ≡ events ++ (others ++ own) = ap (λ l. events ++ all_ends l) e ∙ ap (λ l. events ++ l) (ends_push left' note) in
    let joined : events ++ (own ++ others) ≡ (events ++ own) ++ others = sym (append_assoc events own others) in
    IsPermutation-trans all ((events ++ own) ++ others) (events' ++ others)
    (subst (IsPermutation all) joined
    (IsPermutation-trans all (events ++ (others ++ own)) (events ++ (own ++ others)) (subst (IsPermutation all) split p)
    (IsPermutation-append_right events (others ++ own) (own ++ others) (IsPermutation-append_comm others own))))
    (IsPermutation-append_left others (events ++ own) events' f)

own_events : (channel : ℕ) (note : Sounding) → map (event_at channel) (ends_of note) ≡ note_events channel note
own_events channel note = elim (tick_at note.on.0 == tick_at note.off.0) as
    (λ b. map (event_at channel) (cond b [] (begins note ∷ ends note ∷ []))
    ≡ cond b [] (note_on channel note.key note.velocity (tick_at note.on.0) ∷ note_off channel note.key (tick_at note.off.0) ∷ [])) [
      | true ↦ refl
      | false ↦ refl
    ]
  where
    begins : Sounding → VoiceEvent
    begins note = record { tick = tick_at note.on.0; kind = NoteOn; key = note.key; value = note.velocity }

    ends : Sounding → VoiceEvent
    ends note = record { tick = tick_at note.off.0; kind = NoteOff; key = note.key; value = 64 }

-- the notes of a voice as they begin and end are their events
own_notes : (channel : ℕ) (notes : List Sounding) → map (event_at channel) (all_ends notes) ≡ flat_map (note_events channel) notes
own_notes channel [] = refl
own_notes channel (note ∷ notes) =
    map-append (event_at channel) (ends_of note) (all_ends notes)
    ∙ ap (λ l. l ++ map (event_at channel) (all_ends notes)) (own_events channel note)
    ∙ ap (λ l. note_events channel note ++ l) (own_notes channel notes)

own_programs : (channel : ℕ) (programs : List ProgramChange) → map (event_at channel) (map change_of programs) ≡ map (program_event channel) programs
own_programs channel [] = refl
own_programs channel (change ∷ programs) = ap (λ l. program_event channel change ∷ l) (own_programs channel programs)

own_all : (channel : ℕ) (programs : List ProgramChange) (notes : List Sounding) → map (event_at channel) (all_of programs notes) ≡ voice_events channel programs notes
own_all channel programs notes =
    map-append (event_at channel) (map change_of programs) (all_ends notes)
    ∙ ap (λ l. l ++ map (event_at channel) (all_ends notes)) (own_programs channel programs)
    ∙ ap (λ l. map (program_event channel) programs ++ l) (own_notes channel notes)

in_events : (channel : ℕ) (programs : List ProgramChange) (notes : List Sounding) (events : List VoiceEvent)
    → IsPermutation (all_of programs notes) events → IsPermutation (voice_events channel programs notes) (map (event_at channel) events)
in_events channel programs notes events p =
    subst (λ (l : List Event). IsPermutation l (map (event_at channel) events)) (own_all channel programs notes)
    (IsPermutation-map (event_at channel) (all_of programs notes) events p)

-- the events that code has of a voice are in order those of the voice
pub same_order : (channel : ℕ) (programs : List ProgramChange) (notes : List Sounding) (events : List VoiceEvent)
    → IsPermutation (all_of programs notes) events → in_order (map (event_at channel) events) ≡ in_order (voice_events channel programs notes)
same_order channel programs notes events p =
    in_order_permutation (voice_events channel programs notes) (map (event_at channel) events) (in_events channel programs notes events p)

-- what holds of notes holds of the last of them, and of the others
pub last_within : (end : Grains) (left left' : List Sounding) (note : Sounding) → left ≡ left' ++ note ∷ []
    → All (IsSoundingWithin end) left → IsSoundingWithin end note × All (IsSoundingWithin end) left'
last_within end left left' note e within =
    let P = IsSoundingWithin end in
    let turned : All P (note ∷ left') = All-permutation P (left' ++ note ∷ []) (note ∷ left') (IsPermutation-append_comm left' (note ∷ [])) (subst (All P) e within) in
    (All-head P note left' turned, All-tail P note left' turned)

-- what a slice of all items leaves of them
pub restored : (n : ℕ) (ys rest : List VoiceEvent) → length ys ≡ n → take n (ys ++ rest) ≡ ys
restored n ys rest h = subst (λ m. take m (ys ++ rest) ≡ ys) h (take-append_seam ys rest)
