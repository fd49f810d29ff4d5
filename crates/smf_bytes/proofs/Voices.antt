-- The events of a voice compare as they do on one channel.
use Rattle.std.proofs.Common.{◌≡◌, ℕ, ◌+◌, ◌<◌, List, [], ◌∷◌, length, map, get_or, arith, refl, ap, ◌∙◌}
use Rattle.std.specs.Ordering.{nat_cmp, ordering_then, is_lt}
use Rattle.std.specs.declared.cmp.Ordering.{Ordering}
use Rattle.std.specs.declared.cmp.Ordering.TheVariants.{Less, Equal, Greater}
use Rattle.std.specs.Cmp.Lexicographic.{slice_cmp}
use Rattle.std.specs.List.Sorted.{IsPermutation, IsSorted}
use Rattle.std.proofs.lemmas.Cmp.{nat_cmp_total, tied_itself}
use Rattle.std.proofs.lemmas.List.{get_or-map, length-map}
use Rattle.std.proofs.lemmas.List.Sorted.{IsPermutation-map}
use Rattle.smf_bytes.specs.declared.voice_event.VoiceEvent.{VoiceEvent}
use Rattle.smf_bytes.specs.declared.voice_event.VoiceEventKind.{VoiceEventKind}
use Rattle.smf_bytes.specs.declared.voice_event.VoiceEventKind.TheVariants.{NoteOff, ProgramChange, NoteOn}
use Rattle.smf_bytes.specs.Voice.{event_at}
use Rattle.smf_bytes.specs.contracts.voice_event.VoiceEventOrd.TheImpl.{ghosts}
use Rattle.smf_bytes.specs.Order.{event_cmp, in_order}
use Rattle.smf_bytes.proofs.Ordered.{sorted_is_in_order}

-- the order that is derived: by tick, then kind, then key, then value
abbrev voice_cmp : VoiceEvent → VoiceEvent → Ordering
voice_cmp = ghosts.cmp

-- after their keys the bytes of two notes say their velocities
by_key : (status a b v w : ℕ) → ordering_then (nat_cmp a b) (slice_cmp nat_cmp (status ∷ a ∷ v ∷ []) (status ∷ b ∷ w ∷ [])) ≡ ordering_then (nat_cmp a b) (nat_cmp v w)
by_key status a b v w =
    ap (λ o. ordering_then (nat_cmp a b) (ordering_then o (ordering_then (nat_cmp a b) (ordering_then (nat_cmp v w) Equal)))) (tied_itself nat_cmp_total status)
    ∙ twice (nat_cmp a b) (nat_cmp v w)
  where
    twice : (o p : Ordering) → ordering_then o (ordering_then o (ordering_then p Equal)) ≡ ordering_then o p
    twice Less p = refl
    twice Equal Less = refl
    twice Equal Equal = refl
    twice Equal Greater = refl
    twice Greater p = refl

by_number : (status a b v w : ℕ) → ordering_then (nat_cmp a b) (slice_cmp nat_cmp (status ∷ v ∷ []) (status ∷ w ∷ [])) ≡ ordering_then (nat_cmp a b) (nat_cmp v w)
by_number status a b v w =
    ap (λ o. ordering_then (nat_cmp a b) (ordering_then o (ordering_then (nat_cmp v w) Equal))) (tied_itself nat_cmp_total status)
    ∙ ap (ordering_then (nat_cmp a b)) (last (nat_cmp v w))
  where
    last : (p : Ordering) → ordering_then p Equal ≡ p
    last Less = refl
    last Equal = refl
    last Greater = refl

-- an event of its parts
abbrev of_parts : ℕ → VoiceEventKind → ℕ → ℕ → VoiceEvent
of_parts tick kind key value = record { tick = tick; kind = kind; key = key; value = value }

same_parts : (channel : ℕ) (k l : VoiceEventKind) (t u a b v w : ℕ)
    → event_cmp (event_at channel (of_parts t k a v)) (event_at channel (of_parts u l b w)) ≡ voice_cmp (of_parts t k a v) (of_parts u l b w)
same_parts channel NoteOff NoteOff t u a b v w = ap (ordering_then (nat_cmp t u)) (by_key (128 + channel) a b v w)
same_parts channel NoteOff ProgramChange t u a b v w = refl
same_parts channel NoteOff NoteOn t u a b v w = refl
same_parts channel ProgramChange NoteOff t u a b v w = refl
same_parts channel ProgramChange ProgramChange t u a b v w = ap (ordering_then (nat_cmp t u)) (by_number (192 + channel) a b v w)
same_parts channel ProgramChange NoteOn t u a b v w = refl
same_parts channel NoteOn NoteOff t u a b v w = refl
same_parts channel NoteOn ProgramChange t u a b v w = refl
same_parts channel NoteOn NoteOn t u a b v w = ap (ordering_then (nat_cmp t u)) (by_key (144 + channel) a b v w)

same_order : (channel : ℕ) (a b : VoiceEvent) → event_cmp (event_at channel a) (event_at channel b) ≡ voice_cmp a b
same_order channel a b = same_parts channel a.kind b.kind a.tick b.tick a.key b.key a.value b.value

sorted_on : (channel : ℕ) (events : List VoiceEvent) → IsSorted voice_cmp events → IsSorted event_cmp (map (event_at channel) events)
sorted_on channel events sorted k e from within =
    let f = event_at channel in
    let any : VoiceEvent = of_parts 0 NoteOff 0 0 in
    let long : length (map f events) ≡ length events = length-map events f in
    let next : k + 1 < length events = omega arith in
    let this : k < length events = omega arith in
    ap (λ x. is_lt (event_cmp x (get_or (map f events) k e))) (get_or-map f events (k + 1) any e next)
    ∙ ap (λ y. is_lt (event_cmp (f (get_or events (k + 1) any)) y)) (get_or-map f events k any e this)
    ∙ ap is_lt (same_order channel (get_or events (k + 1) any) (get_or events k any))
    ∙ sorted k any from next

-- the events of a voice in order are the sorted list of their events
pub ordered_events : (channel : ℕ) (events ordered : List VoiceEvent) → IsPermutation events ordered → IsSorted voice_cmp ordered
    → map (event_at channel) ordered ≡ in_order (map (event_at channel) events)
ordered_events channel events ordered p s =
    sorted_is_in_order (map (event_at channel) events) (map (event_at channel) ordered)
    (IsPermutation-map (event_at channel) events ordered p) (sorted_on channel ordered s)
