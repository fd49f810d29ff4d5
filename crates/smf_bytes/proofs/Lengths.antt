-- Events within the limits end in time, and their tracks are not too long.
use Rattle.std.proofs.Common.{◌≡◌, ℕ, zero, suc, ◌+◌, ◌-◌, ◌*◌, ◌/◌, ◌%◌, ◌^◌, ◌<◌, ◌≤◌, ◌==◌, cond, inl, inr, List, [], ◌∷◌, ◌++◌, length, flat_map, map, arith, length-append, refl, sym, ap, subst}
use Rattle.std.specs.List.{All}
use Rattle.std.specs.Int.{w8, trailing_zeros, cast_unsigned}
use Rattle.byteorder.specs.Endian.{big_bytes}
use Rattle.std.proofs.lemmas.Bool.{cases_Bool}
use Rattle.std.proofs.lemmas.List.Elements.{All-nil, All-cons, All-head, All-tail, All-append}
use Rattle.abc_time.specs.declared.grains.Grains.{Grains}
use Rattle.abc_time.specs.Grains.{tick_at, tick_at-le}
use Rattle.smf_bytes.specs.declared.event.Event.{Event}
use Rattle.abc_voices_score.specs.declared.score.Change.{Change}
use Rattle.abc_voices_score.specs.declared.score.ChangeKind.{ChangeKind}
use Rattle.abc_voices_score.specs.declared.score.ChangeKind.TheVariants.{Tempo, Meter, Key}
use Rattle.abc_voices_score.specs.declared.score.ProgramChange.{ProgramChange}
use Rattle.abc_voices_score.specs.declared.score.Sounding.{Sounding}
use Rattle.smf_bytes.specs.Number.{leading_bytes, number_text}
use Rattle.smf_bytes.specs.Order.{insert_event, in_order}
use Rattle.smf_bytes.specs.Event.{meta_event, title_events, change_bytes, change_event, note_events, note_off, note_on, program_event, end_event}
use Rattle.abc_voices_score.specs.Limits.{IsChangeWithin, IsProgramWithin, IsSoundingWithin}
use Rattle.smf_bytes.specs.Track.{timed_events, track_body, conductor_events, voice_events}
use Rattle.smf_bytes.proofs.Ordered.{less, past, here}

leading_length : (groups n : ℕ) → length (leading_bytes groups n) ≤ groups
leading_length zero n = omega arith
leading_length (suc groups) n =
    elim (cases_Bool (n == 0)) [
      | inl none ↦
          let e : leading_bytes (suc groups) n ≡ [] = ap (λ b. cond b [] (leading_bytes groups (n / 128) ++ (128 + n % 128) ∷ [])) none in
          omega (arith, ap length e)
      | inr some ↦
          let e : leading_bytes (suc groups) n ≡ leading_bytes groups (n / 128) ++ (128 + n % 128) ∷ [] =
          ap (λ b. cond b [] (leading_bytes groups (n / 128) ++ (128 + n % 128) ∷ [])) some in
          omega (arith, ap length e, length-append (leading_bytes groups (n / 128)) ((128 + n % 128) ∷ []), leading_length groups (n / 128))
    ]

number_length : (n : ℕ) → length (number_text n) ≤ 4
unfolding number_text
number_length n = omega (arith, length-append (leading_bytes 3 (n / 128)) (n % 128 ∷ []), leading_length 3 (n / 128))

-- what events may take in a track
abbrev room : List Event → ℕ
room [] = 0
room (event ∷ events) = (4 + length event.bytes) + room events

room-append : (xs ys : List Event) → room (xs ++ ys) ≡ room xs + room ys
room-append [] ys = omega arith
room-append (x ∷ xs) ys = omega (arith, room-append xs ys)

timed_length : (before : ℕ) (events : List Event) → length (timed_events before events) ≤ room events
timed_length before [] = omega arith
timed_length before (event ∷ events) =
    omega (
      arith,
      length-append (number_text (event.tick - before) ++ event.bytes) (timed_events event.tick events),
      length-append (number_text (event.tick - before)) event.bytes,
      number_length (event.tick - before),
      timed_length event.tick events,
    )

room-insert : (a : Event) (xs : List Event) → room (insert_event a xs) ≡ (4 + length a.bytes) + room xs
room-insert a [] = refl
room-insert a (x ∷ xs) =
    elim (cases_Bool (less x a)) [
      | inl before ↦ omega (arith, ap room (past a x xs before), room-insert a xs)
      | inr after ↦ ap room (here a x xs after)
    ]

room-in_order : (events : List Event) → room (in_order events) ≡ room events
room-in_order [] = refl
room-in_order (event ∷ events) = omega (arith, room-insert event (in_order events), room-in_order events)

meta_length : (type : ℕ) (content : List ℕ) → length (meta_event type content) ≤ 6 + length content
meta_length type content = omega (arith, length-append (number_text (length content)) content, number_length (length content))

body_length : (end : ℕ) (events : List Event) → length (track_body end events) ≤ room events + 10
unfolding track_body
body_length end events =
    omega (arith, timed_length 0 (in_order events ++ end_event end ∷ []), room-append (in_order events) (end_event end ∷ []), room-in_order events, meta_length 47 [])

title_room : (title : List ℕ) → room (title_events title) ≤ 10 + length title
title_room [] = omega arith
title_room (byte ∷ bytes) = omega (arith, meta_length 3 (byte ∷ bytes))

change_length : (what : ChangeKind) → length (change_bytes what) ≤ 10
change_length (Tempo micros) = omega (arith, meta_length 81 (big_bytes 3 micros))
change_length (Meter num den) = omega (arith, meta_length 88 (num ∷ trailing_zeros w8 den ∷ 24 ∷ 8 ∷ []))
change_length (Key sharps minor) = omega (arith, meta_length 89 (cast_unsigned w8 sharps ∷ cond minor 1 0 ∷ []))

-- a change is no longer than a meter, which has seven bytes
pub change_in_place : (what : ChangeKind) → length (change_bytes what) ≤ 7
unfolding number_text
change_in_place (Tempo micros) = omega arith
change_in_place (Meter num den) = omega arith
change_in_place (Key sharps minor) = omega arith

changes_room : (changes : List Change) → room (map change_event changes) ≤ 14 * length changes
changes_room [] = omega arith
changes_room (change ∷ changes) = omega (arith, change_length change.what, changes_room changes)

-- the first track's length fits 32 bits
pub conductor_length : (end : ℕ) (title : List ℕ) (changes : List Change) → length title ≤ 65535 → length changes ≤ 1000003 → length (track_body end (conductor_events title changes)) < 2 ^ 32
conductor_length end title changes short few =
    omega (arith, body_length end (conductor_events title changes), room-append (title_events title) (map change_event changes), title_room title, changes_room changes)

note_room : (channel : ℕ) (note : Sounding) → room (note_events channel note) ≤ 14
note_room channel note =
    elim (cases_Bool (tick_at note.on.0 == tick_at note.off.0)) [
      | inl same ↦ omega (arith, ap room (ap (λ b. cond b [] (note_on channel note.key note.velocity (tick_at note.on.0) ∷ note_off channel note.key (tick_at note.off.0) ∷ [])) same))
      | inr other ↦ omega (arith, ap room (ap (λ b. cond b [] (note_on channel note.key note.velocity (tick_at note.on.0) ∷ note_off channel note.key (tick_at note.off.0) ∷ [])) other))
    ]

notes_room : (channel : ℕ) (notes : List Sounding) → room (flat_map (note_events channel) notes) ≤ 14 * length notes
notes_room channel [] = omega arith
notes_room channel (note ∷ notes) =
    omega (arith, room-append (note_events channel note) (flat_map (note_events channel) notes), note_room channel note, notes_room channel notes)

programs_room : (channel : ℕ) (programs : List ProgramChange) → room (map (program_event channel) programs) ≤ 6 * length programs
programs_room channel [] = omega arith
programs_room channel (change ∷ programs) = omega (arith, programs_room channel programs)

-- a voice's track length fits 32 bits
pub voice_length : (end channel : ℕ) (programs : List ProgramChange) (notes : List Sounding) → length programs ≤ 1000001
    → length notes ≤ 16000000 → length (track_body end (voice_events channel programs notes)) < 2 ^ 32
voice_length end channel programs notes rare few =
    omega (
      arith,
      body_length end (voice_events channel programs notes),
      room-append (map (program_event channel) programs) (flat_map (note_events channel) notes),
      programs_room channel programs,
      notes_room channel notes,
    )

-- no event comes after the tick
abbrev pub EndBy : ℕ → List Event → Type 0
EndBy end events = All (λ event. event.tick ≤ end) events

title_ticks : (end : ℕ) (title : List ℕ) → EndBy end (title_events title)
title_ticks end [] = All-nil (λ event. event.tick ≤ end)
title_ticks end (byte ∷ bytes) =
    All-cons (λ event. event.tick ≤ end) (record { tick = 0; class = 1; key = 0; bytes = meta_event 3 (byte ∷ bytes) }) [] (omega arith) (All-nil (λ event. event.tick ≤ end))

changes_ticks : (end : Grains) (changes : List Change) → All (IsChangeWithin end) changes → EndBy (tick_at end.0) (map change_event changes)
changes_ticks end [] within = All-nil (λ event. event.tick ≤ tick_at end.0)
changes_ticks end (change ∷ changes) within =
    All-cons (λ event. event.tick ≤ tick_at end.0) (change_event change) (map change_event changes)
    (tick_at-le change.at.0 end.0 (All-head (IsChangeWithin end) change changes within).before_end)
    (changes_ticks end changes (All-tail (IsChangeWithin end) change changes within))

pub conductor_ticks : (end : Grains) (title : List ℕ) (changes : List Change) → All (IsChangeWithin end) changes → EndBy (tick_at end.0) (conductor_events title changes)
conductor_ticks end title changes within =
    All-append (λ event. event.tick ≤ tick_at end.0) (title_events title) (map change_event changes) (title_ticks (tick_at end.0) title) (changes_ticks end changes within)

note_ticks : (end : Grains) (channel : ℕ) (note : Sounding) → IsSoundingWithin end note → EndBy (tick_at end.0) (note_events channel note)
note_ticks end channel note within =
    let P : Event → Type 0 = λ event. event.tick ≤ tick_at end.0 in
    let on = note_on channel note.key note.velocity (tick_at note.on.0) in
    let off = note_off channel note.key (tick_at note.off.0) in
    let off_in_time : tick_at note.off.0 ≤ tick_at end.0 = tick_at-le note.off.0 end.0 within.before_end in
    let on_in_time : tick_at note.on.0 ≤ tick_at end.0 = tick_at-le note.on.0 end.0 (omega (arith, within.forward, within.before_end)) in
    elim (cases_Bool (tick_at note.on.0 == tick_at note.off.0)) [
      | inl same ↦ subst (All P) (sym (ap (λ b. cond b [] (on ∷ off ∷ [])) same)) (All-nil P)
      | inr other ↦ subst (All P) (sym (ap (λ b. cond b [] (on ∷ off ∷ [])) other)) (All-cons P on (off ∷ []) on_in_time (All-cons P off [] off_in_time (All-nil P)))
    ]

notes_ticks : (end : Grains) (channel : ℕ) (notes : List Sounding) → All (IsSoundingWithin end) notes → EndBy (tick_at end.0) (flat_map (note_events channel) notes)
notes_ticks end channel [] within = All-nil (λ event. event.tick ≤ tick_at end.0)
notes_ticks end channel (note ∷ notes) within =
    All-append (λ event. event.tick ≤ tick_at end.0) (note_events channel note) (flat_map (note_events channel) notes)
    (note_ticks end channel note (All-head (IsSoundingWithin end) note notes within))
    (notes_ticks end channel notes (All-tail (IsSoundingWithin end) note notes within))

programs_ticks : (end : Grains) (channel : ℕ) (programs : List ProgramChange) → All (IsProgramWithin end) programs → EndBy (tick_at end.0) (map (program_event channel) programs)
programs_ticks end channel [] within = All-nil (λ event. event.tick ≤ tick_at end.0)
programs_ticks end channel (change ∷ programs) within =
    All-cons (λ event. event.tick ≤ tick_at end.0) (program_event channel change) (map (program_event channel) programs)
    (tick_at-le change.at.0 end.0 (All-head (IsProgramWithin end) change programs within).before_end)
    (programs_ticks end channel programs (All-tail (IsProgramWithin end) change programs within))

pub voice_ticks : (end : Grains) (channel : ℕ) (programs : List ProgramChange) (notes : List Sounding) → All (IsProgramWithin end) programs → All (IsSoundingWithin end) notes
    → EndBy (tick_at end.0) (voice_events channel programs notes)
voice_ticks end channel programs notes first within =
    All-append (λ event. event.tick ≤ tick_at end.0) (map (program_event channel) programs) (flat_map (note_events channel) notes)
    (programs_ticks end channel programs first) (notes_ticks end channel notes within)
