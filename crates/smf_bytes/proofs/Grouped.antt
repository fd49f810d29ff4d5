-- Notes in groups, each of which ends before the next one begins.
use Rattle.std.proofs.Common.{◌≡◌, ℕ, zero, suc, ◌+◌, ◌-◌, ◌*◌, ◌≤◌, ◌<◌, ◌==◌, true, false, cond}
use Rattle.std.proofs.Common.{List, [], ◌∷◌, ◌++◌, drop, flat_map, get_or, length, take, inl, inr, arith, refl, sym, ap, subst, ◌∙◌}
use Rattle.std.specs.List.{All}
use Rattle.std.specs.List.Sorted.{IsPermutation}
use Rattle.std.specs.Ordering.{nat_cmp, ordering_then, is_lt}
use Rattle.std.specs.declared.cmp.Ordering.{Ordering}
use Rattle.std.specs.declared.cmp.Ordering.TheVariants.{Equal, Greater}
use Rattle.std.specs.Cmp.Lexicographic.{slice_cmp}
use Rattle.std.proofs.Math.Seq.{drop-cons}
use Rattle.std.proofs.lemmas.Bool.{cases_Bool, cases_lt}
use Rattle.std.proofs.lemmas.Bool.Decides.{nat_tests}
use Rattle.std.proofs.lemmas.Grind.{flat_map-append}
use Rattle.std.proofs.lemmas.List.{append_assoc, append-nil, nil_from_length, take-append-drop}
use Rattle.std.proofs.lemmas.List.Elements.{All-nil, All-cons, All-head, All-tail, All-append, All-drop, All-get_or, All-take, All-weaker}
use Rattle.std.proofs.lemmas.List.Sorted.{All-permutation, IsPermutation-append_comm, IsPermutation-append_left, IsPermutation-append_right, IsPermutation-trans}
use Rattle.abc_time.specs.declared.grains.Grains.{Grains}
use Rattle.abc_time.specs.Grains.{tick_at, tick_at-le}
use Rattle.abc_voices_score.specs.Limits.{IsProgramWithin, IsSoundingWithin}
use Rattle.abc_voices_score.specs.declared.score.ProgramChange.{ProgramChange}
use Rattle.abc_voices_score.specs.declared.score.Sounding.{Sounding}
use Rattle.smf_bytes.specs.declared.event.Event.{Event}
use Rattle.smf_bytes.specs.Event.{end_event, note_events, note_off, note_on}
use Rattle.smf_bytes.specs.Groups.{AreInTurn}
use Rattle.smf_bytes.specs.Number.{number_text}
use Rattle.smf_bytes.specs.Order.{in_order}
use Rattle.smf_bytes.specs.Track.{Follows, tick_after, timed_events, track_body, voice_events}
use Rattle.smf_bytes.proofs.Lengths.{voice_ticks}
use Rattle.smf_bytes.proofs.Ordered.{Rises, is_permutation, is_sorted, less, rises, sorted_from, sorted_is_in_order, stays}
use Rattle.smf_bytes.proofs.Timed.{closed, follows_sorted, timed-append}

-- events at a tick or earlier; at the tick only notes off and programs
abbrev Before : ℕ → Event → Type 0
Before t event = 4 * event.tick + event.class ≤ 4 * t + 2

-- events at a tick or later; at the tick only notes on
abbrev After : ℕ → Event → Type 0
After t event = (4 * t + 3 ≤ 4 * event.tick + event.class) × (event.class ≤ 3)

not_less : (x y : Event) → 4 * x.tick + x.class < 4 * y.tick + y.class → y.class ≤ 3 → less y x ≡ false
not_less x y before small =
    let keys = λ (o : Ordering). is_lt (ordering_then o (ordering_then (nat_cmp y.class x.class) (ordering_then (nat_cmp y.key x.key) (slice_cmp nat_cmp y.bytes x.bytes)))) in
    elim (cases_lt x.tick y.tick) [
      | inl earlier ↦ let e : nat_cmp y.tick x.tick ≡ Greater = grind (arith, nat_tests) in ap keys e
      | inr other ↦
          let tick : x.tick ≡ y.tick = omega arith in
          let first : x.class < y.class = omega arith in
          let e : nat_cmp y.tick x.tick ≡ Equal = grind (arith, nat_tests) in
          let f : nat_cmp y.class x.class ≡ Greater = grind (arith, nat_tests) in
          ap keys e ∙ ap (λ (o : Ordering). is_lt (ordering_then o (ordering_then (nat_cmp y.key x.key) (slice_cmp nat_cmp y.bytes x.bytes)))) f
    ]

rises-append : (t : ℕ) (xs ys : List Event) → Rises xs → Rises ys → All (Before t) xs → All (After t) ys → Rises (xs ++ ys)
rises-append t [] ys f g a b = g
rises-append t (x ∷ []) [] f g a b = tt
rises-append t (x ∷ []) (y ∷ ys) f g a b =
    let low : 4 * x.tick + x.class ≤ 4 * t + 2 = All-head (Before t) x [] a in
    let high : (4 * t + 3 ≤ 4 * y.tick + y.class) × (y.class ≤ 3) = All-head (After t) y ys b in
    (not_less x y (omega arith) high.1, g)
rises-append t (x ∷ x' ∷ xs) ys f g a b = (f.0, rises-append t (x' ∷ xs) ys f.1 g (All-tail (Before t) x (x' ∷ xs) a) b)

-- the sorted list of events, of which some come before a moment and the others after it
pub in_order-append : (t : ℕ) (xs ys : List Event) → All (Before t) xs → All (After t) ys → in_order (ys ++ xs) ≡ in_order xs ++ in_order ys
in_order-append t xs ys a b =
    let before = in_order xs in
    let after = in_order ys in
    let same : IsPermutation (ys ++ xs) (before ++ after) =
    IsPermutation-trans (ys ++ xs) (xs ++ ys) (before ++ after) (IsPermutation-append_comm ys xs)
    (IsPermutation-trans (xs ++ ys) (before ++ ys) (before ++ after) (IsPermutation-append_left ys xs before (is_permutation xs))
    (IsPermutation-append_right before ys after (is_permutation ys))) in
    let one = All-permutation (Before t) xs before (is_permutation xs) a in
    let other = All-permutation (After t) ys after (is_permutation ys) b in
    sym (sorted_is_in_order (ys ++ xs) (before ++ after) same (sorted_from (before ++ after) (rises-append t before after (rises xs) (rises ys) one other)))

-- what holds of the on and the off of a note that is written holds of its events
pub each_event : (P : Event → Type 0) (channel : ℕ) (note : Sounding) → note.on.0 ≤ note.off.0
    → (tick_at note.on.0 < tick_at note.off.0 → P (note_on channel note.key note.velocity (tick_at note.on.0)) × P (note_off channel note.key (tick_at note.off.0)))
    → All P (note_events channel note)
each_event P channel note forward each =
    let on = note_on channel note.key note.velocity (tick_at note.on.0) in
    let off = note_off channel note.key (tick_at note.off.0) in
    let late : tick_at note.on.0 ≤ tick_at note.off.0 = tick_at-le note.on.0 note.off.0 forward in
    elim (cases_Bool (tick_at note.on.0 == tick_at note.off.0)) [
      | inl same ↦ subst (All P) (sym (ap (λ b. cond b [] (on ∷ off ∷ [])) same)) (All-nil P)
      | inr other ↦
          let later : tick_at note.on.0 < tick_at note.off.0 = grind (arith, nat_tests) in
          let both = each later in
          subst (All P) (sym (ap (λ b. cond b [] (on ∷ off ∷ [])) other)) (All-cons P on (off ∷ []) both.0 (All-cons P off [] both.1 (All-nil P)))
    ]

pub each_events : (P : Event → Type 0) (R : Sounding → Type 0) (channel : ℕ) → ((note : Sounding) → R note → All P (note_events channel note)) → (notes : List Sounding)
    → All R notes → All P (flat_map (note_events channel) notes)
each_events P R channel each [] h = All-nil P
each_events P R channel each (note ∷ notes) h =
    All-append P (note_events channel note) (flat_map (note_events channel) notes) (each note (All-head R note notes h))
    (each_events P R channel each notes (All-tail R note notes h))

both : (P R : Sounding → Type 0) (notes : List Sounding) → All P notes → All R notes → All (λ note. P note × R note) notes
both P R [] h i = All-nil (λ note. P note × R note)
both P R (note ∷ notes) h i =
    All-cons (λ note. P note × R note) note notes (All-head P note notes h, All-head R note notes i)
    (both P R notes (All-tail P note notes h) (All-tail R note notes i))

ended : (channel bound : ℕ) (end : Grains) (note : Sounding) → IsSoundingWithin end note × (note.off.0 ≤ bound) → All (Before (tick_at bound)) (note_events channel note)
ended channel bound end note h =
    let off : tick_at note.off.0 ≤ tick_at bound = tick_at-le note.off.0 bound h.1 in
    each_event (Before (tick_at bound)) channel note h.0.forward (λ later. (omega arith, omega arith))

begun : (channel bound : ℕ) (end : Grains) (note : Sounding) → IsSoundingWithin end note × (bound ≤ note.on.0) → All (After (tick_at bound)) (note_events channel note)
begun channel bound end note h =
    let on : tick_at bound ≤ tick_at note.on.0 = tick_at-le bound note.on.0 h.1 in
    each_event (After (tick_at bound)) channel note h.0.forward (λ later. ((omega arith, omega arith), (omega arith, omega arith)))

-- the last notes of a list end before the others begin: their events come first
groups : (channel bound : ℕ) (end : Grains) (later group : List Sounding) → All (IsSoundingWithin end) later → All (IsSoundingWithin end) group
    → All (λ note. note.off.0 ≤ bound) group → All (λ note. bound ≤ note.on.0) later
    → in_order (voice_events channel [] (later ++ group)) ≡ in_order (voice_events channel [] group) ++ in_order (voice_events channel [] later)
groups channel bound end later group one other ends begins =
    let t = tick_at bound in
    let Ends = λ (note : Sounding). IsSoundingWithin end note × (note.off.0 ≤ bound) in
    let Begins = λ (note : Sounding). IsSoundingWithin end note × (bound ≤ note.on.0) in
    let before = each_events (Before t) Ends channel (ended channel bound end) group (both (IsSoundingWithin end) (λ note. note.off.0 ≤ bound) group other ends) in
    let after = each_events (After t) Begins channel (begun channel bound end) later (both (IsSoundingWithin end) (λ note. bound ≤ note.on.0) later one begins) in
    ap in_order (flat_map-append (note_events channel) later group)
    ∙ in_order-append t (flat_map (note_events channel) group) (flat_map (note_events channel) later) before after

-- a list that is cut where a group begins
pub cut : (channel bound start : ℕ) (end : Grains) (left later group : List Sounding) → later ≡ take start left → group ≡ drop start left → All (IsSoundingWithin end) left
    → All (λ note. note.off.0 ≤ bound) (drop start left) → All (λ note. bound ≤ note.on.0) (take start left)
    → in_order (voice_events channel [] left) ≡ in_order (voice_events channel [] group) ++ in_order (voice_events channel [] later)
cut channel bound start end left later group f g within ends begins =
    let own = λ (notes : List Sounding). in_order (voice_events channel [] notes) in
    let P = IsSoundingWithin end in
    ap own (sym (take-append-drop start left))
    ∙ groups channel bound end (take start left) (drop start left) (All-take P start left within) (All-drop P start left within) ends begins
    ∙ (λ i. own (sym g i) ++ own (sym f i))

pub some_left : (notes : List Sounding) → (length notes == 0) ≡ false → 0 < length notes
some_left [] e = cc
some_left (note ∷ notes) e = omega arith

pub none_left : (notes : List Sounding) → (length notes == 0) ≡ true → notes ≡ []
none_left notes e = let none : length notes ≡ 0 = grind (arith, nat_tests) in nil_from_length notes none

-- one group more is written
pub written_on : (out out' whole : List ℕ) (before before' : ℕ) (all front back end : List Event) → all ≡ front ++ back → out' ≡ out ++ timed_events before front
    → before' ≡ tick_after before front → out ++ timed_events before (all ++ end) ≡ whole → out' ++ timed_events before' (back ++ end) ≡ whole
written_on out out' whole before before' all front back end e f g w =
    let after = tick_after before front in
    (λ i. f i ++ timed_events (g i) (back ++ end))
    ∙ append_assoc out (timed_events before front) (timed_events after (back ++ end))
    ∙ ap (λ l. out ++ l) (sym (timed-append before front (back ++ end)) ∙ ap (timed_events before) (sym (append_assoc front back end) ∙ ap (λ l. l ++ end) (sym e)))
    ∙ w

-- a note whose on and off fall on one tick has no events
pub silent : (channel : ℕ) (note : Sounding) → tick_at note.on.0 ≡ tick_at note.off.0 → note_events channel note ≡ []
silent channel note same =
    let e : (tick_at note.on.0 == tick_at note.off.0) ≡ true = grind (arith, nat_tests) in
    ap (λ b. cond b [] (note_on channel note.key note.velocity (tick_at note.on.0) ∷ note_off channel note.key (tick_at note.off.0) ∷ [])) e

pub sounds : (channel : ℕ) (note : Sounding) → tick_at note.on.0 < tick_at note.off.0
    → note_events channel note ≡ note_on channel note.key note.velocity (tick_at note.on.0) ∷ note_off channel note.key (tick_at note.off.0) ∷ []
sounds channel note later =
    let e : (tick_at note.on.0 == tick_at note.off.0) ≡ false = grind (arith, nat_tests) in
    ap (λ b. cond b [] (note_on channel note.key note.velocity (tick_at note.on.0) ∷ note_off channel note.key (tick_at note.off.0) ∷ [])) e

-- the events of one note are in their order
ordered : (channel : ℕ) (note : Sounding) → note.on.0 ≤ note.off.0 → in_order (note_events channel note) ≡ note_events channel note
ordered channel note forward =
    let on = note_on channel note.key note.velocity (tick_at note.on.0) in
    let off = note_off channel note.key (tick_at note.off.0) in
    let late : tick_at note.on.0 ≤ tick_at note.off.0 = tick_at-le note.on.0 note.off.0 forward in
    elim (cases_lt (tick_at note.on.0) (tick_at note.off.0)) [
      | inl later ↦
          let e = sounds channel note later in
          let up : Rises (on ∷ off ∷ []) = (not_less on off (omega arith) (omega arith), tt) in
          ap in_order e ∙ stays (on ∷ off ∷ []) up ∙ sym e
      | inr other ↦
          let same : tick_at note.on.0 ≡ tick_at note.off.0 = omega arith in
          let e = silent channel note same in
          ap in_order e ∙ sym e
    ]

one_note : (notes : List Sounding) (d : Sounding) → length notes ≡ 1 → notes ≡ get_or notes 0 d ∷ []
one_note [] d e = cc
one_note (note ∷ []) d e = refl
one_note (note ∷ other ∷ notes) d e = absurd (omega arith)

pub alone : (channel : ℕ) (end : Grains) (notes : List Sounding) (d : Sounding) → length notes ≡ 1 → All (IsSoundingWithin end) notes
    → in_order (voice_events channel [] notes) ≡ note_events channel (get_or notes 0 d)
alone channel end notes d single within =
    let note = get_or notes 0 d in
    let own = All-get_or (IsSoundingWithin end) notes 0 d (omega arith) within in
    ap (λ (l : List Sounding). in_order (voice_events channel [] l)) (one_note notes d single)
    ∙ ap in_order (append-nil (note_events channel note)) ∙ ordered channel note own.forward

-- all events of a voice end in time
pub all_follow : (end : Grains) (channel : ℕ) (programs : List ProgramChange) (notes : List Sounding) → All (IsProgramWithin end) programs → All (IsSoundingWithin end) notes
    → Follows (tick_at end.0) 0 (in_order (voice_events channel programs notes))
all_follow end channel programs notes first within =
    let events = voice_events channel programs notes in
    follows_sorted (tick_at end.0) events (in_order events) (voice_ticks end channel programs notes first within) (is_permutation events) (is_sorted events)

-- the end of the last group
pub all_written : (out out' : List ℕ) (last tick end : ℕ) (events : List Event) → out' ≡ out ++ timed_events 0 (in_order events) → last ≡ tick_after 0 (in_order events)
    → tick ≡ end → (out' ++ number_text (tick - last)) ++ (255 ∷ 47 ∷ 0 ∷ []) ≡ out ++ track_body end events
unfolding track_body
all_written out out' last tick end events f g e =
    let whole = out ++ timed_events 0 (in_order events ++ end_event end ∷ []) in
    closed out' whole last tick end e
    (written_on out out' whole 0 last (in_order events) (in_order events) [] (end_event end ∷ []) (sym (append-nil (in_order events))) f g refl)

pub turn_take : (n : ℕ) (notes : List Sounding) → AreInTurn notes → AreInTurn (take n notes)
turn_take zero [] h = tt
turn_take zero (x ∷ xs) h = tt
turn_take (suc n) [] h = tt
turn_take (suc zero) (x ∷ []) h = tt
turn_take (suc zero) (x ∷ y ∷ ys) h = tt
turn_take (suc (suc n)) (x ∷ []) h = tt
turn_take (suc (suc n)) (x ∷ y ∷ ys) h = (h.0, turn_take (suc n) (y ∷ ys) h.1)

turn_to : (notes : List Sounding) (k : ℕ) (d : Sounding) (bound : ℕ) → AreInTurn notes → k < length notes → bound ≤ (get_or notes k d).on.0
    → All (λ note. bound ≤ note.on.0) (take (suc k) notes)
turn_to [] k d bound turn within first = absurd (omega arith)
turn_to (x ∷ xs) zero d bound turn within first = All-cons (λ note. bound ≤ note.on.0) x [] first (All-nil (λ note. bound ≤ note.on.0))
turn_to (x ∷ []) (suc k) d bound turn within first = absurd (omega arith)
turn_to (x ∷ y ∷ ys) (suc k) d bound turn within first =
    let P = λ (note : Sounding). bound ≤ note.on.0 in
    let rest = turn_to (y ∷ ys) k d bound turn.1 (omega arith) first in
    let next : bound ≤ y.on.0 = All-head P y (take k ys) rest in
    let this : y.on.0 ≤ x.on.0 = turn.0 in
    All-cons P x (take (suc k) (y ∷ ys)) (omega arith) rest

-- the notes before a group begin after the last of them does
pub turn_front : (notes : List Sounding) (start : ℕ) (d : Sounding) (bound : ℕ) → AreInTurn notes → 0 < start → start ≤ length notes
    → bound ≤ (get_or notes (start - 1) d).on.0 → All (λ note. bound ≤ note.on.0) (take start notes)
turn_front notes start d bound turn some within first =
    let last : suc (start - 1) ≡ start = omega arith in
    subst (λ (n : ℕ). All (λ note. bound ≤ note.on.0) (take n notes)) last (turn_to notes (start - 1) d bound turn (omega arith) first)

raise : (bound bound' n : ℕ) → bound ≤ bound' → n ≤ bound → n ≤ bound'
raise bound bound' n more h = omega arith

-- one more note in a group
pub group_more : (notes : List Sounding) (start start' bound bound' : ℕ) (d : Sounding) → start ≡ start' + 1 → start' < length notes → (get_or notes start' d).off.0 ≤ bound'
    → bound ≤ bound' → All (λ note. note.off.0 ≤ bound) (drop start notes) → All (λ note. note.off.0 ≤ bound') (drop start' notes)
group_more notes start start' bound bound' d e within here more rest =
    let P = λ (note : Sounding). note.off.0 ≤ bound in
    let Q = λ (note : Sounding). note.off.0 ≤ bound' in
    let next : start ≡ suc start' = omega arith in
    let others : All Q (drop (suc start') notes) =
    All-weaker P Q (λ note h. raise bound bound' note.off.0 more h) (drop (suc start') notes) (subst (λ (k : ℕ). All P (drop k notes)) next rest) in
    subst (All Q) (sym (drop-cons notes start' d within)) (All-cons Q (get_or notes start' d) (drop (suc start') notes) here others)
