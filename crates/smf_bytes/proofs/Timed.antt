-- The events of a track in their order, each after its delta time.
use Rattle.std.proofs.Common.{◌≡◌, ℕ, ◌-◌, ◌^◌, ◌<◌, ◌≤◌, true, false, List, [], ◌∷◌, ◌++◌, inl, inr, arith, refl, sym, ap, ◌∙◌}
use Rattle.std.specs.List.{All}
use Rattle.std.specs.List.Sorted.{IsPermutation, IsSorted}
use Rattle.std.specs.Ordering.{nat_cmp, ordering_then, is_lt}
use Rattle.std.specs.declared.cmp.Ordering.TheVariants.{Less}
use Rattle.std.specs.Cmp.Lexicographic.{slice_cmp}
use Rattle.std.proofs.lemmas.Bool.{cases_lt}
use Rattle.std.proofs.lemmas.Bool.Decides.{nat_tests}
use Rattle.std.proofs.lemmas.List.{append_assoc, append-nil}
use Rattle.std.proofs.lemmas.List.Elements.{All-head, All-tail}
use Rattle.std.proofs.lemmas.List.Sorted.{All-permutation}
use Rattle.abc_time.specs.Grains.{grains_of_the_latest_end, tick_at, tick_at-below}
use Rattle.smf_bytes.specs.declared.event.Event.{Event}
use Rattle.smf_bytes.specs.Number.{number_text}
use Rattle.smf_bytes.specs.Order.{event_cmp}
use Rattle.smf_bytes.specs.Event.{end_event}
use Rattle.smf_bytes.specs.Track.{Follows, tick_after, timed_events}
use Rattle.smf_bytes.proofs.Ordered.{Rises, less, rises_from}

not_later : (a b : Event) → less b a ≡ false → a.tick ≤ b.tick
not_later a b h =
    elim (cases_lt b.tick a.tick) [
      | inl earlier ↦
          let first : nat_cmp b.tick a.tick ≡ Less = grind (arith, nat_tests) in
          let sooner : less b a ≡ true =
          ap (λ o. is_lt (ordering_then o (ordering_then (nat_cmp b.class a.class) (ordering_then (nat_cmp b.key a.key) (slice_cmp nat_cmp b.bytes a.bytes))))) first in
          cc
      | inr right ↦ right
    ]

follows_first : (end : ℕ) (x : Event) (xs : List Event) → Rises (x ∷ xs) → All (λ event. event.tick ≤ end) (x ∷ xs) → Follows end x.tick xs
follows_first end x [] r a = All-head (λ event. event.tick ≤ end) x [] a
follows_first end x (y ∷ ys) r a =
    let rest : All (λ event. event.tick ≤ end) (y ∷ ys) = All-tail (λ event. event.tick ≤ end) x (y ∷ ys) a in
    (not_later x y r.0, All-head (λ event. event.tick ≤ end) y ys rest, follows_first end y ys r.1 rest)

follows_all : (end : ℕ) (xs : List Event) → Rises xs → All (λ event. event.tick ≤ end) xs → Follows end 0 xs
follows_all end [] r a = omega arith
follows_all end (x ∷ xs) r a = (omega arith, All-head (λ event. event.tick ≤ end) x xs a, follows_first end x xs r a)

-- sorted events that end in time
pub follows_sorted : (end : ℕ) (events ordered : List Event) → All (λ event. event.tick ≤ end) events → IsPermutation events ordered → IsSorted event_cmp ordered → Follows end 0 ordered
follows_sorted end events ordered a p s =
    follows_all end ordered (rises_from ordered s) (All-permutation (λ event. event.tick ≤ end) events ordered p a)

pub follows_start : (end before : ℕ) (xs : List Event) → Follows end before xs → before ≤ end
follows_start end before [] h = h
follows_start end before (x ∷ xs) h = let first : before ≤ x.tick = h.0 in let last : x.tick ≤ end = h.1 in omega arith

-- ticks are numbers of 28 bits
pub tick_fits : (end : ℕ) → end ≤ grains_of_the_latest_end → tick_at end < 2 ^ 28
tick_fits end early = omega (arith, tick_at-below end early)

-- events that follow, cut in two
pub follows_front : (end before : ℕ) (xs ys : List Event) → Follows end before (xs ++ ys) → Follows end before xs
follows_front end before [] [] h = h
follows_front end before [] (y ∷ ys) h = follows_start end before (y ∷ ys) h
follows_front end before (x ∷ xs) ys h = (h.0, h.1, follows_front end x.tick xs ys h.2)

pub follows_back : (end before : ℕ) (xs ys : List Event) → Follows end before (xs ++ ys) → Follows end (tick_after before xs) ys
follows_back end before [] ys h = h
follows_back end before (x ∷ xs) ys h = follows_back end x.tick xs ys h.2

pub follows_end : (end before : ℕ) (xs : List Event) → Follows end before xs → tick_after before xs ≤ end
follows_end end before [] h = h
follows_end end before (x ∷ xs) h = follows_end end x.tick xs h.2

pub timed-append : (before : ℕ) (xs ys : List Event) → timed_events before (xs ++ ys) ≡ timed_events before xs ++ timed_events (tick_after before xs) ys
timed-append before [] ys = refl
timed-append before (x ∷ xs) ys =
    let own = number_text (x.tick - before) ++ x.bytes in
    ap (λ l. own ++ l) (timed-append x.tick xs ys) ∙ sym (append_assoc own (timed_events x.tick xs) (timed_events (tick_after x.tick xs) ys))

-- the end of the track, written out
pub closed : (body whole : List ℕ) (before last end : ℕ) → last ≡ end → body ++ timed_events before (end_event end ∷ []) ≡ whole
    → (body ++ number_text (last - before)) ++ (255 ∷ 47 ∷ 0 ∷ []) ≡ whole
unfolding number_text
closed body whole before last end e h =
    append_assoc body (number_text (last - before)) (255 ∷ 47 ∷ 0 ∷ [])
    ∙ ap (λ (n : ℕ). body ++ (number_text (n - before) ++ 255 ∷ 47 ∷ 0 ∷ [])) e
    ∙ ap (λ l. body ++ l) (sym (append-nil (number_text (end - before) ++ 255 ∷ 47 ∷ 0 ∷ []))) ∙ h
