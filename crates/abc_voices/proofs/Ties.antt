-- The walk from the last time token to the first makes one note of each chain of joined tones.
use Rattle.std.proofs.Common.{◌≡◌, ℕ, suc, ◌+◌, ◌≤◌, nat_lt, Bool, true, false, cond, not, List, [], ◌∷◌, ◌++◌, length, map, Option, Some, None, refl}
use Rattle.std.proofs.Common.{sym, ap, subst, ◌∙◌, append-nil, append_assoc, inl, inr, arith}
use Rattle.std.proofs.lemmas.Bool.{eqb-true, eqb-false, eq-eqb, ne_eqb, lt-ltb, le-ltb, cases_lt, cases_Bool, and_right}
use Rattle.std.specs.Prelude.{◌==◌, ◌&&◌, position, remove, slice_index_or, option_map}
use Rattle.std.specs.List.{prefix_len}
use Rattle.abc_bars_items.specs.declared.item.Item.{Item}
use Rattle.abc_bars_items.specs.declared.item.Tone.{Tone}
use Rattle.abc_voices_score.specs.declared.score.Sounding.{Sounding}
use Rattle.abc_voices.specs.Layout.{all_notes, played_sections, voice_notes}
use Rattle.abc_voices_sections.specs.PlayedSection.{section_length, play_in}
use Rattle.abc_voices.specs.TiedNotes.{TokenNotes, Notes, own_note, with_note, with_key, with_tones, next_place, before, before_all, notes_from}
use Rattle.abc_voices_sections.specs.Step.{length_of, tones_of}
use Rattle.abc_voices.specs.Track.{voice_names, tracks}
use Rattle.abc_voices.specs.Ties.{TimeToken, with_token, tokens_from, tokens_in, has_key, tones_with, tied_with, tone_at, end_by, chain_end, chain_note}
use Rattle.abc_voices.specs.Ties.{chain_notes, tie_chains, heard_notes, PlaysChains, VoicesPlayChains}

-- the first note of a key, and the others
abbrev first_off : ℕ → ℕ → List Sounding → ℕ
first_off key own [] = own
first_off key own (note ∷ notes) = cond (note.key == key) note.off.0 (first_off key own notes)

abbrev without_first : ℕ → List Sounding → List Sounding
without_first key [] = []
without_first key (note ∷ notes) = cond (note.key == key) notes (note ∷ without_first key notes)

abbrev taken : Sounding → List Sounding → Option ℕ → Sounding × List Sounding
taken note next None = (note, next)
taken note next (Some place) = (record note { off = (slice_index_or next place note).off }, remove next place)

taken_by : (note : Sounding) (linked : TokenNotes) (place : Option ℕ)
    → with_note note linked place ≡ record { begun = linked.begun ++ (taken note linked.next place).0 ∷ []; next = (taken note linked.next place).1 }
taken_by note linked None = refl
taken_by note linked (Some place) = refl

abbrev place_if : ℕ → ℕ → Option ℕ
place_if n m = cond (nat_lt n m) (Some n) None

later : (n m : ℕ) → place_if (1 + n) (suc m) ≡ option_map suc (place_if n m)
later n m =
    elim (cases_lt n m) [
      | inl lt ↦
          let e : 1 + n ≡ suc n = omega arith in
          ap (λ b. cond b (Some (1 + n)) None) (lt-ltb (1 + n) (suc m) (omega arith)) ∙ ap Some e
          ∙ ap (λ b. option_map suc (cond b (Some n) None)) (sym (lt-ltb n m lt))
      | inr ge ↦
          ap (λ b. cond b (Some (1 + n)) None) (le-ltb (1 + n) (suc m) (omega arith))
          ∙ ap (λ b. option_map suc (cond b (Some n) None)) (sym (le-ltb n m ge))
    ]

place_next : (b : Bool) (n m : ℕ) → place_if (cond (not b) (1 + n) 0) (suc m) ≡ cond b (Some 0) (option_map suc (place_if n m))
place_next true n m = ap (λ b. cond b (Some 0) None) (lt-ltb 0 (suc m) (omega arith))
place_next false n m = later n m

position_cons : {X : Type 0} (p : X → Bool) (x : X) (xs : List X) → position p (x ∷ xs) ≡ cond (p x) (Some 0) (option_map suc (position p xs))
position_cons p x xs = place_next (p x) (prefix_len (λ y. not (p y)) xs) (length xs)

-- the note that is taken, and the notes that are left
abbrev result_of : ℕ → Sounding → List Sounding → Sounding × List Sounding
result_of key note next = (record note { off = record { 0 = first_off key note.off.0 next } }, without_first key next)

taken_later : (note one : Sounding) (next : List Sounding) (place : Option ℕ)
    → taken note (one ∷ next) (option_map suc place) ≡ ((taken note next place).0, one ∷ (taken note next place).1)
taken_later note one next None = refl
taken_later note one next (Some place) = refl

taken_next : (key : ℕ) (note one : Sounding) (next : List Sounding) (place : Option ℕ) (b : Bool)
    → taken note next place ≡ result_of key note next
    → taken note (one ∷ next) (cond b (Some 0) (option_map suc place))
    ≡ (record note { off = record { 0 = cond b one.off.0 (first_off key note.off.0 next) } }, cond b next (one ∷ without_first key next))
taken_next key note one next place true h = refl
taken_next key note one next place false h =
    taken_later note one next place ∙ ap {B = Sounding × List Sounding} (λ (t : Sounding × List Sounding). (t.0, one ∷ t.1)) h

first_taken : (key : ℕ) (note : Sounding) (next : List Sounding) → taken note next (position (λ one. one.key == key) next) ≡ result_of key note next
first_taken key note [] = refl
first_taken key note (one ∷ next) =
    ap (taken note (one ∷ next)) (position_cons (λ one. one.key == key) one next)
    ∙ taken_next key note one next (position (λ one. one.key == key) next) (one.key == key) (first_taken key note next)

-- a tied tone takes the first note of its key
with_taken : (key : ℕ) (note : Sounding) (linked : TokenNotes)
    → with_note note linked (position (λ one. one.key == key) linked.next)
    ≡ record { begun = linked.begun ++ (result_of key note linked.next).0 ∷ []; next = (result_of key note linked.next).1 }
with_taken key note linked =
    taken_by note linked (position (λ one. one.key == key) linked.next)
    ∙ ap {B = TokenNotes} (λ (t : Sounding × List Sounding). record { begun = linked.begun ++ t.0 ∷ []; next = t.1 }) (first_taken key note linked.next)

-- notes by other numbers of tied tones
begun_same : (f g : ℕ → ℕ) → ((key : ℕ) → f key ≡ g key) → (at : ℕ) (past : List Tone) (tone : Tone) (tokens : List TimeToken) (key : Option ℕ)
    → chain_note f at past tone tokens key ≡ chain_note g at past tone tokens key
begun_same f g same at past tone tokens None = refl
begun_same f g same at past tone tokens (Some key) =
    ap (λ n. cond (nat_lt (tones_with key past) n) [] (record {
      key = key;
      on = record { 0 = at };
      off = record { 0 = chain_end at tone key (tied_with key past) tokens };
      velocity = tone.velocity;
    } ∷ [])) (same key)

both : {X : Type 0} {a b c d : List X} → a ≡ b → c ≡ d → a ++ c ≡ b ++ d
both {b = b} {c = c} p q = ap (λ x. x ++ c) p ∙ ap (λ y. b ++ y) q

all_same : (f g : ℕ → ℕ) → ((key : ℕ) → f key ≡ g key) → (at : ℕ) (past tones : List Tone) (tokens : List TimeToken)
    → chain_notes f at past tones tokens ≡ chain_notes g at past tones tokens
all_same f g same at past [] tokens = refl
all_same f g same at past (tone ∷ tones) tokens =
    both (begun_same f g same at past tone tokens tone.key) (all_same f g same at (tone ∷ past) tones tokens)

-- one more tied tone of a key
record IsOneMore (key : ℕ) (tied more : ℕ → ℕ) : Type 0 where
  here : more key ≡ suc (tied key)
  there : (other : ℕ) → (other == key) ≡ false → more other ≡ tied other

grows : (key : ℕ) (b : Bool) (n : ℕ) → n ≤ cond b (suc n) n
grows key true n = omega arith
grows key false n = omega arith

-- after as many tones of the key as are tied, one more makes no difference
begun_past : (key : ℕ) (tied more : ℕ → ℕ) → IsOneMore key tied more → (at : ℕ) (past : List Tone) (tone : Tone) (tokens : List TimeToken) (own : Option ℕ)
    → suc (tied key) ≤ tones_with key past
    → chain_note tied at past tone tokens own ≡ chain_note more at past tone tokens own
begun_past key tied more one at past tone tokens None far = refl
begun_past key tied more one at past tone tokens (Some own) far =
    let N : List Sounding = record { key = own; on = record { 0 = at }; off = record { 0 = chain_end at tone own (tied_with own past) tokens }; velocity = tone.velocity } ∷ [] in
    elim (cases_Bool (own == key)) [
      | inl is_own ↦
          let is : own ≡ key = eqb-true own key is_own in
          let m : more own ≡ suc (tied own) = subst (λ k. more k ≡ suc (tied k)) (sym is) one.here in
          let far_own : suc (tied own) ≤ tones_with own past = subst (λ k. suc (tied k) ≤ tones_with k past) (sym is) far in
          ap (λ b. cond b [] N) (le-ltb (tones_with own past) (tied own) (omega arith))
          ∙ ap (λ b. cond b [] N) (sym (le-ltb (tones_with own past) (more own) (omega arith)))
      | inr apart ↦ ap (λ n. cond (nat_lt (tones_with own past) n) [] N) (sym (one.there own apart))
    ]

all_past : (key : ℕ) (tied more : ℕ → ℕ) → IsOneMore key tied more → (at : ℕ) (past tones : List Tone) (tokens : List TimeToken)
    → suc (tied key) ≤ tones_with key past
    → chain_notes tied at past tones tokens ≡ chain_notes more at past tones tokens
all_past key tied more one at past [] tokens far = refl
all_past key tied more one at past (tone ∷ tones) tokens far =
    let next : tones_with key past ≤ tones_with key (tone ∷ past) = grows key (has_key key tone.key) (tones_with key past) in
    both (begun_past key tied more one at past tone tokens tone.key far)
    (all_past key tied more one at (tone ∷ past) tones tokens (omega arith))

-- what ends with the next tone of a key
abbrev following : List TimeToken → ℕ → ℕ → Tone × ℕ → ℕ
following tokens at key other = chain_end at other.0 key other.1 tokens

-- the first note of a key is that of the tone after as many of the key as are tied
record IsTaken (key : ℕ) (tied more : ℕ → ℕ) (at own : ℕ) (past tones : List Tone) (tokens : List TimeToken) : Type 0 where
  left : without_first key (chain_notes tied at past tones tokens) ≡ chain_notes more at past tones tokens
  off : first_off key own (chain_notes tied at past tones tokens) ≡ end_by own (following tokens at key) (tone_at key (tied key) past tones)

-- words of a note, if there is one, before others
without_if : (key : ℕ) (b : Bool) (note : Sounding) (notes : List Sounding) → (note.key == key) ≡ false
    → without_first key (cond b [] (note ∷ []) ++ notes) ≡ cond b [] (note ∷ []) ++ without_first key notes
without_if key true note notes apart = refl
without_if key false note notes apart = ap (λ q. cond q notes (note ∷ without_first key notes)) apart

off_if : (key own : ℕ) (b : Bool) (note : Sounding) (notes : List Sounding) → (note.key == key) ≡ false
    → first_off key own (cond b [] (note ∷ []) ++ notes) ≡ first_off key own notes
off_if key own true note notes apart = refl
off_if key own false note notes apart = ap (λ q. cond q note.off.0 (first_off key own notes)) apart

take_other : (key : ℕ) (tied more : ℕ → ℕ) → IsOneMore key tied more → (at own : ℕ) (past : List Tone) (tone : Tone) (tones : List Tone) (tokens : List TimeToken)
    (other : ℕ) → tone.key ≡ Some other → (other == key) ≡ false
    → IsTaken key tied more at own (tone ∷ past) tones tokens
    → IsTaken key tied more at own past (tone ∷ tones) tokens
take_other key tied more one at own past tone tones tokens other is apart rest =
    let N : Sounding = record { key = other; on = record { 0 = at }; off = record { 0 = chain_end at tone other (tied_with other past) tokens }; velocity = tone.velocity } in
    let T : List Sounding = chain_notes tied at (tone ∷ past) tones tokens in
    let M : List Sounding = chain_notes more at (tone ∷ past) tones tokens in
    let b : Bool = nat_lt (tones_with other past) (tied other) in
    let open_tied : chain_notes tied at past (tone ∷ tones) tokens ≡ cond b [] (N ∷ []) ++ T = ap (λ k. chain_note tied at past tone tokens k ++ T) is in
    let open_more : chain_notes more at past (tone ∷ tones) tokens ≡ cond b [] (N ∷ []) ++ M =
    ap (λ k. chain_note more at past tone tokens k ++ M) is ∙ ap (λ n. cond (nat_lt (tones_with other past) n) [] (N ∷ []) ++ M) (one.there other apart) in
    let passed : tone_at key (tied key) past (tone ∷ tones) ≡ tone_at key (tied key) (tone ∷ past) tones =
    ap (λ q. cond (q && (tones_with key past == tied key)) (Some (tone, tied_with key past)) (tone_at key (tied key) (tone ∷ past) tones))
    (ap (has_key key) is ∙ apart) in
    record {
      left = ap (without_first key) open_tied ∙ without_if key b N T apart ∙ ap (λ n. cond b [] (N ∷ []) ++ n) rest.left ∙ sym open_more;
      off = ap (first_off key own) open_tied ∙ off_if key own b N T apart ∙ rest.off ∙ ap (end_by own (following tokens at key)) (sym passed);
    }

take_own : (key : ℕ) (tied more : ℕ → ℕ) → IsOneMore key tied more → (at own : ℕ) (past : List Tone) (tone : Tone) (tones : List Tone) (tokens : List TimeToken)
    → tone.key ≡ Some key → tones_with key past ≤ tied key
    → (tones_with key (tone ∷ past) ≤ tied key → IsTaken key tied more at own (tone ∷ past) tones tokens)
    → IsTaken key tied more at own past (tone ∷ tones) tokens
take_own key tied more one at own past tone tones tokens is few rest =
    let count : ℕ = tones_with key past in
    let N : Sounding = record { key = key; on = record { 0 = at }; off = record { 0 = chain_end at tone key (tied_with key past) tokens }; velocity = tone.velocity } in
    let T : List Sounding = chain_notes tied at (tone ∷ past) tones tokens in
    let M : List Sounding = chain_notes more at (tone ∷ past) tones tokens in
    let is_own : (key == key) ≡ true = eq-eqb key key refl in
    let open_tied : chain_notes tied at past (tone ∷ tones) tokens ≡ cond (nat_lt count (tied key)) [] (N ∷ []) ++ T = ap (λ k. chain_note tied at past tone tokens k ++ T) is in
    let open_more : chain_notes more at past (tone ∷ tones) tokens ≡ cond (nat_lt count (more key)) [] (N ∷ []) ++ M = ap (λ k. chain_note more at past tone tokens k ++ M) is in
    let own_key : has_key key tone.key ≡ true = ap (has_key key) is ∙ is_own in
    let counted : tones_with key (tone ∷ past) ≡ suc count = ap (λ q. cond q (suc count) count) own_key in
    let more_is : more key ≡ suc (tied key) = one.here in
    let gone : chain_notes more at past (tone ∷ tones) tokens ≡ M =
    open_more ∙ ap (λ q. cond q [] (N ∷ []) ++ M) (lt-ltb count (more key) (omega arith)) in
    elim (cases_lt count (tied key)) [
      | inl lt ↦
          let next : IsTaken key tied more at own (tone ∷ past) tones tokens = rest (omega arith) in
          let joined : chain_notes tied at past (tone ∷ tones) tokens ≡ T = open_tied ∙ ap (λ q. cond q [] (N ∷ []) ++ T) (lt-ltb count (tied key) lt) in
          let passed : tone_at key (tied key) past (tone ∷ tones) ≡ tone_at key (tied key) (tone ∷ past) tones =
          ap (λ q. cond (q && (count == tied key)) (Some (tone, tied_with key past)) (tone_at key (tied key) (tone ∷ past) tones)) own_key
          ∙ ap (λ q. cond q (Some (tone, tied_with key past)) (tone_at key (tied key) (tone ∷ past) tones)) (ne_eqb count (tied key) (λ e. omega arith)) in
          record {
            left = ap (without_first key) joined ∙ next.left ∙ sym gone;
            off = ap (first_off key own) joined ∙ next.off ∙ ap (end_by own (following tokens at key)) (sym passed);
          }
      | inr ge ↦
          let begins : chain_notes tied at past (tone ∷ tones) tokens ≡ N ∷ T = open_tied ∙ ap (λ q. cond q [] (N ∷ []) ++ T) (le-ltb count (tied key) ge) in
          let found : tone_at key (tied key) past (tone ∷ tones) ≡ Some (tone, tied_with key past) =
          ap (λ q. cond (q && (count == tied key)) (Some (tone, tied_with key past)) (tone_at key (tied key) (tone ∷ past) tones)) own_key
          ∙ ap (λ q. cond q (Some (tone, tied_with key past)) (tone_at key (tied key) (tone ∷ past) tones)) (eq-eqb count (tied key) (omega arith)) in
          record {
            left = ap (without_first key) begins ∙ ap (λ q. cond q T (N ∷ without_first key T)) is_own
                ∙ all_past key tied more one at (tone ∷ past) tones tokens (omega arith) ∙ sym gone;
            off = ap (first_off key own) begins ∙ ap (λ q. cond q N.off.0 (first_off key own T)) is_own ∙ ap (end_by own (following tokens at key)) (sym found);
          }
    ]

take_none : (key : ℕ) (tied more : ℕ → ℕ) (at own : ℕ) (past : List Tone) (tone : Tone) (tones : List Tone) (tokens : List TimeToken)
    → tone.key ≡ None
    → IsTaken key tied more at own (tone ∷ past) tones tokens
    → IsTaken key tied more at own past (tone ∷ tones) tokens
take_none key tied more at own past tone tones tokens is rest =
    let T : List Sounding = chain_notes tied at (tone ∷ past) tones tokens in
    let M : List Sounding = chain_notes more at (tone ∷ past) tones tokens in
    let open_tied : chain_notes tied at past (tone ∷ tones) tokens ≡ T = ap (λ k. chain_note tied at past tone tokens k ++ T) is in
    let open_more : chain_notes more at past (tone ∷ tones) tokens ≡ M = ap (λ k. chain_note more at past tone tokens k ++ M) is in
    let passed : tone_at key (tied key) past (tone ∷ tones) ≡ tone_at key (tied key) (tone ∷ past) tones =
    ap (λ q. cond (q && (tones_with key past == tied key)) (Some (tone, tied_with key past)) (tone_at key (tied key) (tone ∷ past) tones)) (ap (has_key key) is) in
    record {
      left = ap (without_first key) open_tied ∙ rest.left ∙ sym open_more;
      off = ap (first_off key own) open_tied ∙ rest.off ∙ ap (end_by own (following tokens at key)) (sym passed);
    }

uncounted : (key : ℕ) (tone : Tone) (past : List Tone) (b : Bool) → has_key key tone.key ≡ b → b ≡ false → tones_with key (tone ∷ past) ≡ tones_with key past
uncounted key tone past b e f = ap (λ q. cond q (suc (tones_with key past)) (tones_with key past)) (e ∙ f)

take_step : (key : ℕ) (tied more : ℕ → ℕ) → IsOneMore key tied more → (at own : ℕ) (past : List Tone) (tone : Tone) (tones : List Tone) (tokens : List TimeToken)
    (k : Option ℕ) → tone.key ≡ k → tones_with key past ≤ tied key
    → (tones_with key (tone ∷ past) ≤ tied key → IsTaken key tied more at own (tone ∷ past) tones tokens)
    → IsTaken key tied more at own past (tone ∷ tones) tokens
take_step key tied more one at own past tone tones tokens None is few rest =
    let same : tones_with key (tone ∷ past) ≡ tones_with key past = uncounted key tone past false (ap (has_key key) is) refl in
    take_none key tied more at own past tone tones tokens is (rest (omega arith))
take_step key tied more one at own past tone tones tokens (Some other) is few rest =
    elim (cases_Bool (other == key)) [
      | inl is_own ↦ take_own key tied more one at own past tone tones tokens (is ∙ ap Some (eqb-true other key is_own)) few rest
      | inr apart ↦
          let same : tones_with key (tone ∷ past) ≡ tones_with key past = uncounted key tone past (other == key) (ap (has_key key) is) apart in
          take_other key tied more one at own past tone tones tokens other is apart (rest (omega arith))
    ]

take_all : (key : ℕ) (tied more : ℕ → ℕ) → IsOneMore key tied more → (at own : ℕ) (past tones : List Tone) (tokens : List TimeToken)
    → tones_with key past ≤ tied key → IsTaken key tied more at own past tones tokens
take_all key tied more one at own past [] tokens few = record { left = refl; off = refl }
take_all key tied more one at own past (tone ∷ tones) tokens few =
    take_step key tied more one at own past tone tones tokens tone.key refl few (take_all key tied more one at own (tone ∷ past) tones tokens)

-- the notes of a next time token that no tone is joined with yet
abbrev unjoined : (ℕ → ℕ) → List TimeToken → List Sounding
unjoined tied [] = []
unjoined tied (token ∷ tokens) = chain_notes tied token.at [] token.tones tokens

unjoined_same : (f g : ℕ → ℕ) → ((key : ℕ) → f key ≡ g key) → (tokens : List TimeToken) → unjoined f tokens ≡ unjoined g tokens
unjoined_same f g same [] = refl
unjoined_same f g same (token ∷ tokens) = all_same f g same token.at [] token.tones tokens

-- each tone begins a note by itself
single_run : (key at : ℕ) (past : List Tone) (tone : Tone) (tokens : List TimeToken)
    → chain_note (λ k. 0) at past tone tokens (Some key)
    ≡ record { key = key; on = record { 0 = at }; off = record { 0 = chain_end at tone key (tied_with key past) tokens }; velocity = tone.velocity } ∷ []
single_run key at past tone tokens =
    ap (λ b. cond b [] (record { key = key; on = record { 0 = at }; off = record { 0 = chain_end at tone key (tied_with key past) tokens }; velocity = tone.velocity } ∷ []))
    (le-ltb (tones_with key past) 0 (omega arith))

abbrev IsSameLinked : TokenNotes → TokenNotes → Type 0
IsSameLinked a b = a ≡ b

linked_by : {a b c d : List Sounding} → a ≡ b → c ≡ d → IsSameLinked (record { begun = a; next = c }) (record { begun = b; next = d })
linked_by {b = b} {c = c} p q = ap (λ x. record { begun = x; next = c }) p ∙ ap (λ y. record { begun = b; next = y }) q

-- a tone that is not tied ends its chain
untied : (at key number : ℕ) (tone : Tone) (tokens : List TimeToken) → tone.tied ≡ false → chain_end at tone key number tokens ≡ at + tone.length.0
untied at key number tone [] loose = refl
untied at key number tone (token ∷ tokens) loose =
    ap (λ t. end_by (at + tone.length.0) (following tokens token.at key) (cond t (tone_at key number [] token.tones) None)) loose

uncounted_tied : (key : ℕ) (tone : Tone) (past : List Tone) → (tone.tied && has_key key tone.key) ≡ false → tied_with key past ≡ tied_with key (tone ∷ past)
uncounted_tied key tone past e = sym (ap (λ q. cond q (suc (tied_with key past)) (tied_with key past)) e)

one_more : (key : ℕ) (tone : Tone) (past : List Tone) → tone.key ≡ Some key → tone.tied ≡ true
    → IsOneMore key (λ k. tied_with k past) (λ k. tied_with k (tone ∷ past))
one_more key tone past is tied =
    record {
      here = ap (λ q. cond q (suc (tied_with key past)) (tied_with key past))
          (ap (λ t. t && has_key key tone.key) tied ∙ ap (has_key key) is ∙ eq-eqb key key refl);
      there = λ other apart. sym (uncounted_tied other tone past
          (and_right tone.tied (has_key other tone.key) (ap (has_key other) is ∙ ne_eqb key other (λ e. eqb-false other key apart (sym e)))));
    }

-- the note of a tone by itself, and that of its chain
abbrev its_note : ℕ → Tone → ℕ → ℕ → Sounding
its_note key tone at off = record { key = key; on = record { 0 = at }; off = record { 0 = off }; velocity = tone.velocity }

-- a tied tone takes the note that it is joined with
tied_one : (at : ℕ) (tokens : List TimeToken) (begun : List Sounding) (past : List Tone) (tone : Tone) (key : ℕ)
    → tone.key ≡ Some key → tone.tied ≡ true
    → IsSameLinked (record {
      begun = begun ++ its_note key tone at (first_off key (at + tone.length.0) (unjoined (λ k. tied_with k past) tokens)) ∷ [];
      next = without_first key (unjoined (λ k. tied_with k past) tokens);
    }) (record { begun = begun ++ its_note key tone at (chain_end at tone key (tied_with key past) tokens) ∷ []; next = unjoined (λ k. tied_with k (tone ∷ past)) tokens })
tied_one at [] begun past tone key is tied = refl
tied_one at (token ∷ tokens) begun past tone key is tied =
    let end : ℕ = at + tone.length.0 in
    let took : IsTaken key (λ k. tied_with k past) (λ k. tied_with k (tone ∷ past)) token.at end [] token.tones tokens =
    take_all key (λ k. tied_with k past) (λ k. tied_with k (tone ∷ past)) (one_more key tone past is tied) token.at end [] token.tones tokens (omega arith) in
    linked_by
    (ap (λ off. begun ++ its_note key tone at off ∷ [])
    (took.off ∙ ap (λ t. end_by end (following tokens token.at key) (cond t (tone_at key (tied_with key past) [] token.tones) None)) (sym tied)))
    took.left

with_one : (at : ℕ) (tokens : List TimeToken) (begun : List Sounding) (past : List Tone) (tone : Tone) (key : Option ℕ) (tied : Bool)
    → tone.key ≡ key → tone.tied ≡ tied
    → IsSameLinked (with_key at tone (record { begun = begun; next = unjoined (λ k. tied_with k past) tokens }) key)
    (record { begun = begun ++ chain_note (λ k. 0) at past tone tokens key; next = unjoined (λ k. tied_with k (tone ∷ past)) tokens })
with_one at tokens begun past tone None tied is e =
    linked_by (sym (append-nil begun))
    (unjoined_same (λ k. tied_with k past) (λ k. tied_with k (tone ∷ past))
    (λ k. uncounted_tied k tone past (and_right tone.tied (has_key k tone.key) (ap (has_key k) is))) tokens)
with_one at tokens begun past tone (Some key) false is e =
    let next : List Sounding = unjoined (λ k. tied_with k past) tokens in
    ap (λ t. with_note (own_note at tone key) (record { begun = begun; next = next }) (next_place t key next)) e
    ∙ linked_by
    (ap (λ off. begun ++ its_note key tone at off ∷ []) (sym (untied at key (tied_with key past) tone tokens e))
    ∙ ap (λ notes. begun ++ notes) (sym (single_run key at past tone tokens)))
    (unjoined_same (λ k. tied_with k past) (λ k. tied_with k (tone ∷ past))
    (λ k. uncounted_tied k tone past (ap (λ t. t && has_key k tone.key) e)) tokens)
with_one at tokens begun past tone (Some key) true is e =
    let next : List Sounding = unjoined (λ k. tied_with k past) tokens in
    ap (λ t. with_note (own_note at tone key) (record { begun = begun; next = next }) (next_place t key next)) e
    ∙ with_taken key (own_note at tone key) (record { begun = begun; next = next })
    ∙ tied_one at tokens begun past tone key is e
    ∙ linked_by (ap (λ notes. begun ++ notes) (sym (single_run key at past tone tokens))) refl

moves : (counts : Bool) (all past tones : ℕ) → all ≡ past + cond counts (suc tones) tones → all ≡ cond counts (suc past) past + tones
moves true all past tones e = omega arith
moves false all past tones e = e

-- all tones of a time token, before the next one
joined_tones : (at : ℕ) (tokens : List TimeToken) (all : ℕ → ℕ) (begun : List Sounding) (past tones : List Tone)
    → ((key : ℕ) → all key ≡ tied_with key past + tied_with key tones)
    → IsSameLinked (with_tones at (record { begun = begun; next = unjoined (λ k. tied_with k past) tokens }) tones)
    (record { begun = begun ++ chain_notes (λ k. 0) at past tones tokens; next = unjoined all tokens })
joined_tones at tokens all begun past [] counts =
    linked_by (sym (append-nil begun)) (unjoined_same (λ k. tied_with k past) all (λ k. omega (arith, counts k)) tokens)
joined_tones at tokens all begun past (tone ∷ tones) counts =
    let here : List Sounding = chain_note (λ k. 0) at past tone tokens tone.key in
    ap (λ linked. with_tones at linked tones) (with_one at tokens begun past tone tone.key tone.tied refl refl)
    ∙ joined_tones at tokens all (begun ++ here) (tone ∷ past) tones
    (λ k. moves (tone.tied && has_key k tone.key) (all k) (tied_with k past) (tied_with k tones) (counts k))
    ∙ linked_by (append_assoc begun here (chain_notes (λ k. 0) at (tone ∷ past) tones tokens)) refl

-- the walk over time tokens
abbrev by_tokens : List TimeToken → Notes
by_tokens [] = record { first = []; others = [] }
by_tokens (token ∷ tokens) =
    before_all (with_tones token.at (record { begun = []; next = (by_tokens tokens).first }) token.tones) (by_tokens tokens).others

abbrev left_over : List TimeToken → List Sounding
left_over [] = []
left_over (token ∷ tokens) = left_over tokens ++ unjoined (λ key. tied_with key token.tones) tokens

by_chains : (tokens : List TimeToken) → by_tokens tokens ≡ record { first = unjoined (λ k. 0) tokens; others = left_over tokens }
by_chains [] = refl
by_chains (token ∷ tokens) =
    ap {B = Notes} (λ (notes : Notes). before_all (with_tones token.at (record { begun = []; next = notes.first }) token.tones) notes.others) (by_chains tokens)
    ∙ ap {B = Notes} (λ (linked : TokenNotes). before_all linked (left_over tokens))
    (joined_tones token.at tokens (λ k. tied_with k token.tones) [] [] token.tones (λ k. omega arith))

whole : (tied : ℕ → ℕ) (tokens : List TimeToken) → left_over tokens ++ unjoined tied tokens ≡ tie_chains tied tokens
whole tied [] = refl
whole tied (token ∷ tokens) =
    ap (λ notes. notes ++ chain_notes tied token.at [] token.tones tokens) (whole (λ key. tied_with key token.tones) tokens)

heard_by : (tokens : List TimeToken) → all_notes (by_tokens tokens) ≡ heard_notes tokens
heard_by tokens = ap all_notes (by_chains tokens) ∙ whole (λ k. 0) tokens

-- the walk over what is played is the walk over its time tokens
token_first : (at : ℕ) (tones : Option (List Tone)) (tokens : List TimeToken) → before at tones (by_tokens tokens) ≡ by_tokens (with_token at tones tokens)
token_first at None tokens = refl
token_first at (Some tones) tokens = refl

played_tokens : (at : ℕ) (play : List Item) (tokens : List TimeToken) → notes_from at play (by_tokens tokens) ≡ by_tokens (tokens_from at play tokens)
played_tokens at [] tokens = refl
played_tokens at (item ∷ play) tokens =
    ap (before at (tones_of item)) (played_tokens (at + length_of item) play tokens)
    ∙ token_first at (tones_of item) (tokens_from (at + length_of item) play tokens)

voice_tokens : (voices : List (List ℕ)) (voice : List ℕ) (at : ℕ) (sections : List (List ℕ × List Item))
    → voice_notes voices voice at sections ≡ by_tokens (tokens_in voices voice at sections)
voice_tokens voices voice at [] = refl
voice_tokens voices voice at (section ∷ rest) =
    let next : ℕ = at + section_length voices section in
    ap (notes_from at (play_in section voice)) (voice_tokens voices voice next rest)
    ∙ played_tokens at (play_in section voice) (tokens_in voices voice next rest)

each_same : {X Y : Type 0} (f g : X → Y) → ((x : X) → f x ≡ g x) → (xs : List X) → map f xs ≡ map g xs
each_same f g same [] = refl
each_same f g same (x ∷ xs) = ap (λ y. y ∷ map f xs) (same x) ∙ ap (λ ys. g x ∷ ys) (each_same f g same xs)

pub plays_chains : PlaysChains
plays_chains at play = ap all_notes (played_tokens at play []) ∙ heard_by (tokens_from at play [])

pub voices_play_chains : VoicesPlayChains
voices_play_chains tune =
    let voices : List (List ℕ) = voice_names tune in
    let played : List (List ℕ × List Item) = played_sections tune in
    each_same (λ voice. all_notes (voice_notes voices voice 0 played)) (λ voice. heard_notes (tokens_in voices voice 0 played))
    (λ voice. ap all_notes (voice_tokens voices voice 0 played) ∙ heard_by (tokens_in voices voice 0 played)) (tracks tune)
