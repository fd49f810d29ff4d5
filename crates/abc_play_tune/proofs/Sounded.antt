-- The sounds of the entries of a play are the notes of its score.
use Rattle.std.proofs.Common.{◌≡◌, ◌<◌, ℕ, suc, ◌+◌, ◌==◌, min, nat_lt, Bool, true, false, cond, List, [], ◌∷◌, ◌++◌, length, map, refl, sym, ap, ◌∙◌}
use Rattle.std.proofs.Common.{arith, append-nil, eq-eqb, le-ltb}
use Rattle.std.specs.Borrow.{Bor}
use Rattle.std.specs.Prelude.{◌&&◌, is_some, Option, Some, None}
use Rattle.std.proofs.lemmas.Bool.{eqb-true, ltb-true, ltb-false, ne_eqb}
use Rattle.std.proofs.lemmas.List.{map-append}
use Rattle.abc_bars_items.specs.declared.item.Item.{Item}
use Rattle.abc_bars_items.specs.declared.item.Item.TheVariants as items
use Rattle.abc_bars_items.specs.declared.item.Tone.{Tone}
use Rattle.abc_voices.specs.Track.{tracks}
use Rattle.abc_voices.specs.Ties.{TimeToken, chain_end, chain_note, chain_notes, has_key, heard_notes, tie_chains, tied_with, tone_at, tones_with, with_token}
use Rattle.abc_voices.specs.Ties.{end_by as ends_by}
use Rattle.abc_voices_sections.specs.Items.{items_of}
use Rattle.abc_voices_sections.specs.Step.{tones_of}
use Rattle.abc_play_sections.specs.declared.step.PlayStep.{PlayStep}
use Rattle.abc_play_sections.specs.declared.step.PlayStep.TheVariants as steps
use Rattle.abc_play_sections.specs.Step.{as_item}
use Rattle.abc_play_tune.specs.declared.entry.PlayEntry.{PlayEntry}
use Rattle.abc_play_tune.specs.declared.timed.TimedStep.{TimedStep}
use Rattle.abc_play_tune.specs.Entries.{end_by, entries_from, is_joined, is_tied, item_entries, previous_after, step_entries, tone_entries}
use Rattle.abc_play_tune.specs.Laws.{SoundsScore, capped, heard_on, lasting_on}
use Rattle.abc_play_tune.specs.Play.{play_of_voice, tokens_among}
use Rattle.abc_play_tune.specs.Sounds.{Grouped, Lasting, PlayedTone, Sound, chord_sounds, end_in, grouped, joined_at, joined_of, sound_end, sound_of, sounds_among, sounds_of}
use Rattle.abc_play_tune.specs.Sounds.{tied_of, with_tone}
use Rattle.abc_play_tune.proofs.Begun.{AreSame, still_same}
use Rattle.abc_play_tune.proofs.Tokens.{plays_score}

-- counts and tests
move_count : (b : Bool) (p r : ℕ) → p + cond b (suc r) r ≡ cond b (suc p) p + r
move_count true p r = omega arith
move_count false p r = omega arith

cond_none : {A : Type 0} (b : Bool) (o : Option A) → o ≡ None → cond b o None ≡ None
cond_none true o none = none
cond_none false o none = refl

and_false : (b : Bool) → (b && false) ≡ false
and_false true = refl
and_false false = refl

and_true : (b : Bool) → (b && true) ≡ b
and_true true = refl
and_true false = refl

key_of_is : (key : ℕ) (own : Option ℕ) → has_key key own ≡ true → own ≡ Some key
key_of_is key None none = absurd (cc)
key_of_is key (Some own) equal = ap Some (eqb-true own key equal)

tied_test : (b : Bool) (key : ℕ) (own : Option ℕ) → ((b && is_some own) && has_key key own) ≡ (b && has_key key own)
tied_test true key None = refl
tied_test true key (Some own) = refl
tied_test false key own = refl

-- of a key the first `m` tones are joined
number_test : (n m number : ℕ) → number < m → ((nat_lt n m && true) && (min n m == number)) ≡ (n == number)
number_test n m number few = by (nat_lt n m) refl
  where
    by : (b : Bool) → nat_lt n m ≡ b → ((b && true) && (min n m == number)) ≡ (n == number)
    by true is = let below = ltb-true n m is in let same : min n m ≡ n = omega (arith, below) in ap (λ k. k == number) same
    by false is = let above = ltb-false n m is in sym (ne_eqb n number (λ same. let no : n ≡ number = same in omega (arith, above, few, no)))

one_more : (n m : ℕ) → cond (nat_lt n m && true) (suc (min n m)) (min n m) ≡ min (suc n) m
one_more n m = by (nat_lt n m) refl
  where
    by : (b : Bool) → nat_lt n m ≡ b → cond (b && true) (suc (min n m)) (min n m) ≡ min (suc n) m
    by true is = let below = ltb-true n m is in omega (arith, below)
    by false is = let above = ltb-false n m is in omega (arith, above)

unjoined : (past : List Tone) (key : Option ℕ) → is_joined [] past key ≡ false
unjoined past None = refl
unjoined past (Some key) = le-ltb (tones_with key past) 0 (omega arith)

module _ (clock : ℕ → ℕ) where
  abbrev lasting : List PlayEntry → List Lasting
  lasting entries = map (lasting_on clock) entries

  -- a tone as entries have it
  abbrev played : List Tone → ℕ → List Tone → Tone → PlayedTone
  played previous at past tone = record {
    on = clock at;
    off = clock (end_by at tone.length).0;
    key = tone.key;
    velocity = tone.velocity;
    joined = is_joined previous past tone.key;
    tied = is_tied tone;
  }

  abbrev all_played : List Tone → ℕ → List Tone → List Tone → List PlayedTone
  all_played previous at past [] = []
  all_played previous at past (tone ∷ tones) = played previous at past tone ∷ all_played previous at (past ++ tone ∷ []) tones

  -- the notes and chords of timed steps
  abbrev chords_of : List Tone → List TimedStep → List (List PlayedTone)
  chords_of previous timed = (grouped (lasting (entries_from previous timed))).chords

  abbrev group_by : List Tone → ℕ → PlayStep → List TimedStep → Grouped
  group_by previous at step others = grouped (lasting (step_entries previous at step ++ entries_from (previous_after previous (tones_of (as_item step))) others))

  -- the tones of one, before other entries
  later_tones : (previous : List Tone) (at place : ℕ) (first : Tone) (past tones : List Tone) (others : List PlayEntry)
      → grouped (lasting (tone_entries previous at place (first ∷ past) tones ++ others))
      ≡ record { before = all_played previous at (first ∷ past) tones ++ (grouped (lasting others)).before; chords = (grouped (lasting others)).chords }
  later_tones previous at place first past [] others = refl
  later_tones previous at place first past (tone ∷ tones) others =
      ap (with_tone (suc (length past)) (played previous at (first ∷ past) tone)) (later_tones previous at place first (past ++ tone ∷ []) tones others)

  first_tones : (previous : List Tone) (at place : ℕ) (first : Tone) (tones : List Tone) (others : List PlayEntry)
      → grouped (lasting (tone_entries previous at place [] (first ∷ tones) ++ others))
      ≡ record { before = []; chords = (all_played previous at [] (first ∷ tones) ++ (grouped (lasting others)).before) ∷ (grouped (lasting others)).chords }
  first_tones previous at place first tones others = ap (with_tone 0 (played previous at [] first)) (later_tones previous at place first [] tones others)

  none_before : (previous : List Tone) (timed : List TimedStep) → (grouped (lasting (entries_from previous timed))).before ≡ []
  none_before previous [] = refl
  none_before previous (one ∷ others) = by_step one.at.0 one.step (none_before (previous_after previous (tones_of (as_item one.step))) others)
    where
      by_item : (at place : ℕ) (item : Item) → (grouped (lasting (entries_from (previous_after previous (tones_of item)) others))).before ≡ []
          → (grouped (lasting (item_entries previous at place item ++ entries_from (previous_after previous (tones_of item)) others))).before ≡ []
      by_item at place (items.Tone [] time) none = none
      by_item at place (items.Tone (first ∷ tones) time) none = ap (λ (g : Grouped). g.before) (first_tones previous at place first tones (entries_from (first ∷ tones) others))
      by_item at place (items.Rest time bar) none = none
      by_item at place _ none = none

      by_step : (at : ℕ) (step : PlayStep) → (grouped (lasting (entries_from (previous_after previous (tones_of (as_item step))) others))).before ≡ []
          → (group_by previous at step others).before ≡ []
      by_step at (steps.Item item place) none = by_item at place item.now none
      by_step at (steps.BarLine place) none = none

  -- a note or chord before others
  first_chord : (previous : List Tone) (at place : ℕ) (first : Tone) (tones : List Tone) (others : List TimedStep)
      → (grouped (lasting (tone_entries previous at place [] (first ∷ tones) ++ entries_from (first ∷ tones) others))).chords
      ≡ all_played previous at [] (first ∷ tones) ∷ chords_of (first ∷ tones) others
  first_chord previous at place first tones others =
      let own = all_played previous at [] (first ∷ tones) in
      let chords = chords_of (first ∷ tones) others in
      ap (λ (g : Grouped). g.chords) (first_tones previous at place first tones (entries_from (first ∷ tones) others))
      ∙ ap (λ before. (own ++ before) ∷ chords) (none_before (first ∷ tones) others)
      ∙ ap (λ chord. chord ∷ chords) (append-nil own)

  -- after no tones none is joined
  none_joined : (key number at : ℕ) (past tones : List Tone) (back : List PlayedTone) → joined_at key number back (all_played [] at past tones) ≡ None
  none_joined key number at past [] back = refl
  none_joined key number at past (tone ∷ tones) back =
      let own = played [] at past tone in
      ap (λ b. cond ((b && has_key key tone.key) && (joined_of key back == number)) (Some (own, tied_of key back))
      (joined_at key number (own ∷ back) (all_played [] at (past ++ tone ∷ []) tones))) (unjoined past tone.key)
      ∙ none_joined key number at (past ++ tone ∷ []) tones (own ∷ back)

  no_more : (timed : List TimedStep) (own : PlayedTone) (key number : ℕ) → sound_end own key number (chords_of [] timed) ≡ own.off
  no_more [] own key number = refl
  no_more (one ∷ others) own key number = by_step (no_more others own key number) one.at.0 one.step
    where
      by_item : sound_end own key number (chords_of [] others) ≡ own.off → (at place : ℕ) (item : Item)
          → sound_end own key number (grouped (lasting (item_entries [] at place item ++ entries_from (previous_after [] (tones_of item)) others))).chords ≡ own.off
      by_item later at place (items.Tone [] time) = later
      by_item later at place (items.Tone (first ∷ tones) time) =
          let chord = all_played [] at [] (first ∷ tones) in
          let chords = chords_of (first ∷ tones) others in
          ap (sound_end own key number) (first_chord [] at place first tones others)
          ∙ ap (end_in own.off (λ (other : PlayedTone × ℕ). sound_end other.0 key other.1 chords))
          (cond_none own.tied (joined_at key number [] chord) (none_joined key number at [] (first ∷ tones) []))
      by_item later at place (items.Rest time true) = later
      by_item later at place (items.Rest time false) = later
      by_item later at place _ = later

      by_step : sound_end own key number (chords_of [] others) ≡ own.off → (at : ℕ) (step : PlayStep)
          → sound_end own key number (group_by [] at step others).chords ≡ own.off
      by_step later at (steps.Item item place) = by_item later at place item.now
      by_step later at (steps.BarLine place) = later

  -- the end of a tone over those with which it is joined
  abbrev EndsIn : List Tone → List TimeToken → List (List PlayedTone) → Type 0
  EndsIn previous tokens chords =
      (at : ℕ) (tone : Tone) (own : PlayedTone) (key number : ℕ) → own.off ≡ clock (capped (at + tone.length.0)) → own.tied ≡ tone.tied
      → (tone.tied ≡ true → number < tied_with key previous) → clock (capped (chain_end at tone key number tokens)) ≡ sound_end own key number chords

  module _ (previous whole : List Tone) (begin : ℕ) (tokens : List TimeToken) (chords : List (List PlayedTone)) (later : EndsIn whole tokens chords) where
    -- with the next tones
    module _ (key number last off : ℕ) (same_end : clock (capped last) ≡ off) (few : number < tied_with key previous) where
      abbrev score_end : Option (Tone × ℕ) → ℕ
      score_end found = clock (capped (ends_by last (λ (other : Tone × ℕ). chain_end begin other.0 key other.1 tokens) found))

      abbrev entry_end : Option (PlayedTone × ℕ) → ℕ
      entry_end found = end_in off (λ (other : PlayedTone × ℕ). sound_end other.0 key other.1 chords) found

      module _ (past back : List Tone) (seen : List PlayedTone) (tone : Tone) (tones : List Tone) (same : AreSame past back)
          (joined : joined_of key seen ≡ min (tones_with key back) (tied_with key previous)) (tied : tied_of key seen ≡ tied_with key back)
          (all : tied_with key back + tied_with key (tone ∷ tones) ≡ tied_with key whole) where
        abbrev own : PlayedTone
        own = played previous begin past tone

        abbrev test : Bool
        test = has_key key tone.key && (tones_with key back == number)

        abbrev own_test : Bool
        own_test = (own.joined && has_key key tone.key) && (joined_of key seen == number)

        abbrev later_found : Option (Tone × ℕ)
        later_found = tone_at key number (tone ∷ back) tones

        abbrev own_found : Option (PlayedTone × ℕ)
        own_found = joined_at key number (own ∷ seen) (all_played previous begin (past ++ tone ∷ []) tones)

        abbrev Others : Type 0
        Others = joined_of key (own ∷ seen) ≡ min (tones_with key (tone ∷ back)) (tied_with key previous) → score_end later_found ≡ entry_end own_found

        by_test : (b : Bool) → score_end (Some (tone, tied_with key back)) ≡ entry_end (Some (own, tied_of key seen)) → score_end later_found ≡ entry_end own_found
            → score_end (cond b (Some (tone, tied_with key back)) later_found) ≡ entry_end (cond b (Some (own, tied_of key seen)) own_found)
        by_test true here others = here
        by_test false here others = others

        by_key : Others → (b : Bool) → has_key key tone.key ≡ b
            → score_end (cond test (Some (tone, tied_with key back)) later_found) ≡ entry_end (cond own_test (Some (own, tied_of key seen)) own_found)
        by_key others false is =
            let n = tones_with key back in
            let m = tied_with key previous in
            let neither : own_test ≡ false =
            ap (λ b. (own.joined && b) && (joined_of key seen == number)) is ∙ ap (λ b. b && (joined_of key seen == number)) (and_false own.joined) in
            let more : joined_of key (own ∷ seen) ≡ min (tones_with key (tone ∷ back)) m =
            ap (λ b. cond (own.joined && b) (suc (joined_of key seen)) (joined_of key seen)) is
            ∙ ap (λ b. cond b (suc (joined_of key seen)) (joined_of key seen)) (and_false own.joined) ∙ joined
            ∙ ap (λ b. min (cond b (suc n) n) m) (sym is) in
            ap (λ b. score_end (cond (b && (n == number)) (Some (tone, tied_with key back)) later_found)) is
            ∙ others more ∙ ap (λ b. entry_end (cond b (Some (own, tied_of key seen)) own_found)) (sym neither)
        by_key others true is =
            let n = tones_with key back in
            let m = tied_with key previous in
            let has : tone.key ≡ Some key = key_of_is key tone.key is in
            let first : own.joined ≡ nat_lt n m = ap (is_joined previous past) has ∙ ap (λ k. nat_lt k m) (same key) in
            let tests : own_test ≡ test =
            (λ i. (first i && is i) && (joined i == number)) ∙ number_test n m number few ∙ ap (λ b. b && (n == number)) (sym is) in
            let more : joined_of key (own ∷ seen) ≡ min (tones_with key (tone ∷ back)) m =
            (λ i. cond (first i && is i) (suc (joined i)) (joined i)) ∙ one_more n m ∙ ap (λ b. min (cond b (suc n) n) m) (sym is) in
            let held : own.tied ≡ tone.tied = ap (λ (k : Option ℕ). tone.tied && is_some k) has ∙ and_true tone.tied in
            let within : tone.tied ≡ true → tied_with key back < tied_with key whole = λ tied_is.
            let one : cond (tone.tied && has_key key tone.key) (suc (tied_with key tones)) (tied_with key tones) ≡ suc (tied_with key tones) =
            (λ i. cond (tied_is i && is i) (suc (tied_with key tones)) (tied_with key tones)) in
            omega (arith, all, one) in
            let here : score_end (Some (tone, tied_with key back)) ≡ entry_end (Some (own, tied_of key seen)) =
            later begin tone own key (tied_with key back) refl held within ∙ ap (λ k. sound_end own key k chords) (sym tied) in
            by_test test here (others more) ∙ ap (λ b. entry_end (cond b (Some (own, tied_of key seen)) own_found)) (sym tests)

      found_alike : (past back : List Tone) (seen : List PlayedTone) (tones : List Tone) → AreSame past back
          → joined_of key seen ≡ min (tones_with key back) (tied_with key previous) → tied_of key seen ≡ tied_with key back
          → tied_with key back + tied_with key tones ≡ tied_with key whole
          → score_end (tone_at key number back tones) ≡ entry_end (joined_at key number seen (all_played previous begin past tones))
      found_alike past back seen [] same joined tied all = same_end
      found_alike past back seen (tone ∷ tones) same joined tied all =
          by_key past back seen tone tones same joined tied all
          (λ more.
          found_alike (past ++ tone ∷ []) (tone ∷ back) (played previous begin past tone ∷ seen) tones (still_same past back tone same) more
          (ap (λ b. cond b (suc (tied_of key seen)) (tied_of key seen)) (tied_test tone.tied key tone.key)
          ∙ ap (λ k. cond (tone.tied && has_key key tone.key) (suc k) k) tied)
          (sym (move_count (tone.tied && has_key key tone.key) (tied_with key back) (tied_with key tones)) ∙ all))
          (has_key key tone.key) refl

    -- with the next note or chord
    ends_before : EndsIn previous (record { at = begin; tones = whole } ∷ tokens) (all_played previous begin [] whole ∷ chords)
    ends_before at tone own key number off tied few =
        let chord = all_played previous begin [] whole in
        tie tone.tied refl
        ∙ ap (λ b. end_in own.off (λ (other : PlayedTone × ℕ). sound_end other.0 key other.1 chords) (cond b (joined_at key number [] chord) None)) (sym tied)
      where
        tie : (b : Bool) → tone.tied ≡ b
            → clock (capped (ends_by (at + tone.length.0) (λ (other : Tone × ℕ). chain_end begin other.0 key other.1 tokens) (cond b (tone_at key number [] whole) None)))
            ≡ end_in own.off (λ (other : PlayedTone × ℕ). sound_end other.0 key other.1 chords) (cond b (joined_at key number [] (all_played previous begin [] whole)) None)
        tie true is = found_alike key number (at + tone.length.0) own.off (sym off) (few is) [] [] [] whole (λ k. refl) (omega arith) refl (omega arith)
        tie false is = sym off

    -- the sounds that begin with tones
    note_alike : (past back : List Tone) (seen : List PlayedTone) (tone : Tone) (tones : List Tone) → AreSame past back
        → ((k : ℕ) → tied_of k seen ≡ tied_with k back) → ((k : ℕ) → tied_with k back + tied_with k (tone ∷ tones) ≡ tied_with k whole)
        → map (heard_on clock) (chain_note (λ k. tied_with k previous) begin back tone tokens tone.key)
        ≡ sound_of seen (played previous begin past tone) chords (is_joined previous past tone.key) tone.key
    note_alike past back seen tone tones same tied all = by tone.key refl
      where
        by : (own : Option ℕ) → tone.key ≡ own → map (heard_on clock) (chain_note (λ k. tied_with k previous) begin back tone tokens own)
            ≡ sound_of seen (played previous begin past tone) chords (is_joined previous past own) own
        by None is = refl
        by (Some key) is =
            let own = played previous begin past tone in
            let has : has_key key tone.key ≡ true = ap (has_key key) is ∙ eq-eqb key key refl in
            let held : own.tied ≡ tone.tied = ap (λ (k : Option ℕ). tone.tied && is_some k) is ∙ and_true tone.tied in
            let counts = all key in
            let within : tone.tied ≡ true → tied_with key back < tied_with key whole = λ tied_is.
            let one : cond (tone.tied && has_key key tone.key) (suc (tied_with key tones)) (tied_with key tones) ≡ suc (tied_with key tones) =
            (λ i. cond (tied_is i && has i) (suc (tied_with key tones)) (tied_with key tones)) in
            omega (arith, counts, one) in
            let end : clock (capped (chain_end begin tone key (tied_with key back) tokens)) ≡ sound_end own key (tied_of key seen) chords =
            later begin tone own key (tied_with key back) refl held within ∙ ap (λ k. sound_end own key k chords) (sym (tied key)) in
            by_order key end (nat_lt (tones_with key back) (tied_with key previous))
            ∙ ap (λ k. sound_of seen own chords (nat_lt k (tied_with key previous)) (Some key)) (sym (same key))
          where
            by_order : (k : ℕ) → clock (capped (chain_end begin tone k (tied_with k back) tokens)) ≡ sound_end (played previous begin past tone) k (tied_of k seen) chords
                → (b : Bool) → map (heard_on clock) (cond b [] (record {
                  key = k;
                  on = record { 0 = begin };
                  off = record { 0 = chain_end begin tone k (tied_with k back) tokens };
                  velocity = tone.velocity;
                } ∷ [])) ≡ sound_of seen (played previous begin past tone) chords b (Some k)
            by_order k end true = refl
            by_order k end false = λ i. record { on = clock begin; off = end i; key = k; velocity = tone.velocity } ∷ []

    all_alike : (past back : List Tone) (seen : List PlayedTone) (tones : List Tone) → AreSame past back
        → ((k : ℕ) → tied_of k seen ≡ tied_with k back) → ((k : ℕ) → tied_with k back + tied_with k tones ≡ tied_with k whole)
        → map (heard_on clock) (chain_notes (λ k. tied_with k previous) begin back tones tokens)
        ≡ chord_sounds seen (all_played previous begin past tones) chords
    all_alike past back seen [] same tied all = refl
    all_alike past back seen (tone ∷ tones) same tied all =
        let own = played previous begin past tone in
        let others = all_alike (past ++ tone ∷ []) (tone ∷ back) (own ∷ seen) tones (still_same past back tone same)
        (λ k. ap (λ b. cond b (suc (tied_of k seen)) (tied_of k seen)) (tied_test tone.tied k tone.key)
        ∙ ap (λ n. cond (tone.tied && has_key k tone.key) (suc n) n) (tied k))
        (λ k. sym (move_count (tone.tied && has_key k tone.key) (tied_with k back) (tied_with k tones)) ∙ all k) in
        map-append (heard_on clock) (chain_note (λ k. tied_with k previous) begin back tone tokens tone.key)
        (chain_notes (λ k. tied_with k previous) begin (tone ∷ back) tones tokens)
        ∙ (λ i. note_alike past back seen tone tones same tied all i ++ others i)

  -- the end of a tone, over all steps that follow
  ends : (previous : List Tone) (timed : List TimedStep) → EndsIn previous (tokens_among timed) (chords_of previous timed)
  ends previous [] = λ at tone one key number off tied few. sym off
  ends previous (one ∷ others) = by_step one.at.0 one.step (λ next. ends next others)
    where
      by_none : (begin : ℕ) → EndsIn previous (record { at = begin; tones = [] } ∷ tokens_among others) (chords_of [] others)
      by_none begin at tone own key number off tied few = by_tie tone.tied ∙ sym off ∙ sym (no_more others own key number)
        where
          by_tie : (b : Bool) → clock (capped (ends_by (at + tone.length.0) (λ (other : Tone × ℕ). chain_end begin other.0 key other.1 (tokens_among others)) (cond b None None)))
              ≡ clock (capped (at + tone.length.0))
          by_tie true = refl
          by_tie false = refl

      by_item : (begin place : ℕ) (item : Item) → ((next : List Tone) → EndsIn next (tokens_among others) (chords_of next others))
          → EndsIn previous (with_token begin (tones_of item) (tokens_among others))
          (grouped (lasting (item_entries previous begin place item ++ entries_from (previous_after previous (tones_of item)) others))).chords
      by_item begin place (items.Tone [] time) later = by_none begin
      by_item begin place (items.Tone (first ∷ tones) time) later = λ at tone own key number off tied few.
          ends_before previous (first ∷ tones) begin (tokens_among others) (chords_of (first ∷ tones) others) (later (first ∷ tones)) at tone own key number off tied few
          ∙ ap (sound_end own key number) (sym (first_chord previous begin place first tones others))
      by_item begin place (items.Rest time true) later = later previous
      by_item begin place (items.Rest time false) later = by_none begin
      by_item begin place _ later = later previous

      by_step : (begin : ℕ) (step : PlayStep) → ((next : List Tone) → EndsIn next (tokens_among others) (chords_of next others))
          → EndsIn previous (with_token begin (tones_of (as_item step)) (tokens_among others)) (group_by previous begin step others).chords
      by_step begin (steps.Item item place) later = by_item begin place item.now later
      by_step begin (steps.BarLine place) later = later previous

  -- the notes of timed steps
  abbrev score_notes : List Tone → List TimeToken → List Sound
  score_notes previous tokens = map (heard_on clock) (tie_chains (λ k. tied_with k previous) tokens)

  all_sounds : (previous : List Tone) (timed : List TimedStep) → score_notes previous (tokens_among timed) ≡ sounds_among (chords_of previous timed)
  all_sounds previous [] = refl
  all_sounds previous (one ∷ others) = by_step one.at.0 one.step (λ next. all_sounds next others)
    where
      by_none : (begin : ℕ) → score_notes [] (tokens_among others) ≡ sounds_among (chords_of [] others)
          → score_notes previous (record { at = begin; tones = [] } ∷ tokens_among others) ≡ sounds_among (chords_of [] others)
      by_none begin is = ap (map (heard_on clock)) (append-nil (tie_chains (λ k. tied_with k []) (tokens_among others))) ∙ is

      by_item : (begin place : ℕ) (item : Item) → ((next : List Tone) → score_notes next (tokens_among others) ≡ sounds_among (chords_of next others))
          → score_notes previous (with_token begin (tones_of item) (tokens_among others))
          ≡ sounds_among (grouped (lasting (item_entries previous begin place item ++ entries_from (previous_after previous (tones_of item)) others))).chords
      by_item begin place (items.Tone [] time) later = by_none begin (later [])
      by_item begin place (items.Tone (first ∷ tones) time) later =
          let whole = first ∷ tones in
          let tokens = tokens_among others in
          let chords = chords_of whole others in
          map-append (heard_on clock) (tie_chains (λ k. tied_with k whole) tokens) (chain_notes (λ k. tied_with k previous) begin [] whole tokens)
          ∙ (λ i. later whole i ++ all_alike previous whole begin tokens chords (ends whole others) [] [] [] whole (λ k. refl) (λ k. refl) (λ k. omega arith) i)
          ∙ ap sounds_among (sym (first_chord previous begin place first tones others))
      by_item begin place (items.Rest time true) later = later previous
      by_item begin place (items.Rest time false) later = by_none begin (later [])
      by_item begin place _ later = later previous

      by_step : (begin : ℕ) (step : PlayStep) → ((next : List Tone) → score_notes next (tokens_among others) ≡ sounds_among (chords_of next others))
          → score_notes previous (with_token begin (tones_of (as_item step)) (tokens_among others)) ≡ sounds_among (group_by previous begin step others).chords
      by_step begin (steps.Item item place) later = by_item begin place item.now later
      by_step begin (steps.BarLine place) later = later previous

  voices_alike : (tune : List (Bor Item)) (those : List (List ℕ))
      → map (map (heard_on clock)) (map (λ voice. heard_notes (tokens_among (play_of_voice tune voice))) those)
      ≡ map (λ voice. sounds_of (lasting (entries_from [] (play_of_voice tune voice)))) those
  voices_alike tune [] = refl
  voices_alike tune (voice ∷ those) = λ i. all_sounds [] (play_of_voice tune voice) i ∷ voices_alike tune those i

pub sounds_score : SoundsScore
sounds_score clock tune = ap (map (map (heard_on clock))) (plays_score tune) ∙ voices_alike clock tune (tracks (items_of tune))
