-- The notes that begin with the entries of a play are those of its time tokens.
use Rattle.std.proofs.Common.{◌≡◌, ℕ, suc, Bool, true, false, cond, List, [], ◌∷◌, ◌++◌, length, map, refl, sym, ap, ◌∙◌, append-nil}
use Rattle.std.specs.Prelude.{nat_lt, filter_map, Option, Some, None}
use Rattle.std.proofs.lemmas.List.{map-append}
use Rattle.std.proofs.lemmas.List.Elements.{filter_map-append}
use Rattle.abc_bars_items.specs.declared.item.Item.{Item}
use Rattle.abc_bars_items.specs.declared.item.Item.TheVariants as items
use Rattle.abc_bars_items.specs.declared.item.Tone.{Tone}
use Rattle.std.specs.Borrow.{Bor}
use Rattle.abc_voices.specs.Track.{tracks}
use Rattle.abc_voices_sections.specs.Items.{items_of}
use Rattle.abc_voices.specs.Ties.{heard_notes, TimeToken, with_token, has_key, tones_with, tied_with, chain_note, chain_notes, chain_end, tie_chains}
use Rattle.abc_voices_score.specs.declared.score.Sounding.{Sounding}
use Rattle.abc_voices_sections.specs.Step.{tones_of}
use Rattle.abc_play_sections.specs.declared.step.PlayStep.{PlayStep}
use Rattle.abc_play_sections.specs.declared.step.PlayStep.TheVariants as steps
use Rattle.abc_play_sections.specs.Step.{as_item}
use Rattle.abc_time.specs.declared.grains.Grains.{Grains}
use Rattle.abc_play_tune.specs.declared.entry.EntryKind.TheVariants as kinds
use Rattle.abc_play_tune.specs.Entries.{end_by, is_joined, is_tied, tone_entry, tone_entries, item_entries, step_entries, previous_after, entries_back, note_begun}
use Rattle.abc_play_tune.specs.Laws.{head_of, BeginsNotes}
use Rattle.abc_play_tune.specs.Play.{play_of_voice, tokens_among}
use Rattle.abc_play_tune.specs.declared.entry.PlayEntry.{PlayEntry}
use Rattle.abc_play_tune.specs.declared.timed.TimedStep.{TimedStep}
use Rattle.abc_play_tune.proofs.Tokens.{plays_score}

-- the tones before a tone, in order or the last one first
abbrev pub AreSame : List Tone → List Tone → Type 0
AreSame past back = (key : ℕ) → tones_with key past ≡ tones_with key back

one_more : (key : ℕ) (past : List Tone) (tone : Tone) → tones_with key (past ++ tone ∷ []) ≡ tones_with key (tone ∷ past)
one_more key [] tone = refl
one_more key (first ∷ past) tone =
    ap (λ n. cond (has_key key first.key) (suc n) n) (one_more key past tone)
    ∙ elim (has_key key first.key) as (λ b. cond b (suc (tones_with key (tone ∷ past))) (tones_with key (tone ∷ past))
    ≡ cond (has_key key tone.key) (suc (cond b (suc (tones_with key past)) (tones_with key past))) (cond b (suc (tones_with key past)) (tones_with key past))) [
      | true ↦ elim (has_key key tone.key) as (λ b. suc (cond b (suc (tones_with key past)) (tones_with key past)) ≡ cond b (suc (suc (tones_with key past))) (suc (tones_with key past))) [
        | true ↦ refl
        | false ↦ refl
      ]
      | false ↦ refl
    ]

pub still_same : (past back : List Tone) (tone : Tone) → AreSame past back → AreSame (past ++ tone ∷ []) (tone ∷ back)
still_same past back tone same key = one_more key past tone ∙ ap (λ n. cond (has_key key tone.key) (suc n) n) (same key)

-- an entry of a tone
abbrev entry_with : ℕ → Grains → ℕ → ℕ → ℕ → Option ℕ → Bool → Bool → PlayEntry
entry_with at off place index velocity key joined tied = record { on = record { 0 = at }; off = off; place = place; kind = kinds.Note index key velocity joined tied }

-- the note of a tone
one_begun : (previous : List Tone) (at place : ℕ) (past back : List Tone) (tone : Tone) (tokens : List TimeToken) (key : Option ℕ) → AreSame past back
    → filter_map note_begun (entry_with at (end_by at tone.length) place (length past) tone.velocity key (is_joined previous past key) (is_tied tone) ∷ [])
    ≡ map head_of (chain_note (λ k. tied_with k previous) at back tone tokens key)
one_begun previous at place past back tone tokens None same = refl
one_begun previous at place past back tone tokens (Some key) same =
    let off = end_by at tone.length in
    let note : Sounding = record {
      key = key;
      on = record { 0 = at };
      off = record { 0 = chain_end at tone key (tied_with key back) tokens };
      velocity = tone.velocity;
    } in
    ap (λ n. filter_map note_begun (entry_with at off place (length past) tone.velocity (Some key) (nat_lt n (tied_with key previous)) (is_tied tone) ∷ [])) (same key)
    ∙ elim (nat_lt (tones_with key back) (tied_with key previous)) as (λ b. filter_map note_begun (entry_with at off place (length past) tone.velocity (Some key) b (is_tied tone) ∷ [])
    ≡ map head_of (cond b [] (note ∷ []))) [
      | true ↦ refl
      | false ↦ refl
    ]

-- the notes of the tones of a time token
all_begun : (previous : List Tone) (at place : ℕ) (past back : List Tone) (tones : List Tone) (tokens : List TimeToken) → AreSame past back
    → filter_map note_begun (tone_entries previous at place past tones) ≡ map head_of (chain_notes (λ k. tied_with k previous) at back tones tokens)
all_begun previous at place past back [] tokens same = refl
all_begun previous at place past back (tone ∷ tones) tokens same =
    filter_map-append note_begun (tone_entry previous at place past tone ∷ []) (tone_entries previous at place (past ++ tone ∷ []) tones)
    ∙ (λ i. one_begun previous at place past back tone tokens tone.key same i ++ all_begun previous at place (past ++ tone ∷ []) (tone ∷ back) tones tokens (still_same past back tone same) i)
    ∙ sym (map-append head_of (chain_note (λ k. tied_with k previous) at back tone tokens tone.key) (chain_notes (λ k. tied_with k previous) at (tone ∷ back) tones tokens))

-- the notes of an item before others
abbrev heads_of : List Tone → List TimeToken → List (ℕ × ℕ × ℕ)
heads_of previous tokens = map head_of (tie_chains (λ k. tied_with k previous) tokens)

item_begun : (previous : List Tone) (at place : ℕ) (item : Item) (later : List PlayEntry) (tokens : List TimeToken)
    → filter_map note_begun later ≡ heads_of (previous_after previous (tones_of item)) tokens
    → filter_map note_begun (later ++ item_entries previous at place item) ≡ heads_of previous (with_token at (tones_of item) tokens)
item_begun previous at place (items.Tone tones length) later tokens before =
    filter_map-append note_begun later (tone_entries previous at place [] tones)
    ∙ (λ i. before i ++ all_begun previous at place [] [] tones tokens (λ key. refl) i)
    ∙ sym (map-append head_of (tie_chains (λ k. tied_with k tones) tokens) (chain_notes (λ k. tied_with k previous) at [] tones tokens))
item_begun previous at place (items.Rest length true) later tokens before =
    filter_map-append note_begun later (item_entries previous at place (items.Rest length true)) ∙ append-nil (filter_map note_begun later) ∙ before
item_begun previous at place (items.Rest length false) later tokens before =
    filter_map-append note_begun later (item_entries previous at place (items.Rest length false)) ∙ append-nil (filter_map note_begun later) ∙ before
    ∙ ap (map head_of) (sym (append-nil (tie_chains (λ k. tied_with k []) tokens)))
item_begun previous at place _ later tokens before = ap (filter_map note_begun) (append-nil later) ∙ before

-- the notes of timed steps
pub filter_map-note_begun : (previous : List Tone) (timed : List TimedStep) → filter_map note_begun (entries_back previous timed) ≡ heads_of previous (tokens_among timed)
filter_map-note_begun previous [] = refl
filter_map-note_begun previous (one ∷ others) = by_step previous one.at.0 one.step (filter_map-note_begun (previous_after previous (tones_of (as_item one.step))) others)
  where
    by_step : (before : List Tone) (at : ℕ) (step : PlayStep)
        → filter_map note_begun (entries_back (previous_after before (tones_of (as_item step))) others) ≡ heads_of (previous_after before (tones_of (as_item step))) (tokens_among others)
        → filter_map note_begun (entries_back (previous_after before (tones_of (as_item step))) others ++ step_entries before at step)
        ≡ heads_of before (with_token at (tones_of (as_item step)) (tokens_among others))
    by_step before at (steps.Item item place) h = item_begun before at place item.now (entries_back (previous_after before (tones_of item.now)) others) (tokens_among others) h
    by_step before at (steps.BarLine place) h =
        filter_map-append note_begun (entries_back before others) (step_entries before at (steps.BarLine place))
        ∙ append-nil (filter_map note_begun (entries_back before others)) ∙ h

-- what is heard of no time token before
none_before : (timed : List TimedStep) → filter_map note_begun (entries_back [] timed) ≡ map head_of (heard_notes (tokens_among timed))
none_before timed = filter_map-note_begun [] timed

heads_alike : (tune : List (Bor Item)) (those : List (List ℕ))
    → map (map head_of) (map (λ voice. heard_notes (tokens_among (play_of_voice tune voice))) those)
    ≡ map (λ voice. filter_map note_begun (entries_back [] (play_of_voice tune voice))) those
heads_alike tune [] = refl
heads_alike tune (voice ∷ those) = λ i. sym (none_before (play_of_voice tune voice)) i ∷ heads_alike tune those i

pub begins_notes : BeginsNotes
begins_notes tune = ap (map (map head_of)) (plays_score tune) ∙ heads_alike tune (tracks (items_of tune))
