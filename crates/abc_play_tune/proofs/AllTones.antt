-- The entries of a play are those of its steps, and its tones are all tones of its time tokens.
use Rattle.std.proofs.Common.{◌≡◌, ℕ, true, false, List, [], ◌∷◌, ◌++◌, length, map, refl, sym, ap, ◌∙◌, append-nil}
use Rattle.std.specs.List.{flat_map}
use Rattle.std.specs.Prelude.{filter_map, reverse}
use Rattle.std.proofs.lemmas.Grind.{flat_map-append}
use Rattle.std.proofs.lemmas.List.{reverse-append}
use Rattle.std.proofs.lemmas.List.Elements.{filter_map-append}
use Rattle.abc_bars_items.specs.declared.item.Item.{Item}
use Rattle.abc_bars_items.specs.declared.item.Item.TheVariants as items
use Rattle.abc_bars_items.specs.declared.item.Tone.{Tone}
use Rattle.abc_voices.specs.Ties.{TimeToken, with_token}
use Rattle.abc_voices_sections.specs.Step.{tones_of}
use Rattle.abc_play_sections.specs.declared.step.PlayStep.{PlayStep}
use Rattle.abc_play_sections.specs.declared.step.PlayStep.TheVariants as steps
use Rattle.abc_play_sections.specs.Step.{as_item}
use Rattle.abc_play_tune.specs.Entries.{entries_back, entries_from, entry_groups, item_entries, played_by, previous_after, step_entries, tone_entries}
use Rattle.abc_play_tune.specs.Laws.{GroupsEntries, PlaysTones, tone_of_token, tones_of_token}
use Rattle.abc_play_tune.specs.Play.{play_of_voice, tokens_among}
use Rattle.abc_play_tune.specs.declared.entry.PlayEntry.{PlayEntry}
use Rattle.abc_play_tune.specs.declared.timed.TimedStep.{TimedStep}

-- all entries of groups
abbrev joined : List (List PlayEntry) → List PlayEntry
joined groups = flat_map (λ (group : List PlayEntry). group) groups

in_groups : (previous : List Tone) (timed : List TimedStep) → entries_from previous timed ≡ joined (entry_groups previous timed)
in_groups previous [] = refl
in_groups previous (one ∷ others) =
    ap (λ l. step_entries previous one.at.0 one.step ++ l) (in_groups (previous_after previous (tones_of (as_item one.step))) others)

last_group : (groups : List (List PlayEntry)) (group : List PlayEntry) → joined (groups ++ group ∷ []) ≡ joined groups ++ group
last_group groups group = flat_map-append (λ (one : List PlayEntry). one) groups (group ∷ []) ∙ ap (λ l. joined groups ++ l) (append-nil group)

back_in_groups : (previous : List Tone) (timed : List TimedStep) → entries_back previous timed ≡ joined (reverse (entry_groups previous timed))
back_in_groups previous [] = refl
back_in_groups previous (one ∷ others) =
    let next = previous_after previous (tones_of (as_item one.step)) in
    let group = step_entries previous one.at.0 one.step in
    ap (λ l. l ++ group) (back_in_groups next others) ∙ sym (last_group (reverse (entry_groups next others)) group)
    ∙ ap joined (sym (reverse-append (group ∷ []) (entry_groups next others)))

pub groups_entries : GroupsEntries
groups_entries timed = (in_groups [] timed, back_in_groups [] timed)

-- the tones of a time token
tones_played : (previous : List Tone) (at place : ℕ) (past tones : List Tone)
    → filter_map played_by (tone_entries previous at place past tones) ≡ map (tone_of_token at) tones
tones_played previous at place past [] = refl
tones_played previous at place past (tone ∷ tones) =
    ap (λ l. tone_of_token at tone ∷ l) (tones_played previous at place (past ++ tone ∷ []) tones)

-- of an item before others
item_played : (previous : List Tone) (at place : ℕ) (item : Item) (tokens : List TimeToken)
    → filter_map played_by (item_entries previous at place item) ++ flat_map tones_of_token tokens ≡ flat_map tones_of_token (with_token at (tones_of item) tokens)
item_played previous at place (items.Tone tones length) tokens = ap (λ l. l ++ flat_map tones_of_token tokens) (tones_played previous at place [] tones)
item_played previous at place (items.Rest length true) tokens = refl
item_played previous at place (items.Rest length false) tokens = refl
item_played previous at place _ tokens = refl

step_played : (previous : List Tone) (at : ℕ) (step : PlayStep) (tokens : List TimeToken)
    → filter_map played_by (step_entries previous at step) ++ flat_map tones_of_token tokens ≡ flat_map tones_of_token (with_token at (tones_of (as_item step)) tokens)
step_played previous at (steps.Item item place) tokens = item_played previous at place item.now tokens
step_played previous at (steps.BarLine place) tokens = refl

-- of all steps
all_played : (previous : List Tone) (timed : List TimedStep) → filter_map played_by (entries_from previous timed) ≡ flat_map tones_of_token (tokens_among timed)
all_played previous [] = refl
all_played previous (one ∷ others) =
    let next = previous_after previous (tones_of (as_item one.step)) in
    let own = step_entries previous one.at.0 one.step in
    filter_map-append played_by own (entries_from next others)
    ∙ ap (λ l. filter_map played_by own ++ l) (all_played next others)
    ∙ step_played previous one.at.0 one.step (tokens_among others)

pub plays_tones : PlaysTones
plays_tones tune voice = all_played [] (play_of_voice tune voice)
