-- The changes in force are, on each tick and of each kind, the last ones that are set there.
use Rattle.std.proofs.Common.{◌≡◌, ℕ, ℤ, pos, ◌+◌, Bool, true, false, cond, List, [], ◌∷◌, ◌++◌, map, take, Option, Some, None, refl, ap, ◌∙◌, append-nil}
use Rattle.std.proofs.lemmas.List.Elements.{filter-append}
use Rattle.std.specs.Prelude.{◌==◌, filter, filter_map, option_map, option_and_then, unwrap_or}
use Rattle.std.specs.List.{cons_option, flat_map}
use Rattle.std.specs.Option.{option_or, option_to_list}
use Rattle.abc_bars_items.specs.declared.item.Item.{Item}
use Rattle.abc_bars_items.specs.declared.item.Item.TheVariants as items
use Rattle.abc_fields.specs.declared.meter.Meter.{Meter}
use Rattle.abc_fields.specs.declared.meter.Meter.TheVariants as meters
use Rattle.abc_time.specs.declared.grains.Grains.{Grains}
use Rattle.abc_time.specs.Grains.{tick_at}
use Rattle.abc_voices_score.specs.declared.score.Change.{Change}
use Rattle.abc_voices_score.specs.declared.score.ChangeKind.TheVariants as kinds
use Rattle.abc_voices.specs.Layout.{first_of, played_sections, set_in, usual_tempo}
use Rattle.abc_voices_sections.specs.PlayedSection.{section_length, play_in}
use Rattle.abc_voices.specs.Change.{tempo_of, meter_of, key_of, set_from}
use Rattle.abc_voices.specs.Conductor.{opening_tempo_of, opening_meter_of, opening_key_of, opening_by, sections_in_time, last_beside, last_set}
use Rattle.abc_voices.specs.Conductor.{set_or_opening, at_120, leader, is_tempo, is_meter, is_key, is_there, IsConductedOnTicks}
use Rattle.abc_voices.specs.Opening.{after_all, tempo_after, meter_after, key_after}
use Rattle.abc_voices.specs.OnTicks.{last_value, set_on}
use Rattle.abc_voices.specs.ScoreChanges.{tempo_change, meter_change, key_change, changes_in_force}
use Rattle.abc_voices.specs.Ticks.{last_of_each_tick}
use Rattle.abc_voices.specs.Track.{voice_names, tracks}
use Rattle.abc_voices.proofs.OnTicks.{last_value-append, set_if_on, is_on, last_on, filter-last_of_each_tick, map-option_to_list, last_on-play}

voices_said : {V : Type 0} (value_of : Item → Option V) (those : List (List ℕ)) (tick at : ℕ) (section : List ℕ × List Item)
    → last_on tick (flat_map (λ voice. set_from value_of at (play_in section voice)) those)
    ≡ last_beside value_of those tick (at, section)
voices_said value_of [] tick at section = refl
voices_said value_of (voice ∷ those) tick at section =
    let play : List Item = play_in section voice in
    last_value-append (set_if_on tick) (set_from value_of at play)
    (flat_map (λ one. set_from value_of at (play_in section one)) those)
    ∙ (λ i. option_or (voices_said value_of those tick at section i) (last_on-play value_of tick at play i))

sections_said : {V : Type 0} (value_of : Item → Option V) (voices those : List (List ℕ)) (tick at : ℕ) (sections : List (List ℕ × List Item))
    → last_on tick (set_in value_of voices those at sections)
    ≡ last_value (last_beside value_of those tick) (sections_in_time voices at sections)
sections_said value_of voices those tick at [] = refl
sections_said value_of voices those tick at (section ∷ rest) =
    let next : ℕ = at + section_length voices section in
    last_value-append (set_if_on tick) (flat_map (λ voice. set_from value_of at (play_in section voice)) those)
    (set_in value_of voices those next rest)
    ∙ (λ i. option_or (sections_said value_of voices those tick next rest i) (voices_said value_of those tick at section i))

later_or : {X : Type 0} (last first : Option X) (value : X) → unwrap_or last (unwrap_or first value) ≡ unwrap_or (option_or last first) value
later_or None first value = refl
later_or (Some x) first value = refl

-- what a tune opens with is what the last field of its header says
all_past : {V : Type 0} (past : Option V → Item → Option V) (says : Item → Option (Option V))
    → ((value : Option V) (item : Item) → past value item ≡ unwrap_or (says item) value)
    → (value : Option V) (tune : List Item) → after_all past value tune ≡ unwrap_or (last_value says tune) value
all_past past says one value [] = refl
all_past past says one value (item ∷ tune) =
    all_past past says one (past value item) tune
    ∙ ap (unwrap_or (last_value says tune)) (one value item)
    ∙ later_or (last_value says tune) (says item) value

opens : {V : Type 0} (past : Option V → Item → Option V) (says : Item → Option (Option V)) (usual : V)
    → ((value : Option V) (item : Item) → past value item ≡ unwrap_or (says item) value)
    → (tune : List Item) → unwrap_or (after_all past None tune) usual ≡ opening_by says usual tune
opens past says usual one tune =
    ap (λ value. unwrap_or value usual) (all_past past says one None tune)

tempo_said : (value : Option ℕ) (item : Item) → tempo_after value item ≡ unwrap_or (opening_tempo_of item) value
tempo_said value (items.Tempo true micros out) = refl
tempo_said value _ = refl

meter_said : (value : Option Meter) (item : Item) → meter_after value item ≡ unwrap_or (opening_meter_of item) value
meter_said value (items.Meter true meter) = refl
meter_said value _ = refl

key_said : (value : Option (ℤ × Bool)) (item : Item) → key_after value item ≡ unwrap_or (opening_key_of item) value
key_said value (items.Key true key) = refl
key_said value _ = refl

-- changes of one kind
either : {X : Type 0} (f : X → Change) (here : Bool) (x : X) (xs : List X) → cond here (f x ∷ map f xs) (map f xs) ≡ map f (cond here (x ∷ xs) xs)
either f true x xs = refl
either f false x xs = refl

of_own : {X : Type 0} (p : Change → Bool) (is : X → Bool) (f : X → Change) → ((x : X) → p (f x) ≡ is x)
    → (xs : List X) → filter p (map f xs) ≡ map f (filter is xs)
of_own p is f same [] = refl
of_own p is f same (x ∷ xs) =
    (λ i. cond (same x i) (f x ∷ of_own p is f same xs i) (of_own p is f same xs i)) ∙ either f (is x) x (filter is xs)

of_other : {X : Type 0} (p : Change → Bool) (f : X → Change) → ((x : X) → p (f x) ≡ false) → (xs : List X) → filter p (map f xs) ≡ []
of_other p f never [] = refl
of_other p f never (x ∷ xs) = λ i. cond (never x i) (f x ∷ of_other p f never xs i) (of_other p f never xs i)

-- meters, of which some are no change
free_meter : (here : Bool) (at : Grains) (rest : List (Grains × Meter))
    → filter_map meter_change rest ≡ filter_map meter_change (cond here ((at, meters.Free) ∷ rest) rest)
free_meter true at rest = refl
free_meter false at rest = refl

some_meter : (here : Bool) (at : Grains) (num den : ℕ) (rest : List (Grains × Meter))
    → cond here (record { at = at; what = kinds.Meter num den } ∷ filter_map meter_change rest) (filter_map meter_change rest)
    ≡ filter_map meter_change (cond here ((at, meters.Of num den) ∷ rest) rest)
some_meter true at num den rest = refl
some_meter false at num den rest = refl

own_meters : (tick : ℕ) (sets : List (Grains × Meter))
    → filter (is_there is_meter tick) (filter_map meter_change sets) ≡ filter_map meter_change (filter (is_on tick) sets)
own_meters tick [] = refl
own_meters tick ((at, meters.Free) ∷ sets) = own_meters tick sets ∙ free_meter (tick_at at.0 == tick) at (filter (is_on tick) sets)
own_meters tick ((at, meters.Of num den) ∷ sets) =
    ap (λ l. cond (tick_at at.0 == tick) (record { at = at; what = kinds.Meter num den } ∷ l) l) (own_meters tick sets)
    ∙ some_meter (tick_at at.0 == tick) at num den (filter (is_on tick) sets)

no_meters : (p : Change → Bool) → ((at : Grains) (num den : ℕ) → p (record { at = at; what = kinds.Meter num den }) ≡ false)
    → (sets : List (Grains × Meter)) → filter p (filter_map meter_change sets) ≡ []
no_meters p never [] = refl
no_meters p never ((at, meters.Free) ∷ sets) = no_meters p never sets
no_meters p never ((at, meters.Of num den) ∷ sets) =
    λ i. cond (never at num den i) (record { at = at; what = kinds.Meter num den } ∷ no_meters p never sets i) (no_meters p never sets i)

if_changed : {X Y : Type 0} (f : X → Option Y) (value : Option X) → filter_map f (option_to_list value) ≡ option_to_list (option_and_then f value)
if_changed f None = refl
if_changed f (Some x) = one (f x)
  where
    one : {Z : Type 0} (value : Option Z) → cons_option value [] ≡ option_to_list value
    one None = refl
    one (Some z) = refl

-- of three parts
three : (p : Change → Bool) (a b c : List Change) → filter p (a ++ b ++ c) ≡ filter p a ++ filter p b ++ filter p c
three p a b c = filter-append p (a ++ b) c ∙ ap (λ l. l ++ filter p c) (filter-append p a b)

tempos_remain : (tick : ℕ) (tempos : List (Grains × ℕ)) (meters : List (Grains × Meter)) (keys : List (Grains × (ℤ × Bool)))
    → filter (is_there is_tempo tick) (changes_in_force tempos meters keys) ≡ option_to_list (option_map tempo_change (last_on tick tempos))
tempos_remain tick tempos meters keys =
    let p : Change → Bool = is_there is_tempo tick in
    let own : List Change = map tempo_change (filter (is_on tick) (last_of_each_tick tempos)) in
    three p (map tempo_change (last_of_each_tick tempos)) (filter_map meter_change (last_of_each_tick meters)) (map key_change (last_of_each_tick keys))
    ∙ (λ i. of_own p (is_on tick) tempo_change (λ set. refl) (last_of_each_tick tempos) i ++ no_meters p (λ at num den. refl) (last_of_each_tick meters) i
    ++ of_other p key_change (λ set. refl) (last_of_each_tick keys) i)
    ∙ append-nil (own ++ []) ∙ append-nil own
    ∙ ap (map tempo_change) (filter-last_of_each_tick tick tempos) ∙ map-option_to_list tempo_change (last_on tick tempos)

meters_remain : (tick : ℕ) (tempos : List (Grains × ℕ)) (meters : List (Grains × Meter)) (keys : List (Grains × (ℤ × Bool)))
    → filter (is_there is_meter tick) (changes_in_force tempos meters keys) ≡ option_to_list (option_and_then meter_change (last_on tick meters))
meters_remain tick tempos meters keys =
    let p : Change → Bool = is_there is_meter tick in
    let own : List Change = filter_map meter_change (filter (is_on tick) (last_of_each_tick meters)) in
    three p (map tempo_change (last_of_each_tick tempos)) (filter_map meter_change (last_of_each_tick meters)) (map key_change (last_of_each_tick keys))
    ∙ (λ i. of_other p tempo_change (λ set. refl) (last_of_each_tick tempos) i ++ own_meters tick (last_of_each_tick meters) i
    ++ of_other p key_change (λ set. refl) (last_of_each_tick keys) i)
    ∙ append-nil own
    ∙ ap (filter_map meter_change) (filter-last_of_each_tick tick meters) ∙ if_changed meter_change (last_on tick meters)

keys_remain : (tick : ℕ) (tempos : List (Grains × ℕ)) (meters : List (Grains × Meter)) (keys : List (Grains × (ℤ × Bool)))
    → filter (is_there is_key tick) (changes_in_force tempos meters keys) ≡ option_to_list (option_map key_change (last_on tick keys))
keys_remain tick tempos meters keys =
    let p : Change → Bool = is_there is_key tick in
    three p (map tempo_change (last_of_each_tick tempos)) (filter_map meter_change (last_of_each_tick meters)) (map key_change (last_of_each_tick keys))
    ∙ (λ i. of_other p tempo_change (λ set. refl) (last_of_each_tick tempos) i ++ no_meters p (λ at num den. refl) (last_of_each_tick meters) i
    ++ of_own p (is_on tick) key_change (λ set. refl) (last_of_each_tick keys) i)
    ∙ ap (map key_change) (filter-last_of_each_tick tick keys) ∙ map-option_to_list key_change (last_on tick keys)

-- the first voice with a track
leads : (voices : List (List ℕ)) → first_of voices ≡ take 1 voices
leads [] = refl
leads (voice ∷ voices) = refl

-- the changes of a tune
abbrev played_with : {V : Type 0} → (Item → Option V) → List (List ℕ) → V → List Item → List (Grains × V)
played_with value_of those opening tune =
    (record { 0 = 0 }, opening) ∷ set_in value_of (voice_names tune) those 0 (played_sections tune)

abbrev tempos_in : List Item → List (Grains × ℕ)
tempos_in tune = played_with tempo_of (voice_names tune) (unwrap_or (after_all tempo_after None tune) usual_tempo) tune

abbrev meters_in : List Item → List (Grains × Meter)
meters_in tune = played_with meter_of (first_of (tracks tune)) (unwrap_or (after_all meter_after None tune) meters.Free) tune

abbrev keys_in : List Item → List (Grains × (ℤ × Bool))
keys_in tune = played_with key_of (first_of (tracks tune)) (unwrap_or (after_all key_after None tune) (pos 0, false)) tune

-- what is set after what a tune opens with
following_opening : {V : Type 0} (value_of : Item → Option V) (those same_voices : List (List ℕ)) (tune : List Item) (tick : ℕ) (given opening : V)
    → those ≡ same_voices → given ≡ opening
    → last_on tick (played_with value_of those given tune) ≡ set_or_opening value_of same_voices opening tune tick
following_opening value_of those same_voices tune tick given opening voices same =
    ap (λ last. option_or last (set_on tick 0 (Some given)))
    (sections_said value_of (voice_names tune) those tick 0 (played_sections tune))
    ∙ (λ i. option_or (last_set value_of (voices i) tune tick) (set_on tick 0 (Some (same i))))

pub is_conducted : IsConductedOnTicks
is_conducted tune tick =
    let first : first_of (tracks tune) ≡ leader tune = leads (tracks tune) in
    record {
      tempo = tempos_remain tick (tempos_in tune) (meters_in tune) (keys_in tune)
          ∙ ap (λ last. option_to_list (option_map tempo_change last))
          (following_opening tempo_of (voice_names tune) (voice_names tune) tune tick
          (unwrap_or (after_all tempo_after None tune) usual_tempo) (opening_by opening_tempo_of at_120 tune) refl
          (opens tempo_after opening_tempo_of at_120 tempo_said tune));
      meter = meters_remain tick (tempos_in tune) (meters_in tune) (keys_in tune)
          ∙ ap (λ last. option_to_list (option_and_then meter_change last))
          (following_opening meter_of (first_of (tracks tune)) (leader tune) tune tick
          (unwrap_or (after_all meter_after None tune) meters.Free) (opening_by opening_meter_of meters.Free tune) first
          (opens meter_after opening_meter_of meters.Free meter_said tune));
      key = keys_remain tick (tempos_in tune) (meters_in tune) (keys_in tune)
          ∙ ap (λ last. option_to_list (option_map key_change last))
          (following_opening key_of (first_of (tracks tune)) (leader tune) tune tick
          (unwrap_or (after_all key_after None tune) (pos 0, false)) (opening_by opening_key_of (pos 0, false) tune) first
          (opens key_after opening_key_of (pos 0, false) key_said tune));
    }
