-- The programs in force are, on each tick, the last ones that are set there.
use Rattle.std.proofs.Common.{◌≡◌, ℕ, ◌+◌, Bool, true, false, cond, List, [], ◌∷◌, ◌++◌, map, Option, Some, None, refl, sym, ap, ◌∙◌, append-nil, eqb-true}
use Rattle.std.proofs.lemmas.List.Elements.{filter-append}
use Rattle.std.specs.Prelude.{◌==◌, ◌||◌, filter, is_some, option_map}
use Rattle.std.specs.List.{cons_option}
use Rattle.std.specs.Option.{option_or, option_to_list}
use Rattle.abc_bars_items.specs.declared.item.Item.{Item}
use Rattle.abc_bars_items.specs.declared.item.Item.TheVariants as items
use Rattle.abc_time.specs.declared.grains.Grains.{Grains}
use Rattle.abc_time.specs.Grains.{tick_at}
use Rattle.abc_voices_score.specs.declared.score.ProgramChange.{ProgramChange}
use Rattle.abc_voices.specs.Layout.{played_sections, programs_in, set_in}
use Rattle.abc_voices_sections.specs.PlayedSection.{section_length, play_in}
use Rattle.abc_voices.specs.Change.{at_moment, after_opening, program_of, set_from}
use Rattle.abc_voices.specs.Opening.{after_all, program_after}
use Rattle.abc_voices.specs.OnTicks.{last_value, opening_program_of, at_moments, moments_in, set_on, set_by, program_on, HaveProgramsOnTicks}
use Rattle.abc_voices.specs.ScoreChanges.{program_change}
use Rattle.abc_voices_sections.specs.Step.{length_of}
use Rattle.abc_voices.specs.Ticks.{has_tick, last_of_each_tick}
use Rattle.abc_voices.specs.Track.{voice_names, tracks}

-- the value of the first of these that has one
pub or_none : {V : Type 0} (value : Option V) → value ≡ option_or value None
or_none None = refl
or_none (Some value) = refl

or_all : {V : Type 0} (a b c : Option V) → option_or (option_or a b) c ≡ option_or a (option_or b c)
or_all None b c = refl
or_all (Some value) b c = refl

pub last_value-append : {X V : Type 0} (says : X → Option V) (xs ys : List X) → last_value says (xs ++ ys) ≡ option_or (last_value says ys) (last_value says xs)
last_value-append says [] ys = or_none (last_value says ys)
last_value-append says (x ∷ xs) ys =
    ap (λ (v : _). option_or v (says x)) (last_value-append says xs ys) ∙ or_all (last_value says ys) (last_value says xs) (says x)

-- a change, if it is on a tick
abbrev pub set_if_on : {V : Type 0} → ℕ → Grains × V → Option (Grains × V)
set_if_on tick set = cond (tick_at set.0.0 == tick) (Some set) None

-- whether one is
said_there : {X : Type 0} (last : Option X) (here : Bool) (x : X) (later : Bool) → later ≡ is_some last
    → (here || later) ≡ is_some (option_or last (cond here (Some x) None))
said_there None true x later e = refl
said_there None false x later e = e
said_there (Some value) true x later e = refl
said_there (Some value) false x later e = e

has_last : {V : Type 0} (tick : ℕ) (sets : List (Grains × V)) → has_tick tick sets ≡ is_some (last_value (set_if_on tick) sets)
has_last tick [] = refl
has_last tick (set ∷ later) =
    said_there (last_value (set_if_on tick) later) (tick_at set.0.0 == tick) set (has_tick tick later) (has_last tick later)

-- one change more
abbrev pub is_on : {V : Type 0} → ℕ → Grains × V → Bool
is_on tick set = tick_at set.0.0 == tick

one_remains : {V : Type 0} (tick : ℕ) (changes : List (Grains × V)) (set : Grains × V) (last : Option (Grains × V)) (later here : Bool) → is_on tick set ≡ here
    → filter (is_on tick) changes ≡ option_to_list last → (here ≡ true → later ≡ is_some last)
    → filter (is_on tick) (cond later changes (changes ++ set ∷ [])) ≡ option_to_list (option_or last (cond here (Some set) None))
one_remains tick changes set None true true e those same = let h : true ≡ false = same refl in cc
one_remains tick changes set None true false e those same = those
one_remains tick changes set None false true e those same =
    filter-append (is_on tick) changes (set ∷ []) ∙ (λ i. those i ++ cond (e i) (set ∷ []) [])
one_remains tick changes set None false false e those same =
    filter-append (is_on tick) changes (set ∷ []) ∙ (λ i. those i ++ cond (e i) (set ∷ []) [])
one_remains tick changes set (Some value) true true e those same = those
one_remains tick changes set (Some value) true false e those same = those
one_remains tick changes set (Some value) false true e those same = let h : false ≡ true = same refl in cc
one_remains tick changes set (Some value) false false e those same =
    filter-append (is_on tick) changes (set ∷ []) ∙ (λ i. those i ++ cond (e i) (set ∷ []) [])

-- the last change on a tick is in force
pub filter-last_of_each_tick : {V : Type 0} (tick : ℕ) (sets : List (Grains × V)) → filter (is_on tick) (last_of_each_tick sets) ≡ option_to_list (last_value (set_if_on tick) sets)
filter-last_of_each_tick tick [] = refl
filter-last_of_each_tick tick (set ∷ later) =
    one_remains tick (last_of_each_tick later) set (last_value (set_if_on tick) later) (has_tick (tick_at set.0.0) later) (is_on tick set) refl (filter-last_of_each_tick tick later)
    (λ here. ap (λ n. has_tick n later) (eqb-true (tick_at set.0.0) tick here) ∙ has_last tick later)

-- the same of programs
abbrev is_there : ℕ → ProgramChange → Bool
is_there tick change = tick_at change.at.0 == tick

of_either : {X Y : Type 0} (f : X → Y) (here : Bool) (x : X) (xs : List X) (ys : List Y) → ys ≡ map f xs → cond here (f x ∷ ys) ys ≡ map f (cond here (x ∷ xs) xs)
of_either f true x xs ys e = ap (λ l. f x ∷ l) e
of_either f false x xs ys e = e

those_there : (tick : ℕ) (sets : List (Grains × ℕ)) → filter (is_there tick) (map program_change sets) ≡ map program_change (filter (is_on tick) sets)
those_there tick [] = refl
those_there tick ((at, number) ∷ sets) =
    of_either program_change (tick_at at.0 == tick) (at, number) (filter (is_on tick) sets) (filter (is_there tick) (map program_change sets)) (those_there tick sets)

pub map-option_to_list : {X Y : Type 0} (f : X → Y) (value : Option X) → map f (option_to_list value) ≡ option_to_list (option_map f value)
map-option_to_list f None = refl
map-option_to_list f (Some value) = refl

-- what is set last on a tick, of changes in order
abbrev pub last_on : {V : Type 0} → ℕ → List (Grains × V) → Option (Grains × V)
last_on tick sets = last_value (set_if_on tick) sets

neither : {X : Type 0} (here : Bool) → ◌≡◌ {A = Option X} (cond here None None) None
neither true = refl
neither false = refl

one_more : {V : Type 0} (tick at : ℕ) (value : Option V) (sets : List (Grains × V))
    → last_on tick (cons_option (at_moment at value) sets) ≡ option_or (last_on tick sets) (set_on tick at value)
one_more tick at None sets =
    or_none (last_on tick sets) ∙ ap (option_or (last_on tick sets)) (sym (neither (tick_at at == tick)))
one_more tick at (Some value) sets = refl

pub last_on-play : {V : Type 0} (value_of : Item → Option V) (tick at : ℕ) (play : List Item)
    → last_on tick (set_from value_of at play) ≡ last_value (set_by value_of tick) (at_moments at play)
last_on-play value_of tick at [] = refl
last_on-play value_of tick at (item ∷ play) =
    one_more tick at (value_of item) (set_from value_of (at + length_of item) play)
    ∙ ap (λ last. option_or last (set_on tick at (value_of item))) (last_on-play value_of tick (at + length_of item) play)

sections_said : (tick : ℕ) (voices : List (List ℕ)) (voice : List ℕ) (at : ℕ) (sections : List (List ℕ × List Item))
    → last_on tick (set_in program_of voices (voice ∷ []) at sections) ≡ last_value (set_by program_of tick) (moments_in voices voice at sections)
sections_said tick voices voice at [] = refl
sections_said tick voices voice at (section ∷ rest) =
    let play : List Item = play_in section voice in
    let next : ℕ = at + section_length voices section in
    let own : List (Grains × ℕ) = set_from program_of at play in
    let others : List (Grains × ℕ) = set_in program_of voices (voice ∷ []) next rest in
    ap (λ sets. last_on tick (sets ++ others)) (append-nil own)
    ∙ last_value-append (set_if_on tick) own others
    ∙ (λ i. option_or (sections_said tick voices voice next rest i) (last_on-play program_of tick at play i))
    ∙ sym (last_value-append (set_by program_of tick) (at_moments at play) (moments_in voices voice next rest))

-- what a tune after_all-opens with is the last program of its header
one_past : (program : Option ℕ) (item : Item) → program_after program item ≡ option_or (opening_program_of item) program
one_past program (items.Program true (Some number)) = refl
one_past program _ = refl

-- what holds after a tune is what is said last in it
all_past : {V : Type 0} (past : Option V → Item → Option V) (says : Item → Option V)
    → ((value : Option V) (item : Item) → past value item ≡ option_or (says item) value)
    → (value : Option V) (tune : List Item) → after_all past value tune ≡ option_or (last_value says tune) value
all_past past says one value [] = refl
all_past past says one value (item ∷ tune) =
    all_past past says one (past value item) tune
    ∙ ap (option_or (last_value says tune)) (one value item)
    ∙ sym (or_all (last_value says tune) (says item) value)

pub after_all-opens : {V : Type 0} (past : Option V → Item → Option V) (says : Item → Option V)
    → ((value : Option V) (item : Item) → past value item ≡ option_or (says item) value)
    → (tune : List Item) → after_all past None tune ≡ last_value says tune
after_all-opens past says one tune = all_past past says one None tune ∙ sym (or_none (last_value says tune))

-- the program of a voice on a tick
voice_on : (tune : List Item) (tick : ℕ) (voice : List ℕ)
    → filter (is_there tick) (programs_in (after_all program_after None tune) (voice_names tune) (played_sections tune) voice)
    ≡ option_to_list (program_on tune tick voice)
voice_on tune tick voice =
    let opening : Option ℕ = after_all program_after None tune in
    let sets : List (Grains × ℕ) = set_in program_of (voice_names tune) (voice ∷ []) 0 (played_sections tune) in
    those_there tick (last_of_each_tick (after_opening opening sets))
    ∙ ap (map program_change) (filter-last_of_each_tick tick (after_opening opening sets))
    ∙ map-option_to_list program_change (last_value (set_if_on tick) (after_opening opening sets))
    ∙ ap (λ last. option_to_list (option_map program_change last)) (one_more tick 0 opening sets
    ∙ (λ i. option_or (sections_said tick (voice_names tune) voice 0 (played_sections tune) i) (set_on tick 0 (after_all-opens program_after opening_program_of one_past tune i))))

voices_on : {X Y Z : Type 0} (f : Y → Z) (g : X → Y) (h : X → Z) → ((x : X) → f (g x) ≡ h x) → (xs : List X) → map f (map g xs) ≡ map h xs
voices_on f g h same [] = refl
voices_on f g h same (x ∷ xs) = λ i. same x i ∷ voices_on f g h same xs i

pub programs_on_ticks : HaveProgramsOnTicks
programs_on_ticks tune tick =
    voices_on (filter (is_there tick))
    (programs_in (after_all program_after None tune) (voice_names tune) (played_sections tune))
    (λ voice. option_to_list (program_on tune tick voice)) (voice_on tune tick) (tracks tune)
