-- What holds of stages by definition.
use Rattle.std.proofs.Common.{ℕ, ◌≤◌, List, [], ◌∷◌, map, refl, arith}
use Rattle.std.specs.List.{flat_map}
use Rattle.std.specs.Prelude.{All}
use Rattle.std.proofs.lemmas.List.Elements.{All-nil, All-cons, All-head, All-tail}
use Rattle.abc_bars_items.specs.declared.item.Item.{Item}
use Rattle.abc_bars_items.specs.Item.{IsItem}
use Rattle.abc_time.specs.declared.grains.Grains.{Grains}
use Rattle.abc_voices.specs.Turns.{IsPart, IsStage}
use Rattle.abc_voices.specs.Layout.{total, voices_notes, end_of}
use Rattle.abc_voices_sections.specs.PlayedSection.{length_in, section_length}
use Rattle.abc_voices_sections.specs.Stage.{part_of, stage_of}
use Rattle.abc_voices.proofs.Fitting.Kept.{play_kept}
use Rattle.abc_voices.proofs.Fitting.Voices.{last_past}

abbrev longest_in : List ℕ × List Item → List (List ℕ) → ℕ
longest_in section voices = section_length voices section

-- each part is at most as long as the longest, and its items can be
parts_all : (section : List ℕ × List Item) (longest : Grains) (voices : List (List ℕ))
    → All IsItem section.1 → longest_in section voices ≤ longest.0
    → All (IsPart longest) (map (part_of section) voices)
parts_all section longest [] h within = All-nil (IsPart longest)
parts_all section longest (voice ∷ voices) h within =
    let here : length_in section voice ≤ longest.0 = omega arith in
    let own : IsPart longest (part_of section voice) = record { items = play_kept IsItem section voice h; length = refl; short = here } in
    All-cons (IsPart longest) (part_of section voice) (map (part_of section) voices) own (parts_all section longest voices h (omega arith))

stage_is : (voices : List (List ℕ)) (section : List ℕ × List Item) → All IsItem section.1 → IsStage (stage_of voices section)
stage_is voices section h = record { parts = parts_all section (stage_of voices section).longest voices h (omega arith) }

-- the stages of sections whose items can be
pub stages_are : (voices : List (List ℕ)) (played : List (List ℕ × List Item))
    → All (λ section. All IsItem section.1) played → All IsStage (map (stage_of voices) played)
stages_are voices [] h = All-nil IsStage
stages_are voices (section ∷ played) h =
    let P : List ℕ × List Item → Type 0 = λ one. All IsItem one.1 in
    All-cons IsStage (stage_of voices section) (map (stage_of voices) played) (stage_is voices section (All-head P section played h)) (stages_are voices played (All-tail P section played h))

-- a tune ends with its sections, or later
pub total_within : (tune : List Item) → total tune ≤ end_of tune
total_within tune = last_past (total tune) (flat_map (λ notes. notes) (voices_notes tune))
