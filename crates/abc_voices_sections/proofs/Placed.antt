-- Stages that are put into a table.
use Rattle.std.proofs.Common.{◌≡◌, ℕ, zero, suc, ◌+◌, ◌<◌, ◌≤◌, ◌≢◌, List, [], ◌∷◌, length, map, get_or, refl, sym, ap, subst, ◌∙◌, inl, inr, arith}
use Rattle.std.proofs.Math.ListN.{set}
use Rattle.std.proofs.lemmas.Bool.{cases_eq}
use Rattle.std.specs.Result.{IsErr, IsErrAnd}
use Rattle.std.proofs.lemmas.List.{get_or-set_same, get_or-set_other, get_or_past}
use Rattle.std.proofs.lemmas.Option.{slice_get_cases, slice_get-map, slice_get_within}
use Rattle.std.proofs.Common.{take}
use Rattle.std.specs.List.{cons_option}
use Rattle.std.specs.Prelude.{Option, Some, None, Result, Ok, Err, All, sum_by, filter_map, slice_get, option_map}
use Rattle.std.proofs.lemmas.List.{length-map}
use Rattle.std.proofs.lemmas.List.Elements.{All-nil, All-head, All-tail, All-weaker, All-more}
use Rattle.std.proofs.lemmas.List.Sums.{sum_by-cons, sum_by_more, sum_by_more_le}
use Rattle.abc_bars_items.specs.declared.item.Item.{Item}
use Rattle.abc_repeat.specs.declared.play.TheConstants.{MOST_PLACES}
use Rattle.abc_time.specs.Grains.{grains_of_the_latest_end}
use Rattle.abc_voices_sections.specs.declared.section.Section.{Section}
use Rattle.abc_voices_sections.specs.declared.stage.Stage.{Stage}
use Rattle.abc_voices_sections.specs.declared.stage.StageError.{StageError}
use Rattle.abc_voices_sections.specs.PlayedSection.{count_in, section_time}
use Rattle.abc_voices_sections.specs.Stage.{steps_at, stage_in, stage_size}
use Rattle.abc_voices_sections.specs.Table.{stage_at, stage_for, number_of, size_for, length_for, IsStageAt, AreStages, IsNew, IsPut, ArePut, sections_at}

past_end : {A : Type 0} (xs : List A) (k : ℕ) → slice_get xs k ≡ None → length xs ≤ k
past_end xs k h =
    elim (slice_get_cases xs k).1 [
      | inl found ↦ let no : Some found.0 ≡ None = sym found.2 ∙ h in cc
      | inr past ↦ past.0
    ]

-- a place beyond the sections plays nothing
pub put_nothing : {A : Type 0} (item_of : A → Item) (voices : List (List ℕ)) (sections : List (Section A)) (place : ℕ) (table : List (Option (Stage A)))
    → length table ≡ length sections → AreStages item_of voices sections table → slice_get sections place ≡ None
    → IsPut item_of voices sections place table table
put_nothing item_of voices sections place table long are none =
    let past : length sections ≤ place = past_end sections place none in
    let free : get_or table place None ≡ None = get_or_past table place None (omega arith) in
    let wanted : stage_for item_of voices sections place ≡ None = ap (option_map (λ section. stage_in item_of voices (steps_at section))) none in
    record {
      are = are;
      here = free ∙ sym wanted;
      there = λ other h. h;
    }

pub size_for-nothing : {A : Type 0} (item_of : A → Item) (voices : List (List ℕ)) (sections : List (Section A)) (place : ℕ) → slice_get sections place ≡ None → size_for item_of voices sections place ≡ 0
size_for-nothing item_of voices sections place none = ap (number_of (λ section. sum_by (count_in item_of (steps_at section)) voices)) none

section_stage : {A : Type 0} (item_of : A → Item) (voices : List (List ℕ)) (sections : List (Section A)) (place : ℕ) (section : Section A)
    → slice_get sections place ≡ Some section → stage_for item_of voices sections place ≡ Some (stage_in item_of voices (steps_at section))
section_stage item_of voices sections place section is = ap (option_map (λ one. stage_in item_of voices (steps_at one))) is

pub size_for-section : {A : Type 0} (item_of : A → Item) (voices : List (List ℕ)) (sections : List (Section A)) (place : ℕ) (section : Section A)
    → slice_get sections place ≡ Some section → size_for item_of voices sections place ≡ sum_by (count_in item_of (steps_at section)) voices
size_for-section item_of voices sections place section is =
    ap (number_of (λ one. sum_by (count_in item_of (steps_at one)) voices)) is

pub length_for-section : {A : Type 0} (item_of : A → Item) (voices : List (List ℕ)) (sections : List (Section A)) (place : ℕ) (section : Section A)
    → slice_get sections place ≡ Some section → length_for item_of voices sections place ≡ section_time item_of voices (steps_at section)
length_for-section item_of voices sections place section is =
    ap (number_of (λ one. section_time item_of voices (steps_at one))) is

-- what is at a place of a table after a stage was put
set_at : {A : Type 0} (table : List (Option (Stage A))) (place other : ℕ) (stage : Stage A) (P : ℕ → Option (Stage A) → Type 0)
    → place < length table → P place (Some stage) → (other ≢ place → P other (get_or table other None))
    → P other (get_or (set table place (Some stage)) other None)
set_at table place other stage P within here there =
    elim (cases_eq other place) [
      | inl same ↦
          let at : get_or (set table place (Some stage)) place None ≡ Some stage = get_or-set_same table place (Some stage) None within in
          let Q : ℕ → Type 0 = λ k. P k (get_or (set table place (Some stage)) k None) in
          subst Q (sym same) (subst (P place) (sym at) here)
      | inr apart ↦ subst (P other) (sym (get_or-set_other table place other (Some stage) None apart)) (there apart)
    ]

-- a stage is put if none is there
pub put_first : {A : Type 0} (item_of : A → Item) (voices : List (List ℕ)) (sections : List (Section A)) (place : ℕ) (before after : List (Option (Stage A))) (section : Section A)
    → AreStages item_of voices sections before → slice_get sections place ≡ Some section → place < length before
    → IsNew item_of voices section place before after
    → IsPut item_of voices sections place before after
put_first {A = A} item_of voices sections place before after section are found within new =
    let stage : Stage A = stage_in item_of voices (steps_at section) in
    let value : stage_for item_of voices sections place ≡ Some stage = section_stage item_of voices sections place section found in
    let size : size_for item_of voices sections place ≡ sum_by (count_in item_of (steps_at section)) voices = size_for-section item_of voices sections place section found in
    let own : stage_size stage ≡ sum_by (count_in item_of (steps_at section)) voices = new.size in
    let is : IsStageAt item_of voices sections place stage = record { value = value; size = own ∙ sym size; few = new.few } in
    let IsRight : ℕ → Option (Stage A) → Type 0 = λ k one. (other : Stage A) → one ≡ Some other → IsStageAt item_of voices sections k other in
    let IsFor : ℕ → Option (Stage A) → Type 0 = λ k one. one ≡ stage_for item_of voices sections k in
    let there : (other : ℕ) → stage_at before other ≡ stage_for item_of voices sections other → stage_at after other ≡ stage_for item_of voices sections other =
    λ other h. subst (λ (t : List (Option (Stage A))). get_or t other None ≡ stage_for item_of voices sections other) (sym new.put)
    (set_at before place other stage IsFor within (sym value) (λ apart. h)) in
    let each : (k : ℕ) (one : Stage A) → stage_at after k ≡ Some one → IsStageAt item_of voices sections k one =
    λ k. subst (λ (t : List (Option (Stage A))). IsRight k (get_or t k None)) (sym new.put)
    (set_at before place k stage IsRight within (λ other e. subst (IsStageAt item_of voices sections place) (cc) is) (λ apart. are.each k)) in
    record {
      are = record { each = each };
      here = subst (λ (t : List (Option (Stage A))). get_or t place None ≡ stage_for item_of voices sections place) (sym new.put) (get_or-set_same before place (Some stage) None within ∙ sym value);
      there = there;
    }

nothing_at : {A : Type 0} (sections : List (Section A)) (k : ℕ) (stage : Stage A) → get_or (map {B = Option (Stage A)} (λ section. None) sections) k None ≡ Some stage → ⊥
nothing_at [] zero stage e = cc
nothing_at [] (suc k) stage e = cc
nothing_at (section ∷ sections) zero stage e = cc
nothing_at (section ∷ sections) (suc k) stage e = nothing_at sections k stage e

-- no table is full at first
pub none_yet : {A : Type 0} (item_of : A → Item) (voices : List (List ℕ)) (sections : List (Section A)) → AreStages item_of voices sections (map (λ section. None) sections)
none_yet item_of voices sections = record { each = λ k stage e. absurd (nothing_at sections k stage e) }

-- no stage is in the table at first
pub put_none : {A : Type 0} (item_of : A → Item) (voices : List (List ℕ)) (sections : List (Section A)) (places : List ℕ)
    → ArePut item_of voices sections (take 0 places) MOST_PLACES (map (λ section. None) sections)
put_none {A = A} item_of voices sections places = record {
  long = length-map {A = Section A} {B = Option (Stage A)} sections (λ section. None);
  are = none_yet item_of voices sections;
  here = All-nil (λ place. stage_at (map (λ section. None) sections) place ≡ stage_for item_of voices sections place);
  fits = omega arith;
}

-- one more stage is put
pub put_more : {A : Type 0} (item_of : A → Item) (voices : List (List ℕ)) (sections : List (Section A)) (places : List ℕ) (i room left : ℕ) (before after : List (Option (Stage A)))
    → i < length places → length after ≡ length before → ArePut item_of voices sections (take i places) room before
    → IsPut item_of voices sections (get_or places i 0) before after → left + size_for item_of voices sections (get_or places i 0) ≡ room
    → ArePut item_of voices sections (take (i + 1) places) left after
put_more item_of voices sections places i room left before after within long are put fits =
    let Before : ℕ → Type 0 = λ place. stage_at before place ≡ stage_for item_of voices sections place in
    let After : ℕ → Type 0 = λ place. stage_at after place ≡ stage_for item_of voices sections place in
    let sum : sum_by (size_for item_of voices sections) (take (i + 1) places) ≡ sum_by (size_for item_of voices sections)
    (take i places) + size_for item_of voices sections (get_or places i 0) = sum_by_more (size_for item_of voices sections) places i 0 within in
    record {
      long = long ∙ are.long;
      are = put.are;
      here = All-more After places i 0 within (All-weaker Before After put.there (take i places) are.here) put.here;
      fits = omega (arith, fits, are.fits);
    }

one_stage : {A : Type 0} (item_of : A → Item) (voices : List (List ℕ)) (one : Option (Section A)) (rest : List (List ℕ × List A))
    → cons_option (option_map (λ section. stage_in item_of voices (steps_at section)) one) (map (stage_in item_of voices) rest) ≡ map (stage_in item_of voices) (cons_option (option_map steps_at one) rest)
one_stage item_of voices None rest = refl
one_stage item_of voices (Some section) rest = refl

-- the stages at some places are those of the sections there
pub filter_map-stages : {A : Type 0} (item_of : A → Item) (voices : List (List ℕ)) (sections : List (Section A)) (table : List (Option (Stage A))) (places : List ℕ)
    → All (λ place. stage_at table place ≡ stage_for item_of voices sections place) places
    → filter_map (stage_at table) places ≡ map (stage_in item_of voices) (sections_at sections places)
filter_map-stages item_of voices sections table [] h = refl
filter_map-stages item_of voices sections table (place ∷ places) h =
    let P : ℕ → Type 0 = λ k. stage_at table k ≡ stage_for item_of voices sections k in
    (λ i. cons_option (All-head P place places h i) (filter_map-stages item_of voices sections table places (All-tail P place places h) i))
    ∙ one_stage item_of voices (slice_get sections place) (sections_at sections places)
    ∙ ap (λ one. map (stage_in item_of voices) (cons_option one (sections_at sections places))) (sym (slice_get-map steps_at sections place))

one_number : {A : Type 0} (number : List ℕ × List A → ℕ) (one : Option (Section A)) (rest : List (List ℕ × List A))
    → number_of (λ section. number (steps_at section)) one + sum_by number rest ≡ sum_by number (cons_option (option_map steps_at one) rest)
one_number number None rest = omega arith
one_number number (Some section) rest = sym (sum_by-cons number (steps_at section) rest)

-- a sum over some places is that over the sections there
pub sum_by-numbers_at : {A : Type 0} (number : List ℕ × List A → ℕ) (sections : List (Section A)) (places : List ℕ)
    → sum_by (λ place. number_of (λ section. number (steps_at section)) (slice_get sections place)) places ≡ sum_by number (sections_at sections places)
sum_by-numbers_at number sections [] = refl
sum_by-numbers_at number sections (place ∷ places) =
    let here : ℕ → ℕ = λ k. number_of (λ section. number (steps_at section)) (slice_get sections k) in
    sum_by-cons here place places
    ∙ ap (λ n. here place + n) (sum_by-numbers_at number sections places)
    ∙ one_number number (slice_get sections place) (sections_at sections places)
    ∙ ap (λ one. sum_by number (cons_option one (sections_at sections places))) (sym (slice_get-map steps_at sections place))

-- a fault that is handed on
pub fault_is : {T : Type 0} (r : Result T StageError) (fault : StageError) → IsErr r × IsErrAnd r (λ e. e ≡ fault) → r ≡ Err fault
fault_is (Ok x) fault h = let e = h.0 in cc
fault_is (Err e) fault h = ap Err h.1

-- more places than there is room for
pub too_many_at : {A : Type 0} (item_of : A → Item) (voices : List (List ℕ)) (sections : List (Section A)) (places : List ℕ) (i room : ℕ) (table : List (Option (Stage A)))
    → i < length places → ArePut item_of voices sections (take i places) room table → room < size_for item_of voices sections (get_or places i 0)
    → MOST_PLACES < sum_by (λ section. sum_by (count_in item_of section) voices) (sections_at sections places)
too_many_at item_of voices sections places i room table within are full =
    let here : sum_by (size_for item_of voices sections) (take i places) + size_for item_of voices sections (get_or places i 0) ≤ sum_by
    (size_for item_of voices sections) places = sum_by_more_le (size_for item_of voices sections) places i 0 within in
    let whole : sum_by (size_for item_of voices sections) places ≡ sum_by (λ section. sum_by (count_in item_of section) voices) (sections_at sections places) =
    sum_by-numbers_at (λ section. sum_by (count_in item_of section) voices) sections places in
    omega (arith, are.fits)

-- a section that is too long
pub too_late_at : {A : Type 0} (item_of : A → Item) (voices : List (List ℕ)) (sections : List (Section A)) (places : List ℕ) (i : ℕ)
    → i < length places → grains_of_the_latest_end < length_for item_of voices sections (get_or places i 0)
    → grains_of_the_latest_end < sum_by (section_time item_of voices) (sections_at sections places)
too_late_at item_of voices sections places i within late =
    let here : sum_by (length_for item_of voices sections) (take i places) + length_for item_of voices sections (get_or places i 0) ≤ sum_by
    (length_for item_of voices sections) places = sum_by_more_le (length_for item_of voices sections) places i 0 within in
    let whole : sum_by (length_for item_of voices sections) places ≡ sum_by (section_time item_of voices) (sections_at sections places) =
    sum_by-numbers_at (section_time item_of voices) sections places in
    omega arith

-- all that is played is within the room
pub places_at : {A : Type 0} (item_of : A → Item) (voices : List (List ℕ)) (sections : List (Section A)) (places : List ℕ) (room : ℕ) (table : List (Option (Stage A)))
    → ArePut item_of voices sections places room table
    → sum_by (λ section. sum_by (count_in item_of section) voices) (sections_at sections places) ≤ MOST_PLACES
places_at item_of voices sections places room table are =
    let whole : sum_by (size_for item_of voices sections) places ≡ sum_by (λ section. sum_by (count_in item_of section) voices) (sections_at sections places) =
    sum_by-numbers_at (λ section. sum_by (count_in item_of section) voices) sections places in
    omega (arith, are.fits)

-- a section's place is one of the table
pub within_table : {A : Type 0} (sections : List (Section A)) (table : List (Option (Stage A))) (place : ℕ) (section : Section A)
    → length table ≡ length sections → slice_get sections place ≡ Some section → place < length table
within_table sections table place section long found = omega (arith, slice_get_within sections place section found)

pub none_in : {A : Type 0} (item_of : A → Item) (voices : List (List ℕ)) (sections : List (Section A)) (table : List (Option (Stage A))) (places : List ℕ)
    → table ≡ map (λ section. None) sections → ArePut item_of voices sections (take 0 places) MOST_PLACES table
none_in {A = A} item_of voices sections table places is =
    let P : List (Option (Stage A)) → Type 0 = λ t. ArePut item_of voices sections (take 0 places) MOST_PLACES t in
    subst P (sym is) (put_none item_of voices sections places)
