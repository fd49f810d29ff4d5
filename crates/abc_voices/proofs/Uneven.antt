-- A tune has the fault of uneven voices exactly if it has some.
use Rattle.std.proofs.Common.{◌≡◌, ℕ, ◌&&◌, Bool, true, false, List, refl, ap}
use Rattle.std.specs.Prelude.{◌==◌, not, Any}
use Rattle.std.specs.List.{list_any}
use Rattle.std.proofs.lemmas.Bool.{and_parts, eqb-false, ne_eqb, not-true}
use Rattle.std.proofs.lemmas.List.Folds.{Any-from_list_any, list_any-from_Any}
use Rattle.abc_bars_items.specs.declared.item.Item.{Item}
use Rattle.abc_bars_items.specs.declared.item.Item.TheVariants as items
use Rattle.abc_voices_sections.specs.PlayedSection.{length_in, play_in}
use Rattle.abc_voices.specs.Layout.{arranged_of, lengths_differ, is_uneven, played_sections, plays_time, takes_time}
use Rattle.abc_voices.specs.Track.{voice_names}
use Rattle.abc_voices.specs.Uneven.{TakesTime, by_tones, by_rest, AreUneven, UnevenByLengths}

-- some of what has one property has another
some : {X : Type 0} (P Q : X → Type 0) → ((x : X) → P x → Q x) → (xs : List X) → Any P xs → Any Q xs
some P Q so xs any = (any.0, any.1, any.2, any.3, so any.1 any.4)

takes : (item : Item) → takes_time item ≡ true → TakesTime item
takes (items.Tone tones length) is = by_tones tones length refl
takes (items.Rest length bar) is = by_rest length bar refl
takes _ is = absurd cc

taken : (item : Item) → TakesTime item → takes_time item ≡ true
taken item (by_tones tones length is) = ap takes_time is
taken item (by_rest length bar is) = ap takes_time is

plays : (section : List ℕ × List Item) (voice : List ℕ) → plays_time section voice ≡ true → Any TakesTime (play_in section voice)
plays section voice is =
    some (λ item. takes_time item ≡ true) TakesTime takes (play_in section voice) (Any-from_list_any takes_time (play_in section voice) is)

played : (section : List ℕ × List Item) (voice : List ℕ) → Any TakesTime (play_in section voice) → plays_time section voice ≡ true
played section voice any =
    list_any-from_Any takes_time (play_in section voice) (some TakesTime (λ item. takes_time item ≡ true) taken (play_in section voice) any)

uneven : (section : List ℕ × List Item) (one other : List ℕ) → lengths_differ section one other ≡ true → AreUneven section one other
uneven section one other is =
    let unequal : Bool = not (length_in section one == length_in section other) in
    let both = and_parts (plays_time section one && plays_time section other) unequal is in
    let play = and_parts (plays_time section one) (plays_time section other) both.0 in
    record {
      one_plays = plays section one play.0;
      other_plays = plays section other play.1;
      lengths_differ = eqb-false (length_in section one) (length_in section other) (not-true (length_in section one == length_in section other) both.1);
    }

differ_by_length : (section : List ℕ × List Item) (one other : List ℕ) → AreUneven section one other → lengths_differ section one other ≡ true
differ_by_length section one other are =
    let first : plays_time section one ≡ true = played section one are.one_plays in
    let second : plays_time section other ≡ true = played section other are.other_plays in
    let unequal : (length_in section one == length_in section other) ≡ false = ne_eqb (length_in section one) (length_in section other) are.lengths_differ in
    λ i. first i && second i && not (unequal i)

pub uneven_by_lengths : UnevenByLengths
unfolding arranged_of
uneven_by_lengths tune =
    let voices : List (List ℕ) = voice_names tune in
    let sections : List (List ℕ × List Item) = played_sections tune in (
      λ is. some (λ section. is_uneven voices section ≡ true) (λ section. Any (λ one. Any (AreUneven section one) voices) voices)
          (λ section there. some (λ one. list_any (lengths_differ section one) voices ≡ true) (λ one. Any (AreUneven section one) voices)
          (λ one those. some (λ other. lengths_differ section one other ≡ true) (AreUneven section one) (uneven section one) voices
          (Any-from_list_any (lengths_differ section one) voices those))
          voices (Any-from_list_any (λ one. list_any (lengths_differ section one) voices) voices there))
          sections (Any-from_list_any (is_uneven voices) sections is),
      λ has. list_any-from_Any (is_uneven voices) sections
          (some (λ section. Any (λ one. Any (AreUneven section one) voices) voices) (λ section. is_uneven voices section ≡ true)
          (λ section there. list_any-from_Any (λ one. list_any (lengths_differ section one) voices) voices
          (some (λ one. Any (AreUneven section one) voices) (λ one. list_any (lengths_differ section one) voices ≡ true)
          (λ one those. list_any-from_Any (lengths_differ section one) voices
          (some (AreUneven section one) (λ other. lengths_differ section one other ≡ true) (differ_by_length section one) voices those))
          voices there))
          sections has),
    )
