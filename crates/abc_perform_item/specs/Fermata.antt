-- How long a fermata holds a note, chord or rest. ABC 2.1 section 4.14.
use Rattle.std.specs.Prelude.{ℕ, ◌*◌, ◌≤◌, ◌&&◌, Bool, nat_le, if◌then◌else◌, All, List}
use Rattle.std.specs.List.{list_all}
use Rattle.abc_time.specs.declared.grains.Grains.{Grains}
use Rattle.abc_time.specs.Grains.{grains_of_the_longest_length}
use Rattle.abc_bars_items.specs.declared.item.Tone.{Tone}
use Rattle.abc_marks.specs.declared.mark.Mark.{Mark}
use Rattle.abc_perform_item.specs.Decorations.{has_fermata}

-- Whether twice a length is one that a note may have.
abbrev pub has_room : Grains → Bool
has_room length = nat_le (2 * length.0) grains_of_the_longest_length

-- Whether that is so for each of some tones.
abbrev pub have_room : List Tone → Bool
have_room tones = list_all (λ tone. has_room tone.length) tones

-- Each of some tones, as many times as long, is not too long.
pub record AreHeld (factor : ℕ) (tones : List Tone) : Type 0 where
  pub each : All (λ tone. factor * tone.length.0 ≤ grains_of_the_longest_length) tones

-- A fermata doubles a length where fermatas count, unless that or a tone gets too long. Not in ABC 2.1.
abbrev pub fermata_factor : Bool → List Mark → Grains → List Tone → ℕ
fermata_factor holds marks length tones =
    if holds && has_fermata marks && has_room length && have_room tones then 2 else 1
