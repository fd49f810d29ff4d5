-- How the tones of a note or chord change when it is performed. ABC 2.1 section 4.14.
use Rattle.std.specs.Prelude.{ℕ, ℤ, ◌≤◌, ◌+◌, ◌-◌, ◌*◌, ◌/◌, ◌==◌, ◌&&◌, Bool, Option, option_and_then, min}
use Rattle.abc_time.specs.declared.grains.Grains.{Grains}
use Rattle.abc_time.specs.Grains.{grains_of_the_longest_length}
use Rattle.abc_bars_items.specs.Item.{IsTone}
use Rattle.abc_bars_items.specs.declared.item.Tone.{Tone}
use Rattle.abc_bars_items.specs.declared.velocity.TheConstants.{HIGHEST_VELOCITY}
use Rattle.abc_perform_note.specs.Key.{transposed_key}
use Rattle.abc_perform_item.specs.declared.tone_change.ToneChange.{ToneChange}

-- A change divides by at least 1.
pub record IsChange (change : ToneChange) : Type 0 where
  pub divisor : 1 ≤ change.divisor

-- A tone that a fermata, if there is one, makes no longer than a tone may be.
pub record IsChangeable (change : ToneChange) (tone : Tone) : Type 0 where
  pub range : IsTone tone
  pub held : change.factor * tone.length.0 ≤ grains_of_the_longest_length

-- The key some semitones higher. A silent one stays silent. Not in ABC 2.1.
abbrev pub moved_key : ℤ → Option ℕ → Option ℕ
moved_key transpose key = option_and_then (λ k. transposed_key k transpose) key

-- The key where a key is moved to.
abbrev pub changed_key : ToneChange → Option ℕ → Option ℕ
changed_key change key = moved_key change.transpose key

-- The velocity with accents. Not in ABC 2.1.
abbrev pub changed_velocity : ToneChange → ℕ → ℕ
changed_velocity change velocity = min HIGHEST_VELOCITY (velocity + change.added)

-- How long a sound is: as long as the note, or a part of it by staccato or wedge.
abbrev pub short_length : ToneChange → Grains → Grains
short_length change length = record { 0 = length.0 / change.divisor }

-- Whether a tie counts: staccato and wedge end it. Not in ABC 2.1.
abbrev pub is_tied : ToneChange → Bool → Bool
is_tied change tied = tied && (change.divisor == 1)

-- A tone as it is performed: held by a fermata, shorter by what grace notes take, moved, louder, and shortened.
abbrev pub changed_tone : ToneChange → Tone → Tone
changed_tone change tone = record {
  length = short_length change (record { 0 = change.factor * tone.length.0 - change.taken.0 });
  key = changed_key change tone.key;
  velocity = changed_velocity change tone.velocity;
  tied = is_tied change tone.tied;
}
