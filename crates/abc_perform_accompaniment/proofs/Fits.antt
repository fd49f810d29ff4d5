-- The first layer of a voice, whose layers fit, fits.
use Rattle.std.proofs.Common.{◌≡◌, ℕ, ◌+◌, nat_le, ◌&&◌, ◌||◌, if◌then◌else◌, Bool, true, false, List, [], ◌∷◌, map, refl, ap, arith}
use Rattle.abc_time.specs.Grains.{grains_of_the_longest_length}
use Rattle.abc_time.specs.declared.grains.Grains.{Grains}
use Rattle.abc_perform_layers.specs.Limit.{fits_from}
use Rattle.abc_perform_accompaniment.specs.declared.stretch.StretchState.{StretchState}
use Rattle.abc_perform_accompaniment.specs.declared.voice_setting.VoiceSetting.{VoiceSetting}
use Rattle.abc_perform_accompaniment.specs.declared.voice_step.VoiceStep.{VoiceStep}
use Rattle.abc_perform_accompaniment.specs.declared.voice_step.VoiceStep.TheVariants as steps
use Rattle.abc_perform_accompaniment.specs.Section.{rest_fits, state_after}
use Rattle.abc_perform_accompaniment.specs.Stretch.{section_opening, with_step, with_time}
use Rattle.abc_perform_accompaniment.specs.VoiceStep.{role_of}

-- Both of two tests.
both : (a b : Bool) → (a && b) ≡ true → (a ≡ true) × (b ≡ true)
both true b e = (refl, e)
both false b e = absurd (let n : ⊥ = grind arith in n)

-- What a state says of the length of a stretch so far.
abbrev Knows : ℕ → StretchState → Type 0
Knows time state = state.layered ≡ false → time ≡ state.length.0

-- A state that is kept after an overlay mark, or another one.
chosen : (P : StretchState → Type 0) (layered : Bool) (state other : StretchState) → P state → P other
    → P (if layered then state else other)
chosen P true state other p q = p
chosen P false state other p q = q

-- One more note, chord or rest.
timed : (time : ℕ) (state : StretchState) (length : Grains) (rest : List VoiceStep) (layered : Bool) → state.layered ≡ layered
    → ((after : StretchState) → Knows (time + length.0) after → rest_fits after rest ≡ true)
    → Knows time state → nat_le (time + length.0) grains_of_the_longest_length ≡ true
    → ((layered || nat_le (state.length.0 + length.0) grains_of_the_longest_length)
    && rest_fits (if layered then state else with_time state length) rest) ≡ true
timed time state length rest true is later known short =
    later state (λ f. absurd (let n : ⊥ = grind arith in n))
timed time state length rest false is later known short =
    let same = known is in
    let fits : nat_le (state.length.0 + length.0) grains_of_the_longest_length ≡ true = rw (← same) short in
    rw fits (later (with_time state length) (λ f. ap (λ n. n + length.0) same))

-- From each place on the first layer fits.
fits : (time : ℕ) (state : StretchState) (voice : List VoiceStep) → Knows time state
    → fits_from time (map role_of voice) ≡ true → rest_fits state voice ≡ true
fits time state [] known fit = refl
fits time state (steps.Time length ∷ rest) known fit =
    let parts = both (nat_le (time + length.0) grains_of_the_longest_length) (fits_from (time + length.0) (map role_of rest)) fit in
    timed time state length rest state.layered refl (λ after knows. fits (time + length.0) after rest knows parts.1) known parts.0
fits time state (steps.Bar line ∷ rest) known fit =
    let parts = both (nat_le 0 grains_of_the_longest_length) (fits_from 0 (map role_of rest)) fit in
    fits 0 (state_after state (steps.Bar line)) rest (λ f. refl) parts.1
fits time state (steps.Ending passes ∷ rest) known fit =
    let parts = both (nat_le 0 grains_of_the_longest_length) (fits_from 0 (map role_of rest)) fit in
    fits 0 (state_after state (steps.Ending passes)) rest (λ f. refl) parts.1
fits time state (steps.Overlay ∷ rest) known fit =
    let parts = both (nat_le 0 grains_of_the_longest_length) (fits_from 0 (map role_of rest)) fit in
    fits 0 (state_after state steps.Overlay) rest (λ f. absurd (let n : ⊥ = grind arith in n)) parts.1
fits time state (steps.Meter meter ∷ rest) known fit =
    let parts = both (nat_le time grains_of_the_longest_length) (fits_from time (map role_of rest)) fit in
    fits time (with_step state (steps.Meter meter)) rest known parts.1
fits time state (steps.Program ∷ rest) known fit =
    let parts = both (nat_le time grains_of_the_longest_length) (fits_from time (map role_of rest)) fit in
    fits time state rest known parts.1
fits time state (steps.Transpose by ∷ rest) known fit =
    let parts = both (nat_le time grains_of_the_longest_length) (fits_from time (map role_of rest)) fit in
    fits time (with_step state (steps.Transpose by)) rest known parts.1
fits time state (steps.Pattern pattern ∷ rest) known fit =
    let parts = both (nat_le time grains_of_the_longest_length) (fits_from time (map role_of rest)) fit in
    fits time (with_step state (steps.Pattern pattern)) rest (chosen (Knows time) state.layered state _ known known) parts.1
fits time state (steps.ChordName name transpose place ∷ rest) known fit =
    let parts = both (nat_le time grains_of_the_longest_length) (fits_from time (map role_of rest)) fit in
    fits time (with_step state (steps.ChordName name transpose place)) rest (chosen (Knows time) state.layered state _ known known) parts.1
fits time state (steps.Harmony mark ∷ rest) known fit =
    let parts = both (nat_le time grains_of_the_longest_length) (fits_from time (map role_of rest)) fit in
    fits time (with_step state (steps.Harmony mark)) rest (chosen (Knows time) state.layered state _ known known) parts.1
fits time state (steps.Other ∷ rest) known fit =
    let parts = both (nat_le time grains_of_the_longest_length) (fits_from time (map role_of rest)) fit in
    fits time state rest known parts.1

pub section_fits : (setting : VoiceSetting) (voice : List VoiceStep) → fits_from 0 (map role_of voice) ≡ true
    → rest_fits (section_opening setting) voice ≡ true
section_fits setting voice fit = fits 0 (section_opening setting) voice (λ f. refl) fit
