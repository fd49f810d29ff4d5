-- The layers of a voice keep step.
use Rattle.std.proofs.Common.{◌≡◌, ℕ, ◌+◌, ◌-◌, ◌<◌, ◌≤◌, ◌==◌, max, nat_lt, ◌&&◌, not, if◌then◌else◌, Bool, true, false, List, [], ◌∷◌, ◌++◌, refl, sym, ◌∙◌, ap, arith, append_assoc, append-nil, add-zero, eqb-true}
use Rattle.std.proofs.lemmas.Bool.Decides.{nat_tests}
use Rattle.abc_time.specs.declared.grains.Grains.{Grains}
use Rattle.abc_perform_layers.specs.declared.layer_state.LayerState.{LayerState}
use Rattle.abc_perform_layers.specs.declared.layer_state.LayerTime.{LayerTime}
use Rattle.abc_perform_layers.specs.declared.layer_step.LayerStep.{LayerStep}
use Rattle.abc_perform_layers.specs.declared.layer_step.LayerStep.TheVariants as steps
use Rattle.abc_perform_layers.specs.declared.role.Role.{Role}
use Rattle.abc_perform_layers.specs.declared.role.Role.TheVariants as roles
use Rattle.abc_perform_layers.specs.KeepStep.{LayersKeepBounds, LayersKeepStep, larger_each, played_bounds, played_times, with_more, written_bounds, written_times}
use Rattle.abc_perform_layers.specs.Layer.{layer_from, layer_steps}
use Rattle.abc_perform_layers.specs.LayerState.{fill, longer, next_layer, opening, with_time}

-- Nothing more is the same.
with_nothing : (times : List ℕ) → with_more 0 times ≡ times
with_nothing [] = refl
with_nothing (first ∷ others) = ap (λ n. n ∷ others) (let e : 0 + first ≡ first = omega arith in e)

-- More twice is the sum more.
with_more_twice : (a b : ℕ) (times : List ℕ) → with_more a (with_more b times) ≡ with_more (a + b) times
with_more_twice a b [] = refl
with_more_twice a b (first ∷ others) = ap (λ n. n ∷ others) (let e : a + (b + first) ≡ a + b + first = omega arith in e)

-- A layer and the rest at the end of its stretch are as long as the longer of it and the first layer.
filled : (lacks alone : Bool) (base own : ℕ) (rest : List LayerStep) (others : List ℕ) → nat_lt own base ≡ lacks
    → played_times rest ≡ 0 ∷ others
    → with_more own (played_times ((if lacks then steps.Fill (record { 0 = base - own }) ∷ []
    else (if alone then steps.Fill (record { 0 = 0 }) ∷ [] else [])) ++ rest)) ≡ max base own ∷ others
filled true alone base own rest others lacks e =
    rw e (ap (λ n. n ∷ others) (let h : own + (base - own + 0) ≡ max base own = grind arith in h))
filled false true base own rest others lacks e =
    rw e (ap (λ n. n ∷ others) (let h : own + (0 + 0) ≡ max base own = grind arith in h))
filled false false base own rest others lacks e =
    rw e (ap (λ n. n ∷ others) (let h : own + 0 ≡ max base own = grind arith in h))

-- What a state says of the layers of its stretch.
record InStep (layer : ℕ) (state : LayerState) : Type 0 where
  base : state.at ≡ 0 → state.base.time.0 ≡ state.current.time.0
  own : state.at ≡ layer → state.own.time.0 ≡ state.current.time.0
  before : state.at < layer → state.own.time.0 ≡ 0

-- The beginning of a stretch says so.
opening_in_step : (layer : ℕ) → InStep layer opening
opening_in_step layer = record { base = λ e. refl; own = λ e. refl; before = λ h. refl }

-- One more note, chord or rest keeps what a state says.
timed_in_step : (layer : ℕ) (state : LayerState) (length : Grains) → InStep layer state → InStep layer (with_time layer state length)
timed_in_step layer state length known = record {
  base = λ e. (let t : (state.at == 0) ≡ true = grind (arith, nat_tests) in rw t refl);
  own = λ e. (let t : (state.at == layer) ≡ true = grind (arith, nat_tests) in rw t refl);
  before = λ h. (let t : (state.at == layer) ≡ false = grind (arith, nat_tests) in rw t (known.before h));
}

-- An overlay mark keeps what a state says.
next_in_step : (layer : ℕ) (state : LayerState) → InStep layer state → InStep layer (next_layer state)
next_in_step layer state known = record {
  base = λ e. absurd (let n : ⊥ = omega (arith, e) in n);
  own = λ e. known.before (omega (arith, e));
  before = λ h. known.before (omega (arith, h));
}

-- Layers that keep step after one more note, chord or rest do so before it. `first` says that it is of the first layer, and `mine`
-- that it is of the layer in question.
timed : (first mine : Bool) (state : LayerState) (length : Grains) (index : ℕ) (rest : List LayerStep) (base own : List ℕ)
    → (first ≡ true → mine ≡ true → ⊥)
    → (first ≡ true → state.base.time.0 ≡ state.current.time.0)
    → (mine ≡ true → state.own.time.0 ≡ state.current.time.0)
    → with_more (if mine then longer state.current length else state.own).time.0 (played_times rest)
    ≡ larger_each (with_more (if first then longer state.current length else state.base).time.0 base)
    (with_more (if mine then longer state.current length else state.own).time.0 own)
    → with_more state.own.time.0 (played_times ((if mine then steps.Written index length ∷ [] else []) ++ rest))
    ≡ larger_each (with_more state.base.time.0 (if first then with_more length.0 base else base))
    (with_more state.own.time.0 (if mine then with_more length.0 own else own))
timed true true state length index rest base own not_both b o e = absurd (not_both refl refl)
timed true false state length index rest base own not_both b o e =
    rw (with_more_twice state.base.time.0 length.0 base, b refl) e
timed false true state length index rest base own not_both b o e =
    rw (with_more_twice state.own.time.0 length.0 (played_times rest), with_more_twice state.own.time.0 length.0 own, o refl) e
timed false false state length index rest base own not_both b o e = e

-- From each step on the layers keep step, with what they have so far.
keeps : (layer index : ℕ) (state : LayerState) (voice : List Role) → 1 ≤ layer → InStep layer state
    → with_more state.own.time.0 (played_times (layer_from layer index state voice))
    ≡ larger_each (with_more state.base.time.0 (written_times 0 state.at voice)) (with_more state.own.time.0 (written_times layer state.at voice))
keeps layer index state [] some known =
    let end = filled (nat_lt state.own.time.0 state.base.time.0) (state.base.some && not state.own.some) state.base.time.0 state.own.time.0 [] [] refl refl in
    let same : fill state ++ [] ≡ fill state = append-nil (fill state) in
    rw (add-zero, add-zero) (rw same at end)
keeps layer index state (roles.Time length ∷ rest) some known =
    timed (state.at == 0) (state.at == layer) state length index (layer_from layer (index + 1) (with_time layer state length) rest)
    (written_times 0 state.at rest) (written_times layer state.at rest)
    (λ e f. (let n : ⊥ = grind (arith, nat_tests) in n))
    (λ e. known.base (eqb-true state.at 0 e)) (λ e. known.own (eqb-true state.at layer e))
    (keeps layer (index + 1) (with_time layer state length) rest some (timed_in_step layer state length known))
keeps layer index state (roles.Bound ∷ rest) some known =
    let after = layer_from layer (index + 1) opening rest in
    let end = filled (nat_lt state.own.time.0 state.base.time.0) (state.base.some && not state.own.some) state.base.time.0 state.own.time.0
    (steps.Bound index ∷ after) (played_times after) refl refl in
    let later = simp with_nothing at (keeps layer (index + 1) opening rest some (opening_in_step layer)) in
    rw (append_assoc, add-zero, add-zero) (end ∙ ap (λ times. max state.base.time.0 state.own.time.0 ∷ times) later)
keeps layer index state (roles.Program ∷ rest) some known = keeps layer (index + 1) state rest some known
keeps layer index state (roles.Overlay ∷ rest) some known =
    keeps layer (index + 1) (next_layer state) rest some (next_in_step layer state known)
keeps layer index state (roles.Other ∷ rest) some known = keeps layer (index + 1) state rest some known

pub keep_step : LayersKeepStep
keep_step layer voice some = simp with_nothing at (keeps layer 0 opening voice some (opening_in_step layer))

-- The bounds after a rest are those after it.
bounds_filled : (lacks alone : Bool) (long : Grains) (rest : List LayerStep)
    → played_bounds ((if lacks then steps.Fill long ∷ [] else (if alone then steps.Fill (record { 0 = 0 }) ∷ [] else [])) ++ rest)
    ≡ played_bounds rest
bounds_filled true alone long rest = refl
bounds_filled false true long rest = refl
bounds_filled false false long rest = refl

-- The bounds after a note, chord or rest are those after it.
bounds_timed : (mine : Bool) (index : ℕ) (length : Grains) (rest : List LayerStep)
    → played_bounds ((if mine then steps.Written index length ∷ [] else []) ++ rest) ≡ played_bounds rest
bounds_timed true index length rest = refl
bounds_timed false index length rest = refl

-- The bounds of a rest at the end of a stretch, with what is after it.
bounds_ended : (state : LayerState) (rest : List LayerStep) → played_bounds (fill state ++ rest) ≡ played_bounds rest
bounds_ended state rest =
    bounds_filled (nat_lt state.own.time.0 state.base.time.0) (state.base.some && not state.own.some)
    (record { 0 = state.base.time.0 - state.own.time.0 }) rest

-- From each step on the bounds are those of the voice.
bounds_from : (layer index : ℕ) (state : LayerState) (voice : List Role)
    → played_bounds (layer_from layer index state voice) ≡ written_bounds index voice
bounds_from layer index state [] = let same : fill state ++ [] ≡ fill state = append-nil (fill state) in rw same at (bounds_ended state [])
bounds_from layer index state (roles.Time length ∷ rest) =
    bounds_timed (state.at == layer) index length (layer_from layer (index + 1) (with_time layer state length) rest)
    ∙ bounds_from layer (index + 1) (with_time layer state length) rest
bounds_from layer index state (roles.Bound ∷ rest) =
    let after = layer_from layer (index + 1) opening rest in
    rw append_assoc (bounds_ended state (steps.Bound index ∷ after) ∙ ap (λ bounds. index ∷ bounds) (bounds_from layer (index + 1) opening rest))
bounds_from layer index state (roles.Program ∷ rest) = bounds_from layer (index + 1) state rest
bounds_from layer index state (roles.Overlay ∷ rest) = bounds_from layer (index + 1) (next_layer state) rest
bounds_from layer index state (roles.Other ∷ rest) = bounds_from layer (index + 1) state rest

pub keep_bounds : LayersKeepBounds
keep_bounds layer voice = bounds_from layer 0 opening voice
