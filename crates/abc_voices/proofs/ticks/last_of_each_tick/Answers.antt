use Rattle.std.proofs.Common.{◌≡◌, ◌≤◌, List, [], ◌∷◌, length, refl, subst, arith}
use Rattle.std.specs.Prelude.{IfOk}
use Rattle.abc_time.specs.declared.grains.Grains.{Grains}
use Rattle.abc_voices.specs.Ticks.{last_of_each_tick}
use Rattle.abc_voices.proofs.ticks.last_of_each_tick.Goals as goal

-- a single change is in force
one_remains : {A : Type 0} (changes : List (Grains × A)) → length changes ≤ 1 → changes ≡ last_of_each_tick changes
one_remains [] h = refl
one_remains (change ∷ []) h = refl
one_remains (change ∷ next ∷ changes) h = absurd (omega arith)

pub returns-then-changes-le1 : goal.returns-then-changes-le1
returns-then-changes-le1 g c =
    subst (λ l. IfOk c.from_slice.result (λ last_changes. last_changes.items ≡ l))
    (one_remains c.args.changes.now c.if-changes-le1.true) c.from_slice.ensures.items
