-- What an edit costs, put together, and what an edit means.
use Rattle.std.proofs.Common.{◌≡◌, ℕ, zero, suc, ◌+◌, ◌-◌, ◌≤◌, List, ◌++◌, length, Option, Some, None, Err, refl, sym, ap, subst}
use Rattle.std.proofs.Common.{arith}
use Rattle.std.proofs.lemmas.List.Sums.{sum_by-append, sum_by-cons}
use Rattle.abc_live_text.specs.KeptText.{TextPatchView, IsWorkUpTo, all_reused_tunes, kept_numbers}
use Rattle.abc_live_cost.specs.OldItems.{TakesUntouched}
use Rattle.abc_fold.specs.Steps.{Steps}
use Rattle.abc_fold.specs.Work.{Counters, raised}
use Rattle.abc_fold.proofs.Raised.{raised-least, raised-mono}
use Rattle.abc_lines.specs.Edits.{edited, replaced}
use Rattle.abc_lines.specs.Text.{Splice, Text, spliced}
use Rattle.abc_lines.specs.declared.edit_error.EditError.TheVariants.{BadRange}
use Rattle.abc_live_index.specs.BuildCount.{IsBuiltUpTo, built_count_at, built_count}
use Rattle.abc_live_cost.specs.FreshCells.{fresh_cells_after, is_untouched, touched_tunes_after}
use Rattle.abc_tune_compiler.specs.Rules.{Rules}
use Rattle.abc_live_session.specs.Counting.{Cost, HasRisen, IsWorkedUpTo, MayCost, cost_of}
use Rattle.abc_live_index.proofs.OutputReuse.{made_least}
use Rattle.abc_live_cost.specs.Spot.{spots_of}
use Rattle.abc_live_cost.specs.Layout.{layout_of, tune_chains}

-- a counter that stays
stays : (k count : ℕ) → HasRisen k count count
stays k count = record { least = omega arith; most = raised-least count k }

abbrev pub cost_with : ℕ → ℕ → ℕ → Cost
cost_with lines steps tunes = record { lines = lines; steps = steps; tunes = tunes }

-- lines and steps first, then tunes
pub worked_built : (lines steps made tunes : ℕ) (before between after : Counters) → made ≤ tunes
    → IsWorkUpTo lines steps before between → IsBuiltUpTo made between after → IsWorkedUpTo (cost_with lines steps tunes) before after
worked_built lines steps made tunes before between after fewer worked built =
    let scanned : HasRisen lines before.scanned between.scanned = record { least = worked.least_scanned; most = worked.most_scanned } in
    let folded : HasRisen steps before.folded between.folded = record { least = worked.least_folded; most = worked.most_folded } in
    record {
      lines = subst (HasRisen lines before.scanned) (sym built.scanned) scanned;
      steps = subst (HasRisen steps before.folded) (sym built.folded) folded;
      tunes = record {
        least =
            let least = built.least in
            let same = worked.built in
            omega (arith, least, same);
        most =
            let most : after.built ≤ raised before.built made = subst (λ n. after.built ≤ raised n made) worked.built built.most in
            let more = raised-mono before.built made tunes fewer in
            omega (arith, most, more);
      };
    }

-- lines and steps alone
pub worked_more : (lines steps tunes : ℕ) (before after : Counters) → IsWorkUpTo lines steps before after → IsWorkedUpTo (cost_with lines steps tunes) before after
worked_more lines steps tunes before after worked =
    record {
      lines = record { least = worked.least_scanned; most = worked.most_scanned };
      steps = record { least = worked.least_folded; most = worked.most_folded };
      tunes = subst (HasRisen tunes before.built) (sym worked.built) (stays tunes before.built);
    }

-- an edit that names a splice
pub edited-is : (text : Text) (edit : Option Splice) (s : Splice) → Some s ≡ edit → edited text edit ≡ replaced text s
unfolding edited
edited-is text edit s is = ap (edited text) (sym is)

-- and one that names none
pub edited-none : (text : Text) (edit : Option Splice) → None ≡ edit → edited text edit ≡ Err BadRange
unfolding edited
edited-none text edit is = ap (edited text) (sym is)

-- those that stay are not built
kept_unbuilt : (first count : ℕ) → built_count (kept_numbers first count) ≡ 0
kept_unbuilt first zero = refl
kept_unbuilt first (suc count) = let one = sum_by-cons built_count_at (Some first) (kept_numbers (first + 1) count) in let rest = kept_unbuilt (first + 1) count in omega (arith, one, rest)

pub built_count-stretch : {C State Cell Items : Type 0} (patch : TextPatchView C State Cell Items) → built_count (all_reused_tunes patch) ≡ built_count patch.reused_tunes
built_count-stretch patch =
    let front = kept_numbers 0 patch.stretch.tunes.from in
    let following = kept_numbers patch.stretch.tunes.to (length patch.on.tunes - patch.stretch.tunes.to) in
    let all = sum_by-append built_count_at front (patch.reused_tunes ++ following) in
    let rest = sum_by-append built_count_at patch.reused_tunes following in
    let no_front = kept_unbuilt 0 patch.stretch.tunes.from in
    let no_after = kept_unbuilt patch.stretch.tunes.to (length patch.on.tunes - patch.stretch.tunes.to) in
    omega (arith, all, rest, no_front, no_after)

module _ {State Cell Items Defaults : Type 0} (steps : Steps State Cell Items) (rules : Rules State Cell Items Defaults) (text : Text) where
  pub cost_is : (edit : Option Splice) (s : Splice) (before after : Counters) → Some s ≡ edit
      → MayCost (cost_of steps rules text (Some s)) before after → MayCost (cost_of steps rules text edit) before after
  cost_is edit s before after is cost = subst (λ e. MayCost (cost_of steps rules text e) before after) is cost

  pub cost_none : (edit : Option Splice) (now : Counters) → None ≡ edit → MayCost (cost_of steps rules text edit) now now
  cost_none edit now is = subst (λ e. MayCost (cost_of steps rules text e) now now) is refl

  module _ (s : Splice) (count : ℕ) (lines : count ≡ length s.lines) (before between after : Counters) (folds : IsWorkUpTo count (fresh_cells_after steps rules text s) before between) where
    folds_lines : IsWorkUpTo (length s.lines) (fresh_cells_after steps rules text s) before between
    folds_lines = subst (λ n. IsWorkUpTo n (fresh_cells_after steps rules text s) before between) lines folds

    -- if nothing is built
    pub fold_only : MayCost (cost_of steps rules text (Some s)) before between
    fold_only = worked_more (length s.lines) (fresh_cells_after steps rules text s) (touched_tunes_after steps rules text s) before between folds_lines

    -- if the tunes of the stretch that reuse nothing are built
    pub fold_build : (reused_tunes made : List (Option ℕ)) → TakesUntouched steps rules text s reused_tunes
        → built_count reused_tunes ≡ built_count made → IsBuiltUpTo (built_count made) between after → MayCost (cost_of steps rules text (Some s)) before after
    fold_build reused_tunes made takes same builds =
        let laid = layout_of steps rules (spliced text s) in
        let fewer : built_count reused_tunes ≤ touched_tunes_after steps rules text s = made_least
        (λ tune. is_untouched steps rules.cells (layout_of steps rules text) s (spots_of steps rules.cells (spliced text s) tune)) (tune_chains 1 laid.opening laid.tunes) reused_tunes takes in
        worked_built (length s.lines) (fresh_cells_after steps rules text s) (built_count made)
        (touched_tunes_after steps rules text s) before between after (omega (arith, fewer, same)) folds_lines builds
