-- Faults that stay if lines are replaced.
use Rattle.std.proofs.Common.{◌≡◌, ℕ, ◌+◌, ◌-◌, ◌<◌, ◌≤◌, List, ◌++◌, All, filter, map, ap, ◌∙◌, append_assoc}
use Rattle.std.proofs.lemmas.Bool.{ltb-true}
use Rattle.std.proofs.lemmas.List.Elements.{All-filter, All-same, filter_passes}
use Rattle.abc_lines.specs.ItemRange.{removed_count}
use Rattle.abc_lines.specs.declared.item_range.Replacement.{Replacement}
use Rattle.abc_live_index.specs.Faults.{shifted_fault, faults_after, is_before, is_after}
use Rattle.abc_tune_compiler.specs.Fault.{fault_cmp}
use Rattle.abc_tune_compiler.specs.Sort.{sort_dedup}
use Rattle.abc_tune_compiler.specs.declared.fault.Fault.{Fault}

-- what the new lines of faults need
pub fits_after : (from gone came most : ℕ) (old following : List Fault) → following ≡ filter (is_after (from + gone)) old
    → All (λ (fault : Fault). from + gone < fault.line → fault.line - gone + came ≤ most) old
    → All (λ (fault : Fault). fault.line - gone + came ≤ most) following
fits_after from gone came most old following are few =
    All-same (λ (fault : Fault). fault.line - gone + came ≤ most) following (filter (is_after (from + gone)) old) are (λ k d inside.
    All-filter (is_after (from + gone)) (λ (fault : Fault). from + gone < fault.line
    → fault.line - gone + came ≤ most) old few k d inside (ltb-true _ _ (filter_passes (is_after (from + gone)) old k d inside)))

-- the three parts, as code puts them one after another
pub put_together : (lines : Replacement) (old new first sorted more following all : List Fault) → first ≡ filter (is_before lines.from) old → sorted ≡ sort_dedup fault_cmp new → more ≡ first ++ sorted
    → following ≡ filter (is_after (lines.from + removed_count lines)) old → all ≡ more ++ map (shifted_fault (removed_count lines) lines.came) following → all ≡ faults_after lines old new
unfolding faults_after
put_together lines old new first sorted more following all one two three four five =
    five ∙ ap (λ l. l ++ map (shifted_fault (removed_count lines) lines.came) following) three ∙ ap (λ l. (l ++ sorted) ++ map (shifted_fault (removed_count lines) lines.came) following) one
    ∙ ap (λ l. (filter (is_before lines.from) old ++ l) ++ map (shifted_fault (removed_count lines) lines.came) following) two
    ∙ ap (λ l. (filter (is_before lines.from) old ++ sort_dedup fault_cmp new) ++ map (shifted_fault (removed_count lines) lines.came) l) four
    ∙ append_assoc (filter (is_before lines.from) old) (sort_dedup fault_cmp new) (map (shifted_fault (removed_count lines) lines.came) (filter (is_after (lines.from + removed_count lines)) old))
