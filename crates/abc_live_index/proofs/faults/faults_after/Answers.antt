use Rattle.std.proofs.Common.{◌≡◌, ◌+◌, ◌++◌, filter, map, ap, ◌∙◌}
use Rattle.abc_lines.specs.ItemRange.{removed_count}
use Rattle.abc_live_index.proofs.ShiftedFaults.{fits_after, put_together}
use Rattle.abc_live_index.specs.Faults.{is_after, shifted_fault}
use Rattle.abc_live_index.proofs.faults.faults_after.Goals as goal

pub put_shifted-requires : goal.put_shifted-requires
put_shifted-requires c =
    let lines = c.args.lines in
    let count : c.saturating_sub-gone.result ≡ removed_count lines = c.saturating_sub-gone.ensures in
    let are = c.deref-2.ensures.value ∙ c.in_ok-following.ensures ∙ ap (λ n. filter (is_after (lines.from + n)) c.args.old.now) count in
    rw (count) (fits_after lines.from (removed_count lines) lines.came _ c.args.old.now c.deref-2.result.now are c.requires)

pub returns : goal.returns
returns c =
    let lines = c.args.lines in
    let count : c.saturating_sub-gone.result ≡ removed_count lines = c.saturating_sub-gone.ensures in
    let are = c.deref-2.ensures.value ∙ c.in_ok-following.ensures ∙ ap (λ n. filter (is_after (lines.from + n)) c.args.old.now) count in
    let put = c.in_ok-put_shifted.ensures ∙ ap (λ n. c.extend_from_slice.new.self.items ++ map (shifted_fault n lines.came) c.deref-2.result.now) count in
    put_together lines c.args.old.now c.args.new.now c.in_ok-faults.faults.items c.deref.result.now
    c.extend_from_slice.new.self.items c.deref-2.result.now c.put_shifted.new.faults.items
    c.in_ok-faults.ensures (c.deref.ensures.value ∙ c.in_ok-new.ensures.value) c.in_ok-extend_from_slice.ensures.items are put
