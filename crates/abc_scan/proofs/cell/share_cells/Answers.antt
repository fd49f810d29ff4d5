use Rattle.std.proofs.Common.{◌≡◌, ◌+◌, ◌-◌, ◌<◌, ◌≤◌, [], ◌∷◌, ◌++◌, length, take, drop, ap, subst, sym, ◌∙◌, arith}
use Rattle.std.proofs.lemmas.List.{length-drop, take_all, drop-drop}
use Rattle.abc_scan.specs.Cell.{cells_of, first_size}
use Rattle.abc_scan.proofs.CellLaws.{Tokens, first-some, next_cell}
use Rattle.abc_scan.proofs.cell.share_cells.Goals as goal

pub loop-from-smaller : goal.loop-from-smaller
loop-from-smaller c =
    let line = c.args.line.now in
    let from = c.loop-from.from in
    let rest = ap (λ (l : Tokens). take (length l - from) (drop from l)) (c.as_slice.ensures ∙ c.get.ensures) ∙ take_all (length line - from) (drop from line) (omega (arith, length-drop from line)) in
    let size : c.first_size.result ≡ first_size (drop from line) = c.first_size.ensures.value ∙ ap first_size rest in
    let some = first-some (drop from line) (omega (arith, length-drop from line, c.requires, c.loop-from-test.true)) in
    omega (arith, size, some, c.loop-from-test.true)

pub loop-from-preserved : goal.loop-from-preserved
loop-from-preserved c =
    let line = c.args.line.now in
    let from = c.loop-from.from in
    let rest = ap (λ (l : Tokens). take (length l - from) (drop from l)) (c.as_slice.ensures ∙ c.get.ensures) ∙ take_all (length line - from) (drop from line) (omega (arith, length-drop from line)) in
    let done = c.loop-from.cells.items in
    let size : c.first_size.result ≡ first_size (drop from line) = c.first_size.ensures.value ∙ ap first_size rest in
    let some : 0 < length (drop from line) = omega (arith, length-drop from line, c.requires, c.loop-from-test.true) in
    let inside = subst (λ (l : Tokens). c.first_size.result ≤ length l) rest c.first_size.ensures.inside in
    let count = first_size (drop from line) in
    let taken : (from + c.first_size.result) - from ≡ count = omega (arith, size) in
    let cell =
    ap (λ (l : Tokens). take ((from + c.first_size.result) - from) (drop from l)) c.in_ok-line.ensures ∙ ap (λ k. take k (drop from line)) taken in
    let following : drop (from + c.first_size.result) line ≡ drop count (drop from line) = ap (λ k. drop (from + k) line) size ∙ sym (drop-drop count from line) in
    let pushed = c.in_ok-push.ensures.items ∙ ap (λ (one : Tokens). done ++ one ∷ []) cell in
    record {
      inside = omega (arith, inside, length-drop from line, c.requires);
      cells = ap (λ all. all ++ cells_of (drop (from + c.first_size.result) line)) pushed
          ∙ ap (λ l. (done ++ take count (drop from line) ∷ []) ++ cells_of l) following
          ∙ next_cell done (cells_of line) (drop from line) some c.loop-from.invariant.cells;
    }
