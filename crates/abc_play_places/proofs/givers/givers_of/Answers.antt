use Rattle.std.proofs.Common.{◌≡◌, ◌∙◌, sym, ap, arith}
use Rattle.std.proofs.lemmas.Grind.{common_steps}
use Rattle.abc_play_places.specs.Givers.{matched, placed, givers}
use Rattle.abc_play_places.proofs.Matched.{matched-cell}
use Rattle.abc_play_places.proofs.givers.givers_of.Goals as goal

pub returns-clause-exact : goal.returns-clause-exact
returns-clause-exact c = λ body is.
    let cell = c.args.cell.now in
    let found : c.loop-item.found.items ≡ matched cell 0 c.args.items.now = grind (arith, common_steps) in
    found
    ∙ ap (matched cell 0) is
    ∙ matched-cell body cell
    ∙ ap (λ own. placed own (givers body cell)) (sym is)
