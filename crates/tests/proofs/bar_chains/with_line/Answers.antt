use Rattle.std.proofs.Common.{rules, All, [], ◌∷◌, ◌++◌, ◌≡◌}
use Rattle.std.proofs.lemmas.List.Elements.{All-push}
use Rattle.abc_bars_body.specs.SameEntry.{bar_steps, bars_resumable}
use Rattle.abc_fold.specs.Piece.{IsKept}
use Rattle.tests.proofs.bar_chains.with_line.Goals as goal

pub returns : goal.returns
returns g c = λ opening folds.
    let none : All (IsKept bar_steps) c.new-pieces.result.items = search (rules, c.new-pieces.ensures.items) in
    let front : All (IsKept bar_steps) c.append_kept.new.pieces.items = c.append_kept.ensures bar_steps opening bars_resumable folds none in
    let pushed : All (IsKept bar_steps) c.push.new.self.items =
    let items : c.push.new.self.items ≡ c.append_kept.new.pieces.items ++ c.line_piece-piece.result ∷ [] = search (rules, c.push.ensures.items) in
    rw items (All-push (IsKept bar_steps) c.append_kept.new.pieces.items c.line_piece-piece.result front c.line_piece-piece.ensures) in
    c.append_kept-2.ensures bar_steps opening bars_resumable folds pushed
