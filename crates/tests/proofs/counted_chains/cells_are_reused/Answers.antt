use Rattle.std.proofs.Common.{rules, All, [], ◌∷◌, ◌++◌, ◌≡◌}
use Rattle.std.proofs.lemmas.List.Elements.{All-push}
use Rattle.abc_fold.specs.declared.piece.Piece.TheVariants.{New}
use Rattle.abc_fold.specs.Chain.{Folds}
use Rattle.abc_fold.specs.Piece.{IsKept}
use Rattle.tests_text.specs.declared.chains.Counted.{Counted}
use Rattle.tests_text.specs.Counting.{counting, counting_resumable}
use Rattle.tests.proofs.counted_chains.cells_are_reused.Goals as goal

pub prepare-requires-2 : goal.prepare-requires-2
prepare-requires-2 g c =
    let opening : Counted = record { count = 0; mark = 0 } in
    let folds : Folds counting opening c.commit.new.self = search rules in
    let none : All (IsKept counting) c.new-pieces.result.items = search (rules, c.new-pieces.ensures.items) in
    let first : All (IsKept counting) c.append_kept.new.pieces.items = c.append_kept.ensures counting opening counting_resumable folds none in
    let pushed : All (IsKept counting) c.push.new.self.items =
    let items : c.push.new.self.items ≡ c.append_kept.new.pieces.items ++ New 9 ∷ [] = search (rules, c.push.ensures.items) in
    rw items (All-push (IsKept counting) c.append_kept.new.pieces.items (New 9) first tt) in
    let second : All (IsKept counting) c.append_kept-2.new.pieces.items = c.append_kept-2.ensures counting opening counting_resumable folds pushed in
    rw c.deref-2.ensures.value second
