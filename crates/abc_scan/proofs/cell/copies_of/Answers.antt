use Rattle.std.proofs.Common.{◌≡◌, ◌+◌, ◌++◌, [], ◌∷◌, take, get_or, sym, ◌∙◌}
use Rattle.std.proofs.lemmas.List.{take_more}
use Rattle.abc_scan.proofs.cell.copies_of.Goals as goal

pub loop-token-preserved : goal.loop-token-preserved
loop-token-preserved c =
    let tokens = c.args.tokens.now in
    let at = c.loop-token.token-index in
    let token = c.token-item.result in
    let more : take (at + 1) tokens ≡ take at tokens ++ get_or tokens at token ∷ [] = take_more tokens at token c.loop-token-test.true in
    c.in_ok-push.ensures.items
    ∙ (λ i. c.loop-token.invariant i ++ (c.in_ok-copy_of.ensures ∙ c.token-item.is) i ∷ [])
    ∙ sym more
