use Rattle.std.proofs.Common.{◌≡◌, ◌∙◌, List, sym, subst, length}
use Rattle.std.specs.Prelude.{All, IfOk}
use Rattle.std.proofs.lemmas.Result.{IfOk-weaker}
use Rattle.abc_scan.specs.declared.spanned.Spanned.{Spanned}
use Rattle.abc_scan.specs.declared.token.TokenKind.{TokenKind}
use Rattle.abc_scan.specs.Cutting.{IsSpan, JoinFromTo}
use Rattle.abc_scan.specs.Line.{tokens_in, tokens_of, covered_of, HasLength}
use Rattle.abc_scan.proofs.Spans.{laid}
use Rattle.abc_scan.proofs.line.scan.Goals as goal
use Rattle.abc_scan.proofs.line.scan.Goals.{After-tokens_in}

-- a law of the line's tokens holds of the tokens returned
told : (P : List (Spanned TokenKind) → Type 0) (c : After-tokens_in) → P (tokens_of c.args.line.now) → IfOk c.tokens_in.result (λ tokens. P tokens.items)
unfolding tokens_of
told P c h = IfOk-weaker c.tokens_in.result (λ tokens. tokens.items ≡ tokens_in c.class_of.result c.without_return.result.now) (λ tokens. P tokens.items)
    (λ tokens e. subst P (sym (e ∙ (λ i. tokens_in (c.class_of.ensures.value i) (c.without_return.ensures.value i)))) h) c.tokens_in.ensures.value

pub returns-clause-spans : goal.returns-clause-spans
returns-clause-spans c = told (All (IsSpan (length c.args.line.now))) c (laid c.args.line.now).spans

pub returns-clause-joined : goal.returns-clause-joined
returns-clause-joined c = told (λ tokens. JoinFromTo 0 tokens (covered_of c.args.line.now)) c (laid c.args.line.now).joined

pub returns-clause-lengths : goal.returns-clause-lengths
returns-clause-lengths c = told (All (λ t. HasLength t.kind)) c (laid c.args.line.now).lengths
