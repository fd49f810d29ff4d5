use Rattle.std.proofs.Common.{◌≡◌, ◌+◌, ◌∙◌, List, length, None, sym, ap, subst}
use Rattle.std.specs.Prelude.{All, IfOk}
use Rattle.std.proofs.lemmas.Result.{IfOk-weaker}
use Rattle.abc_text.specs.LineEnd.{without_return}
use Rattle.abc_tokens.specs.declared.line_token.LineToken.{LineToken}
use Rattle.abc_tokens.specs.Columns.{JoinColumns, PartsFill, PartsLieWithin, outer_tokens}
use Rattle.abc_tokens.specs.Kinds.{HasKind}
use Rattle.abc_tokens.specs.LineTokens.{line_tokens, tokens_by, whole_kind}
use Rattle.abc_tokens.proofs.Joined.{line_covered, line_parts_within}
use Rattle.abc_tokens.proofs.KindLaws.{line_of_kinds}
use Rattle.abc_tokens.proofs.PartsFilled.{line_fills}
use Rattle.abc_tokens.proofs.tokens.line_tokens.Goals as goal
use Rattle.abc_tokens.proofs.tokens.line_tokens.Goals.{After-tokens_by}

-- a law of the line's tokens holds of the tokens returned
told : (P : List LineToken → Type 0) (c : After-tokens_by) → P (line_tokens c.args.is_compiled c.args.line.now) → IfOk c.tokens_by.result (λ tokens. P tokens.items)
told P c h =
    let kind = c.whole_kind.ensures ∙ ap (whole_kind c.args.is_compiled) c.class_of.ensures.value in
    IfOk-weaker c.tokens_by.result (λ tokens. tokens.items ≡ tokens_by c.whole_kind.result c.args.line.now) (λ tokens. P tokens.items)
    (λ tokens e. subst P (sym (e ∙ ap (λ k. tokens_by k c.args.line.now) kind)) h) c.tokens_by.ensures.value

pub returns-clause-covers : goal.returns-clause-covers
returns-clause-covers c =
    told (λ tokens. JoinColumns 1 (outer_tokens tokens) (length (without_return c.args.line.now) + 1)) c (line_covered c.args.is_compiled c.args.line.now)

pub returns-clause-inside : goal.returns-clause-inside
returns-clause-inside c = told (PartsLieWithin 0 0) c (line_parts_within c.args.is_compiled c.args.line.now)

pub returns-clause-kinds : goal.returns-clause-kinds
returns-clause-kinds c =
    told (All (HasKind c.args.is_compiled c.args.line.now)) c (line_of_kinds c.args.is_compiled c.args.line.now)

pub returns-clause-parts : goal.returns-clause-parts
returns-clause-parts c = told (PartsFill c.args.line.now None) c (line_fills c.args.is_compiled c.args.line.now)
