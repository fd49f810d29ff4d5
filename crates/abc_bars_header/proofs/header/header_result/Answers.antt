use Rattle.std.proofs.Common.{◌≡◌, IfOk, ap, subst, ◌∙◌}
use Rattle.abc_bars_header.specs.FieldKind.{kind_of}
use Rattle.abc_bars_header.specs.Header.{header_result, header_line_result, opening_program, own_result}
use Rattle.abc_bars_header.specs.HeaderLine.{FieldLine}
use Rattle.abc_bars_header.specs.declared.header.HeaderResult.{HeaderResult}
use Rattle.abc_bars_header.proofs.header.header_result.Goals as goal

pub returns-clause-value : goal.returns-clause-value
returns-clause-value c =
    let header = c.args.header in
    let field = c.args.field.now in
    let own : c.in_ok-own.own ≡ own_result header (kind_of field.letter) field.value =
    c.in_ok-own.ensures.value ∙ (λ i. own_result header (c.kind_of-kind.ensures i) (c.as_slice.ensures i)) in
    let program : c.opening_program-program.result ≡ opening_program (kind_of field.letter) header.defaults =
    c.opening_program-program.ensures ∙ ap (λ kind. opening_program kind header.defaults) c.kind_of-kind.ensures in
    let same : header_line_result c.in_ok-own.own c.opening_program-program.result ≡ header_result header (FieldLine field) =
    λ i. header_line_result (own i) (program i) in
    subst (λ (given : HeaderResult). IfOk c.header_line_result.result (λ made. made ≡ given)) same c.header_line_result.ensures.value
