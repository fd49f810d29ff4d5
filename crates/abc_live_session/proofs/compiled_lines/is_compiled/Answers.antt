use Rattle.std.proofs.Common.{◌-◌, ◌∙◌, length, map}
use Rattle.abc_live_session.proofs.CompiledLines.{parts-compile, tunes_in_order}
use Rattle.abc_live_session.proofs.compiled_lines.is_compiled.Goals as goal

pub is_in_parts-requires : goal.is_in_parts-requires
is_in_parts-requires g c =
    let class = (g.C.Compiler.rules c.args.text.now.compiler).class in
    let text = c.args.text.now.lines.text in
    (length (map class text), tunes_in_order class text c.tunes.result.now (c.tunes.ensures ∙ c.lines.ensures.parts.tunes_are))

pub returns : goal.returns
returns g c =
    let class = (g.C.Compiler.rules c.args.text.now.compiler).class in
    let text = c.args.text.now.lines.text in
    c.is_in_parts.ensures
    ∙ parts-compile class text c.header.result c.tunes.result.now (c.args.number - 1) (c.header.ensures ∙ c.lines.ensures.parts.header_is) (c.tunes.ensures ∙ c.lines.ensures.parts.tunes_are)
