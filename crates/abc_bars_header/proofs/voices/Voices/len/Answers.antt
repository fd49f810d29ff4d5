use Rattle.std.proofs.Common.{◌∙◌}
use Rattle.abc_bars_header.proofs.NamedLists.{seen}
use Rattle.abc_bars_header.proofs.voices.Voices.len.Goals as goal

pub returns : goal.returns
returns g c =
    let s = seen c.self.inside.names c.self.inside.known.items c.args.self.now c.self.view_is c.self.invariant in
    c.len.ensures ∙ s.names_count
