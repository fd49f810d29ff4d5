use Rattle.std.proofs.Common.{◌∙◌, ◌<◌, ap, subst, bytes_eq, position}
use Rattle.std.specs.Prelude.{IfSome}
use Rattle.abc_bars_header.proofs.NamedLists.{seen}
use Rattle.abc_bars_header.proofs.voices.Voices.place_of.Goals as goal

pub returns-clause-value : goal.returns-clause-value
returns-clause-value g c =
    let s = seen c.self.inside.names c.self.inside.known.items c.args.self.now c.self.view_is c.self.invariant in
    c.index_of.ensures.value ∙ ap (position (bytes_eq c.args.name.now)) s.names

pub returns-clause-inside : goal.returns-clause-inside
returns-clause-inside g c =
    let s = seen c.self.inside.names c.self.inside.known.items c.args.self.now c.self.view_is c.self.invariant in
    subst (λ n. IfSome c.index_of.result (λ at. at < n)) s.names_count c.index_of.ensures.inside
