use Rattle.std.proofs.Common.{◌∙◌, [], ◌∷◌, ◌++◌, ap, bytes_eq, position}
use Rattle.std.specs.List.{zip}
use Rattle.abc_bars_header.proofs.NamedLists.{seen, zip-one_more}
use Rattle.abc_bars_header.proofs.voices.Voices.push.Goals as goal

pub with-requires : goal.with-requires
with-requires g c =
    let s = seen c.self.inside.names c.self.inside.known.items c.args.self.now c.self.view_is c.self.invariant in
    ap (position (bytes_eq c.args.name)) s.names ∙ c.requires

pub returns-clause-ok : goal.returns-clause-ok
returns-clause-ok g c =
    let s = seen c.self.inside.names c.self.inside.known.items c.args.self.now c.self.view_is c.self.invariant in
    (λ i. zip (c.in_ok-names.ensures i) (c.in_ok-push.ensures.items i))
    ∙ zip-one_more c.self.inside.names c.self.inside.known.items c.args.name c.args.known c.self.invariant
    ∙ ap (λ pairs. pairs ++ (c.args.name, c.args.known) ∷ []) s.entries
