use Rattle.std.proofs.Common.{◌∙◌, ap, slice_get}
use Rattle.abc_bars_header.proofs.NamedLists.{lent_at}
use Rattle.abc_bars_header.proofs.NamedLists.{seen}
use Rattle.abc_bars_header.proofs.voices.Voices.get.Goals as goal

pub returns : goal.returns
returns g c =
    let s = seen c.self.inside.names c.self.inside.known.items c.args.self.now c.self.view_is c.self.invariant in
    lent_at (λ known. known.now) c.deref.result.now c.args.at c.get.result c.get.ensures.lookup
    ∙ ap (λ l. slice_get l c.args.at) (c.deref.ensures.value ∙ s.known)
