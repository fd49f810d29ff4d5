use Rattle.std.proofs.Common.{ap, ◌∙◌}
use Rattle.abc_live_index.proofs.FirstOwners.{first_owner}
use Rattle.abc_live_index.specs.KeptBook.{KeptBookView}
use Rattle.abc_live_index.specs.Owners.{Owners, owner_among, owner_at}
use Rattle.abc_live_index.proofs.kept_book.KeptBook.owner.Goals as goal

pub returns : goal.returns
returns c =
    c.get.ensures ∙ ap (λ (o : Owners). owner_at o c.args.number) c.self.invariant.0 ∙ first_owner c.self.inside.outputs.items c.args.number
    ∙ ap (λ (b : KeptBookView). owner_among b.outputs.items c.args.number) c.self.view_is
