use Rattle.std.proofs.Common.{ap, ◌∙◌}
use Rattle.std.specs.Map.{keys_of}
use Rattle.abc_live_index.proofs.FileReports.{keys_of-owners}
use Rattle.abc_live_index.specs.KeptBook.{KeptBookView}
use Rattle.abc_live_index.specs.Outputs.{files_of}
use Rattle.abc_live_index.proofs.kept_book.KeptBook.numbers.Goals as goal

pub returns-clause-value : goal.returns-clause-value
returns-clause-value c =
    c.numbers.ensures.value ∙ keys_of-owners c.self.inside.outputs.items c.self.inside.owners c.self.invariant.0 ∙ ap (λ (b : KeptBookView). keys_of (files_of b.outputs.items)) c.self.view_is
