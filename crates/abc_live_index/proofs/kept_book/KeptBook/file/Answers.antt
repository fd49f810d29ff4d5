use Rattle.std.proofs.Common.{option_and_then, ap, ◌∙◌}
use Rattle.abc_live_index.proofs.FileOwners.{file_by_owner}
use Rattle.abc_live_index.specs.KeptBook.{KeptBookView}
use Rattle.abc_live_index.specs.Outputs.{files_of}
use Rattle.abc_live_index.specs.Owners.{Owners, bytes_at, owner_at}
use Rattle.abc_tune_compiler.specs.Files.{file_at}
use Rattle.abc_live_index.proofs.kept_book.KeptBook.file.Goals as goal

pub returns : goal.returns
returns c =
    let outputs = c.self.inside.outputs.items in
    c.file_of.ensures ∙ ap (option_and_then (bytes_at outputs)) (c.get.ensures ∙ ap (λ (o : Owners). owner_at o c.args.number) c.self.invariant.0)
    ∙ file_by_owner outputs c.args.number ∙ ap (λ (b : KeptBookView). file_at (files_of b.outputs.items) c.args.number) c.self.view_is
