use Rattle.std.proofs.Common.{◌∷◌, [], ◌++◌, ap, ◌∙◌, bytes_eq, position}
use Rattle.abc_bars_header.proofs.NamedLists.{put_after}
use Rattle.abc_bars_header.proofs.names.Names.with.Goals as goal

pub returns : goal.returns
returns c =
    let own = c.in_ok-set.ensures in
    let absent = ap (position (bytes_eq c.args.name)) own ∙ c.requires in
    ap (λ set. set.keys) c.in_ok-set-2.ensures ∙ c.in_ok-insert.ensures.keys
    ∙ put_after bytes_eq c.in_ok-set.set.keys c.args.name absent ∙ ap (λ names. names ++ c.args.name ∷ []) own
