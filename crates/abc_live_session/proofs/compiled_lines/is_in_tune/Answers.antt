use Rattle.std.proofs.Common.{leb, rules, ◌∙◌, ◌≡◌, ap}
use Rattle.std.specs.Prelude.{slice_get}
use Rattle.std.proofs.lemmas.List.Sorted.{IsPartitionPoint-from_clause, IsPartitionedBy-leb}
use Rattle.abc_book.specs.declared.block.Block.{Block}
use Rattle.abc_live_session.specs.Tokens.{is_in_block}
use Rattle.abc_live_session.proofs.CompiledLines.{copied_at, ends_rise, found_at}
use Rattle.abc_live_session.proofs.compiled_lines.is_in_tune.Goals as goal

pub returns : goal.returns
returns c =
    let tunes = c.args.tunes.now in
    let line = c.args.line in
    let first = c.partition_point-first.result in
    let rise = c.requires.1 in
    let parted = IsPartitionedBy-leb (λ (tune : Block). tune.to) tunes line (ends_rise 0 c.requires.0 tunes rise) in
    let point = IsPartitionPoint-from_clause (λ (tune : Block). leb tune.to line) _ _ c.partition_point-first.ensures.partitioned parted (λ a r q k. search rules) in
    let there : c.copied.result ≡ slice_get tunes first = c.copied.ensures ∙ copied_at tunes first c.get.result c.get.ensures.lookup in
    c.is_in_block.ensures ∙ (ap (is_in_block line) there ∙ found_at line 0 c.requires.0 tunes first rise point)
