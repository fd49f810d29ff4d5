use Rattle.std.proofs.Common.{◌<◌, None, get_or, sym, ap, ◌∙◌, arith}
use Rattle.abc_lines.proofs.GapRow.{get_or-seen_at, full_at, held_past}
use Rattle.abc_lines.proofs.gap_row.GapRow.get.Goals as goal

pub returns-then-self-index : goal.returns-then-self-index
returns-then-self-index g c = held_past c.requires c.args.index (omega arith)

pub get-requires : goal.get-requires
get-requires g c =
    let r = c.args.self.now in let inside : c.args.index < r.size = omega (arith, c.if-self-index.false) in
    let full = full_at c.requires c.args.index inside in (full.0, ap (λ i. get_or r.places.row i None) c.place.ensures ∙ full.1)

pub returns : goal.returns
returns g c =
    let r = c.args.self.now in let inside : c.args.index < r.size = omega (arith, c.if-self-index.false) in
    sym c.get.ensures ∙ ap (λ i. get_or r.places.row i None) c.place.ensures ∙ get_or-seen_at c.requires c.args.index inside
