use Rattle.std.proofs.Common.{◌≡◌, length, refl, sym, ◌∙◌, ap, subst, arith, get_or, Some}
use Rattle.std.proofs.lemmas.Option.{slice_get_read}
use Rattle.abc_live_text.specs.Pieces.{IsFolded}
use Rattle.abc_live_text.specs.Row.{CarriedRow}
use Rattle.abc_live_text.proofs.LinePieces.{kept_there, origin_seen, own_cell, own_held, place_facts, source_there}
use Rattle.abc_live_text.proofs.PieceEnds.{own_place}
use Rattle.abc_live_text.proofs.refold.Refold.piece_at.Goals as goal

pub item_at-chain-requires : goal.item_at-chain-requires
item_at-chain-requires g c = source_there c.args.self.now.chains.now.items c.args.row.now.cells c.args.row.now.origin _ c.args.k
    (origin_seen c.row.view_is c.in-Some.is c.origin.view_is) c.requires.carried c.requires.inside

pub overflow_add-origin-inside : goal.overflow_add-origin-inside
overflow_add-origin-inside g c =
    let here = place_facts c.args.self.now.chains.now.items c.args.row.now.cells c.args.row.now.origin _ c.args.k c.item_at-chain.result.now
    (origin_seen c.row.view_is c.in-Some.is c.origin.view_is) c.requires.carried c.requires.inside c.item_at-chain.ensures in
    let within = here.within in
    let count = c.count_of.ensures in
    let fits = c.count_of.type_inv in
    omega arith

pub kept_piece-requires : goal.kept_piece-requires
kept_piece-requires g c = (place_facts c.args.self.now.chains.now.items c.args.row.now.cells c.args.row.now.origin _ c.args.k c.item_at-chain.result.now
    (origin_seen c.row.view_is c.in-Some.is c.origin.view_is) c.requires.carried c.requires.inside c.item_at-chain.ensures).within

pub returns-in_ok-cell-in-None-clause-cell : goal.returns-in_ok-cell-in-None-clause-cell
returns-in_ok-cell-in-None-clause-cell g c =
    let row : c.args.row.now.cells ≡ c.row.inside.cells = ap (λ (l : CarriedRow g.row.F-Cell.Denot). l.cells) (sym c.row.view_is) in
    let own : c.as_slice.result.now ≡ c.args.row.now.cells = c.as_slice.ensures ∙ (c.get.ensures ∙ sym row) in
    let read : c.index-as_slice-k.result ≡ get_or c.args.row.now.cells c.args.k c.index-as_slice-k.result = c.index-as_slice-k.is ∙ ap (λ l. get_or l c.args.k c.index-as_slice-k.result) own in
    slice_get_read c.args.row.now.cells (length c.args.row.now.cells) c.args.k c.index-as_slice-k.result refl c.requires.inside read
    ∙ ap (λ x. Some x) (sym c.in_ok-cell-in-None.ensures)

pub returns-in-Some-clause-cell : goal.returns-in-Some-clause-cell
returns-in-Some-clause-cell g c = own_cell c.kept_piece.result (place_facts c.args.self.now.chains.now.items c.args.row.now.cells c.args.row.now.origin _ c.args.k c.item_at-chain.result.now
    (origin_seen c.row.view_is c.in-Some.is c.origin.view_is) c.requires.carried c.requires.inside c.item_at-chain.ensures) c.kept_piece.ensures.place

pub returns-in-Some-clause-state : goal.returns-in-Some-clause-state
returns-in-Some-clause-state g c = own_held c.kept_piece.result (place_facts c.args.self.now.chains.now.items c.args.row.now.cells c.args.row.now.origin _ c.args.k c.item_at-chain.result.now
    (origin_seen c.row.view_is c.in-Some.is c.origin.view_is) c.requires.carried c.requires.inside c.item_at-chain.ensures) c.kept_piece.ensures.place

pub returns-in-Some-clause-place : goal.returns-in-Some-clause-place
returns-in-Some-clause-place g c =
    own_place c.args.self.now.chains.now.items c.kept_piece.result (place_facts c.args.self.now.chains.now.items c.args.row.now.cells c.args.row.now.origin _ c.args.k c.item_at-chain.result.now
    (origin_seen c.row.view_is c.in-Some.is c.origin.view_is) c.requires.carried c.requires.inside c.item_at-chain.ensures) c.kept_piece.ensures.place

pub returns-in-Some-clause-sound : goal.returns-in-Some-clause-sound
returns-in-Some-clause-sound g c =
    let steps = g.F.Fold.steps c.args.self.now.fold.now in
    let here = place_facts c.args.self.now.chains.now.items c.args.row.now.cells c.args.row.now.origin _ c.args.k c.item_at-chain.result.now
    (origin_seen c.row.view_is c.in-Some.is c.origin.view_is) c.requires.carried c.requires.inside c.item_at-chain.ensures in
    let own : IsFolded steps c.item_at-chain.result.now = subst (IsFolded steps) (sym c.item_at-chain.ensures)
    (c.requires.refold.folded c.origin.inside.source c.item_at-chain.result.now here.there) in
    kept_there steps c.item_at-chain.result.now _ c.kept_piece.result own here.within (λ opening folds. c.kept_piece.ensures.resumable steps opening
    (g.met.F.Fold.resumable c.args.self.now.fold.now) folds)
