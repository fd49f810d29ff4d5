use Rattle.std.proofs.Common.{◌+◌, sym, ◌∙◌}
use Rattle.std.proofs.lemmas.List.Elements.{All-push}
use Rattle.abc_fold.specs.Piece.{IsKept}
use Rattle.abc_live_text.specs.Pieces.{address_from}
use Rattle.abc_live_text.proofs.LinePieces.{cells_next, helds_next}
use Rattle.abc_live_text.proofs.PieceEnds.{ends_next, ends_there, follows_end}
use Rattle.abc_live_text.proofs.refold.Refold.append_cells.Goals as goal

pub append-requires : goal.append-requires
append-requires g c = λ known.
    follows_end c.args.self.now.chains.now.items c.loop-k.pieces c.in_ok-piece.piece (address_from c.loop-k.k c.args.row.now.origin) (c.loop-k.invariant.known known) c.in_ok-piece.ensures.place

pub loop-k-preserved : goal.loop-k-preserved
loop-k-preserved g c =
    let cell = c.in_ok-piece.ensures.cell in
    let ends = ends_next c.args.self.now.chains.now.items c.loop-k.pieces c.in_ok-piece.piece c.args.row.now.origin c.loop-k.k c.in_ok-piece.ensures.place in
    record {
      cells = rw c.in_ok-append.ensures.ok (cells_next c.args.pieces.now c.loop-k.pieces c.args.row.now.cells c.loop-k.k c.in_ok-piece.piece c.loop-k.invariant.cells cell);
      kept_states = rw c.in_ok-append.ensures.ok
          (helds_next c.args.self.now.chains.now.items c.args.row.now.origin c.args.pieces.now c.loop-k.pieces c.args.row.now.cells
          c.loop-k.k c.in_ok-piece.piece c.loop-k.invariant.kept_states cell c.in_ok-piece.ensures.state);
      kept = rw c.in_ok-append.ensures.ok (All-push (IsKept (g.F.Fold.steps c.args.self.now.fold.now)) c.loop-k.pieces c.in_ok-piece.piece c.loop-k.invariant.kept c.in_ok-piece.ensures.sound);
      known = λ held. ends_there c.args.self.now.chains.now.items c.append.new.pieces c.args.row.now.origin (c.loop-k.k + 1) (sym c.has_origin-known.ensures ∙ held) (rw c.in_ok-append.ensures.ok ends);
      ends = λ more. rw c.in_ok-append.ensures.ok ends;
    }
