use Rattle.std.proofs.Common.{◌≡◌, ◌-◌, ◌++◌, ◌∙◌, min, length, take, ap, arith}
use Rattle.std.proofs.lemmas.Result.{on_ok_weaker}
use Rattle.abc2midi_live.specs.Transcript.{most_kept}
use Rattle.abc2midi_live.proofs.InputLines.{kept_front, on_ok_branch}
use Rattle.abc2midi_live.proofs.listener.Listener.keep.Goals as goal

pub returns-clause-begun : goal.returns-clause-begun
returns-clause-begun g c =
    let begun = c.args.self.now.begun in
    let room : c.min.result ≡ min (length c.args.piece.now) (most_kept - length begun.items) = omega (arith, begun.ok.0) in
    on_ok_weaker c.extend_from_slice.result
    (λ e. e ∙ ap (λ m. begun.items ++ take m c.args.piece.now) room ∙ kept_front most_kept begun.items c.args.piece.now c.args.self.now.kept)
    (on_ok_branch c.extend_from_slice.result _ _ _ c.extend_from_slice.ensures.items)
