use Rattle.std.proofs.Common.{◌∷◌, ◌++◌, [], ap, ◌∙◌}
use Rattle.std.proofs.KnownBytes.{Keeps-refl}
use Rattle.abc2midi_live.specs.Outcome.{outlets}
use Rattle.abc2midi_live.specs.declared.run_fault.RunFault.TheVariants.{Memory}
use Rattle.abc2midi_live.proofs.Feeding.{fault_exit, serve_line}
use Rattle.abc2midi_live.proofs.Feeding.{unasked_ahead}
use Rattle.abc2midi_live.proofs.listener.Listener.end_line.Goals as goal

pub returns-clause-answer : goal.returns-clause-answer
returns-clause-answer g c =
    let before = c.args.self.now in
    let line = c.take_partial_line-line in
    serve_line c.serve.result (g.M.Machine.state before.machine) _ (g.M.Machine.state c.serve.new.machine) before.begun.items c.args.piece.now line.result.items _
    (outlets (g.W.Sink.contents c.args.writer.now) (g.S.Store.seen c.args.store.now)) (outlets (g.W.Sink.contents c.serve.new.writer) (g.S.Store.seen c.serve.new.store))
    (ap (λ m. g.M.Machine.state m) (line.ensures.machine ∙ c.keep.ensures.machine)) before.whole c.requires (line.ensures.line ∙ c.in_ok-keep.ensures.begun)
    line.ensures.begun c.serve.ensures.answer

pub returns-in_err-keep-clause-answer : goal.returns-in_err-keep-clause-answer
returns-in_err-keep-clause-answer g c =
    let now = c.args.self.now in
    let state = g.M.Machine.state now.machine in
    fault_exit c.from_residual.result _ _ Memory c.from_residual.ensures
    (Keeps-refl _, unasked_ahead state.future state.directory now.begun.items (c.args.piece.now ++ 10 ∷ []) _ (g.met.M.Machine.unasked now.machine))
