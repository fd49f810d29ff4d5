use Rattle.std.proofs.Common.{inl, refl}
use Rattle.std.specs.Prelude.{is_ok}
use Rattle.abc2midi_live.proofs.Pending.{follows_job, stores_job}
use Rattle.abc2midi_live.proofs.Storing.{on_err}
use Rattle.abc2midi_live.proofs.build_command.store_file.Goals as goal

pub returns-clause-store : goal.returns-clause-store
returns-clause-store g c = λ directory.
    follows_job _ _ directory c.number-number.result c.args.job.now.number c.is_ok-stored.result (is_ok c.put_or_remove.result) _ c.args.job.now.bytes
    c.number-number.ensures c.bytes-bytes.ensures c.is_ok-stored.ensures.value (c.put_or_remove.ensures directory)

pub returns-in_err-name-clause-stop : goal.returns-in_err-name-clause-stop
returns-in_err-name-clause-stop g c = on_err c.from_residual.result _ (inl refl)

pub returns-in_err-put_stored-clause-stop : goal.returns-in_err-put_stored-clause-stop
returns-in_err-put_stored-clause-stop g c =
    on_err c.from_residual-in_err-put_stored.result _
    (stores_job _ _ c.number-number.result c.args.job.now.number (is_ok c.put_or_remove.result) _ c.args.job.now.bytes c.number-number.ensures c.bytes-bytes.ensures c.put_or_remove.ensures)

pub returns-in_err-put_failed-clause-stop : goal.returns-in_err-put_failed-clause-stop
returns-in_err-put_failed-clause-stop g c =
    on_err c.from_residual-in_err-put_failed.result _
    (stores_job _ _ c.number-number.result c.args.job.now.number (is_ok c.put_or_remove.result) _ c.args.job.now.bytes c.number-number.ensures c.bytes-bytes.ensures c.put_or_remove.ensures)
