use Rattle.std.proofs.Common.{sym, ◌∙◌}
use Rattle.abc_publish.specs.Publisher.{maps_of}
use Rattle.abc2midi_live.proofs.Pending.{ends_done, ends_failed, follows_ended, in_error, no_error}
use Rattle.abc2midi_live.proofs.build_command.carry_out.Goals as goal

pub returns-then-unwrap_or-clause-publisher : goal.returns-then-unwrap_or-clause-publisher
returns-then-unwrap_or-clause-publisher g c =
    ends_done c.store_file-stored.result (maps_of c.args.publisher.now) (maps_of c.done.new.self) c.args.job.number c.args.job.bytes (sym c.unwrap_or.ensures ∙ c.if-unwrap_or.true) c.done.ensures

pub returns-then-unwrap_or-clause-unknown : goal.returns-then-unwrap_or-clause-unknown
returns-then-unwrap_or-clause-unknown g c = no_error c.store_file-stored.result _ (sym c.unwrap_or.ensures ∙ c.if-unwrap_or.true)

pub returns-then-unwrap_or-clause-store : goal.returns-then-unwrap_or-clause-store
returns-then-unwrap_or-clause-store g c =
    follows_ended c.store_file-stored.result _ _ (maps_of c.args.publisher.now) (maps_of c.done.new.self) c.args.job.number c.args.job.bytes
    (ends_done c.store_file-stored.result (maps_of c.args.publisher.now) (maps_of c.done.new.self) c.args.job.number c.args.job.bytes (sym c.unwrap_or.ensures ∙ c.if-unwrap_or.true) c.done.ensures)
    c.store_file-stored.ensures.store

pub returns-else-unwrap_or-clause-publisher : goal.returns-else-unwrap_or-clause-publisher
returns-else-unwrap_or-clause-publisher g c =
    ends_failed c.store_file-stored.result (maps_of c.args.publisher.now)
    (maps_of c.failed.new.self) c.args.job.number c.args.job.bytes (sym c.unwrap_or.ensures ∙ c.if-unwrap_or.false) c.failed.ensures

pub returns-else-unwrap_or-clause-unknown : goal.returns-else-unwrap_or-clause-unknown
returns-else-unwrap_or-clause-unknown g c = in_error c.store_file-stored.result _ c.failed.ensures

pub returns-else-unwrap_or-clause-store : goal.returns-else-unwrap_or-clause-store
returns-else-unwrap_or-clause-store g c =
    follows_ended c.store_file-stored.result _ _ (maps_of c.args.publisher.now) (maps_of c.failed.new.self) c.args.job.number c.args.job.bytes
    (ends_failed c.store_file-stored.result (maps_of c.args.publisher.now)
    (maps_of c.failed.new.self) c.args.job.number c.args.job.bytes (sym c.unwrap_or.ensures ∙ c.if-unwrap_or.false) c.failed.ensures)
    c.store_file-stored.ensures.store
