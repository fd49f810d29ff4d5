use Rattle.std.proofs.Common.{◌≡◌, ℕ, ◌<◌, ◌^◌, Some, sym, subst}
use Rattle.abc_publish.specs.Publisher.{IsNext, HasNone, Slots, maps_of}
use Rattle.abc_tune_compiler.specs.Files.{file_at}
use Rattle.abc2midi_live.specs.Book.{files_of}
use Rattle.abc2midi_live.specs.Building.{stage, IsIdle}
use Rattle.abc2midi_live.proofs.Pending.{IsNumberAfter, at_none, at_some, next_none, next_done, next_fault, idle_again, under_way}
use Rattle.abc2midi_live.proofs.Pending.{onward, stops_uncalled, stops_once}
use Rattle.abc2midi_live.proofs.Storing.{on_err}
use Rattle.abc2midi_live.proofs.build_command.store_next.Goals as goal

pub returns-in_default-clause-stored : goal.returns-in_default-clause-stored
unfolding files_of
returns-in_default-clause-stored g c =
    let p : Slots = c.args.publisher.now in
    let none : HasNone (maps_of p) (files_of c.args.session.now.text) c.args.from = at_none c.in_ok-job.field-0 _ _ c.in_default.is c.in_ok-job.ensures.job in
    let same : c.take_from.new.self ≡ p = at_none c.in_ok-job.field-0 _ _ c.in_default.is c.in_ok-job.ensures.after in
    next_none c.args.session.now.text p c.take_from.new.self _ c.args.from c.args.text.now.items c.ranges.from.fits c.requires none same

pub returns-in_default-clause-idle : goal.returns-in_default-clause-idle
returns-in_default-clause-idle g c =
    let same : c.take_from.new.self ≡ c.args.publisher.now = at_none c.in_ok-job.field-0 _ _ c.in_default.is c.in_ok-job.ensures.after in
    subst (λ (p : Slots). IsIdle (maps_of p)) (sym same) c.requires

pub carry_out-requires : goal.carry_out-requires
carry_out-requires g c =
    under_way (maps_of c.args.publisher.now) (maps_of c.take_from.new.self) c.in-Some.job.number c.in-Some.job.bytes
    (at_some c.in_ok-job.field-0 c.in-Some.job _ _ c.in-Some.is c.in_ok-job.ensures.after)

pub returns-in_err-carry_out-clause-idle : goal.returns-in_err-carry_out-clause-idle
returns-in_err-carry_out-clause-idle g c =
    idle_again (maps_of c.args.publisher.now) (maps_of c.take_from.new.self) (maps_of c.carry_out.new.publisher) c.in-Some.job.number c.in-Some.job.bytes c.requires
    (at_some c.in_ok-job.field-0 c.in-Some.job _ _ c.in-Some.is c.in_ok-job.ensures.after) c.carry_out.ensures.jobs

pub returns-then-branch-clause-stored : goal.returns-then-branch-clause-stored
unfolding files_of
returns-then-branch-clause-stored g c =
    let p : Slots = c.args.publisher.now in
    let job = c.in-Some.job in
    let small : job.number < 2 ^ 32 = subst (λ (k : ℕ). k < 2 ^ 32) c.number-number.ensures c.number-number.type_inv in
    let after : IsNumberAfter job.number c.checked_add.result = subst (λ (k : ℕ). IsNumberAfter k c.checked_add.result) c.number-number.ensures c.checked_add.ensures in
    next_done c.args.session.now.text p c.take_from.new.self c.carry_out.new.publisher _ _ c.args.from job.number job.bytes
    c.checked_add.result c.args.text.now.items c.carry_out.new.text.items c.in_ok-carry_out.field-0 c.if-branch.true small c.requires
    (at_some c.in_ok-job.field-0 job _ _ c.in-Some.is c.in_ok-job.ensures.job) after (at_some c.in_ok-job.field-0 job _ _ c.in-Some.is c.in_ok-job.ensures.after)
    c.in_ok-carry_out.ensures.publisher c.in_ok-carry_out.ensures.text c.in_ok-carry_out.ensures.store

pub returns-then-branch-clause-onward : goal.returns-then-branch-clause-onward
unfolding files_of
returns-then-branch-clause-onward g c =
    let job = c.in-Some.job in
    let least : IsNext (maps_of c.args.publisher.now) (files_of c.args.session.now.text) c.args.from job.number ×
    (job.bytes ≡ file_at (files_of c.args.session.now.text) job.number) = at_some c.in_ok-job.field-0 job _ _ c.in-Some.is c.in_ok-job.ensures.job in
    onward c.args.from job.number c.checked_add.result least.0.inside (subst (λ (k : ℕ). IsNumberAfter k c.checked_add.result) c.number-number.ensures c.checked_add.ensures)

pub returns-then-branch-clause-idle : goal.returns-then-branch-clause-idle
returns-then-branch-clause-idle g c =
    idle_again (maps_of c.args.publisher.now) (maps_of c.take_from.new.self) (maps_of c.carry_out.new.publisher) c.in-Some.job.number c.in-Some.job.bytes c.requires
    (at_some c.in_ok-job.field-0 c.in-Some.job _ _ c.in-Some.is c.in_ok-job.ensures.after) c.carry_out.ensures.jobs

pub returns-else-branch-clause-stored : goal.returns-else-branch-clause-stored
unfolding files_of
returns-else-branch-clause-stored g c =
    let p : Slots = c.args.publisher.now in
    let job = c.in-Some.job in
    let small : job.number < 2 ^ 32 = subst (λ (k : ℕ). k < 2 ^ 32) c.number-number.ensures c.number-number.type_inv in
    next_fault c.args.session.now.text p c.take_from.new.self c.carry_out.new.publisher _ _ c.args.from job.number job.bytes c.args.text.now.items
    c.carry_out.new.text.items c.in_ok-carry_out.field-0 c.if-branch.false small c.requires (at_some c.in_ok-job.field-0 job _ _ c.in-Some.is c.in_ok-job.ensures.job)
    (at_some c.in_ok-job.field-0 job _ _ c.in-Some.is c.in_ok-job.ensures.after) c.in_ok-carry_out.ensures.publisher c.in_ok-carry_out.ensures.text c.in_ok-carry_out.ensures.store

pub returns-else-branch-clause-idle : goal.returns-else-branch-clause-idle
returns-else-branch-clause-idle g c =
    idle_again (maps_of c.args.publisher.now) (maps_of c.take_from.new.self) (maps_of c.carry_out.new.publisher) c.in-Some.job.number c.in-Some.job.bytes c.requires
    (at_some c.in_ok-job.field-0 c.in-Some.job _ _ c.in-Some.is c.in_ok-job.ensures.after) c.carry_out.ensures.jobs

pub returns-in_err-job-clause-stop : goal.returns-in_err-job-clause-stop
returns-in_err-job-clause-stop g c =
    let at = stage (maps_of c.args.publisher.now).directory (Some c.args.from) in
    on_err c.from_residual.result _ (stops_uncalled c.args.session.now.text at _)

pub returns-in_err-carry_out-clause-stop : goal.returns-in_err-carry_out-clause-stop
unfolding files_of
returns-in_err-carry_out-clause-stop g c =
    let job = c.in-Some.job in
    let small : job.number < 2 ^ 32 = subst (λ (k : ℕ). k < 2 ^ 32) c.number-number.ensures c.number-number.type_inv in
    on_err c.from_residual-in_err-carry_out.result _
    (stops_once c.args.session.now.text (maps_of c.args.publisher.now) c.args.from job.number job.bytes _ _ small c.requires
    (at_some c.in_ok-job.field-0 job _ _ c.in-Some.is c.in_ok-job.ensures.job) c.in_err-carry_out.ensures.stop)
