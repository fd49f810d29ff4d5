use Rattle.std.proofs.Common.{Option, List, ℕ, sym, subst, ◌∷◌, []}
use Rattle.std.specs.Prelude.{is_ok, option_copied}
use Rattle.std.specs.Borrow.{Bor}
use Rattle.abc_publish.specs.Publisher.{with_entry}
use Rattle.abc2midi_live.specs.Building.{answer_of, entry_after}
use Rattle.abc2midi_live.specs.Storing.{Follows}
use Rattle.abc2midi_live.proofs.Pending.{follows_stored, follows_taken}
use Rattle.abc2midi_live.proofs.build_command.put_or_remove.Goals as goal

pub returns-in-Some : goal.returns-in-Some
returns-in-Some g c = λ directory.
    let old = g.S.Store.seen c.args.store.now in
    let new = g.S.Store.seen c.put.new.self in
    subst (λ (b : Option (Bor (List ℕ))). Follows old new (answer_of (is_ok c.put.result) ∷ []) directory
    (with_entry directory c.args.number (entry_after (answer_of (is_ok c.put.result)) (option_copied b)))) (sym c.in-Some.is)
    (follows_stored c.put.result old new directory c.args.number c.args.name.now _ c.ranges.number.fits c.requires c.put.ensures.files c.put.ensures.failures c.put.ensures.calls)

pub returns-in-None : goal.returns-in-None
returns-in-None g c = λ directory.
    let old = g.S.Store.seen c.args.store.now in
    let new = g.S.Store.seen c.remove.new.self in
    subst (λ (b : Option (Bor (List ℕ))). Follows old new (answer_of (is_ok c.remove.result) ∷ []) directory
    (with_entry directory c.args.number (entry_after (answer_of (is_ok c.remove.result)) (option_copied b)))) (sym c.in-None.is)
    (follows_taken c.remove.result old new directory c.args.number c.args.name.now c.ranges.number.fits c.requires c.remove.ensures.files c.remove.ensures.failures c.remove.ensures.calls)
