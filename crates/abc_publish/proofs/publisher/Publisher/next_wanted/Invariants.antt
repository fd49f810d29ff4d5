use Rattle.std.proofs.Common.{◌≡◌, ℕ, ◌≤◌, ◌<◌, ◌^◌, ◌-◌, false}
use Rattle.abc_live_session.specs.Session.{book_in}
use Rattle.abc_publish.specs.Publisher.{is_wanted, maps_of}
use Rattle.abc_publish.proofs.publisher.Publisher.next_wanted.Given as goal

abbrev pub invariant-loop-number : goal.invariant-loop-number
invariant-loop-number g l = (l.from ≤ l.at) × ((n : ℕ) → l.from ≤ n → n < l.at → is_wanted (maps_of l.self) (book_in g.C.Fold.steps g.C.Compiler.rules l.session).files n ≡ false)

abbrev pub decreases-loop-number : goal.decreases-loop-number
decreases-loop-number g l = 2 ^ 32 - l.at
