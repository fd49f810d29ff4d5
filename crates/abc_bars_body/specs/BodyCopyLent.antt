-- A copy of a body after a part of it was borrowed and changed.
use Rattle.std.specs.Borrow.{Fml, Lends, MutBor}
use Rattle.abc_bars_body.specs.BodyCopy.{with_own}
use Rattle.abc_bars_body.specs.contracts.body.Body.{the_row as body_row}
use Rattle.abc_bars_body.specs.contracts.body_copy.BodyStorage.{the_row as held_row}
use Rattle.abc_bars_body.specs.declared.body.Body.{Body}
use Rattle.abc_bars_body.specs.declared.body_copy.BodyStorage.{BodyStorage}

-- Once the borrow ends, what was last written is the body.
abbrev pub LendsOwn : MutBor BodyStorage → MutBor Body → Fml
LendsOwn copy lent = Lends held_row body_row copy lent (with_own copy.now)
