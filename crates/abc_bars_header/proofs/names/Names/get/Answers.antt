use Rattle.std.proofs.Common.{◌≡◌, [], bytes_eq, subst}
use Rattle.std.specs.List.{IsDistinct}
use Rattle.abc_bars_header.proofs.NamedLists.{distinct_none}
use Rattle.abc_bars_header.proofs.names.Names.get.Goals as goal

pub returns-in-None-clause-distinct : goal.returns-in-None-clause-distinct
returns-in-None-clause-distinct c = let none : [] ≡ c.args.self.now = cc in subst (IsDistinct bytes_eq) none (distinct_none bytes_eq)
