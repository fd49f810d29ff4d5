use Rattle.abc_bars.proofs.LookBack.Flags.{bodies_say_so, headers_say_so}
use Rattle.abc_bars.proofs.laws.items.openings_of_items.Goals as goal

pub returns-clause-body : goal.returns-clause-body
returns-clause-body c = bodies_say_so

pub returns-clause-header : goal.returns-clause-header
returns-clause-header c = headers_say_so
