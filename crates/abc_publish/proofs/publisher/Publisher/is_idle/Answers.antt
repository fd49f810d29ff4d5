use Rattle.std.proofs.Common.{ap, length, rules, tests}
use Rattle.std.specs.Map.Iter.{TakesFirst, deref_pair}
use Rattle.std.proofs.lemmas.Iterator.Consumers.{YieldsList-from_shown}
use Rattle.std.proofs.lemmas.Iterator.Search.{all_from_yields_List}
use Rattle.abc_publish.proofs.SettledState.{is_idle, idle_exactly}
use Rattle.abc_publish.proofs.publisher.Publisher.is_idle.Goals as goal

pub returns : goal.returns
returns c =
    let all = all_from_yields_List is_idle _ _ _ c.all.ensures.ran
    (YieldsList-from_shown (TakesFirst deref_pair) deref_pair (λ s. s) (λ s t e. ap length e.0) (λ s x t e. e) c.iter.result) (λ x b q k. search (rules, tests)) in
    idle_exactly _ _ _ c.all.result c.self.view_is c.iter.ensures.rest all c.iter.ensures.found
