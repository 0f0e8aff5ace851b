use Rattle.pg_core.proofs.Within.{goes-within}
use Rattle.pg_search.specs.declared.finds.Search.{Search}
use Rattle.pg_search.proofs.finds.SearchScript.message.Goals as goal

pub returns-clause-goes_on : goal.returns-clause-goes_on
returns-clause-goes_on c raw means waits =
    let new : Search = record { search = c.message.new.self } in
    goes-within _ _ _ (λ (s : Search). s.search) new c.message.result _ (c.message.ensures.goes_on raw means waits)
