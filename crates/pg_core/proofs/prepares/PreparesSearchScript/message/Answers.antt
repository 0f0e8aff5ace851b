use Rattle.pg_core.specs.declared.prepares.Prepares.{Prepares}
use Rattle.pg_core.proofs.Within.{goes-within}
use Rattle.pg_core.proofs.prepares.PreparesSearchScript.message.Goals as goal

pub returns-clause-goes_on : goal.returns-clause-goes_on
returns-clause-goes_on g c raw means waits =
    let new : Prepares g.row.F.Denot g.row.F-Search.Denot = record { script = c.message.new.self } in
    goes-within _ _ _ (λ (s : Prepares g.row.F.Denot g.row.F-Search.Denot). s.script) new c.message.result _ (c.message.ensures.goes_on raw means waits)
