use Rattle.pg_search.specs.declared.lookup_statement.LookupStatement.{LookupStatement}
use Rattle.pg_search.proofs.Forwarding.{goes-forward}
use Rattle.pg_search.proofs.lookup_statement.LookupStatementScript.message.Goals as goal

pub returns-clause-goes_on : goal.returns-clause-goes_on
returns-clause-goes_on c raw means waits =
    let new : LookupStatement = record { script = c.message.new.self } in
    goes-forward _ _ _ (λ (s : LookupStatement). s.script) _ c.message.result new (c.message.ensures.goes_on raw means waits)
