use Rattle.pg_client.proofs.ChecksStepping.{check-goes-on}
use Rattle.pg_client.proofs.show_script.ShowScriptScript.message.Goals as goal

pub returns-in-Asked-clause-goes_on : goal.returns-in-Asked-clause-goes_on
returns-in-Asked-clause-goes_on c = rw c.in-Asked.is (λ raw means waits. check-goes-on c.message.result _ c.message.new.self (c.message.ensures.goes_on raw means waits))

pub returns-in-Asked-clause-stops : goal.returns-in-Asked-clause-stops
returns-in-Asked-clause-stops c = rw c.in-Asked.is (λ raw means waits. c.message.ensures.stops raw means waits)
