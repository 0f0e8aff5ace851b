use Rattle.pg_client.proofs.simple_script.SimpleScriptScript.cleanup.Goals as goal

pub returns-in-Asked : goal.returns-in-Asked
returns-in-Asked c = rw c.in-Asked.is c.cleanup.ensures
