use Rattle.pg_client.proofs.show_script.ShowScriptScript.cleanup.Goals as goal

pub returns-in-Asked : goal.returns-in-Asked
returns-in-Asked c = rw c.in-Asked.is c.cleanup.ensures
