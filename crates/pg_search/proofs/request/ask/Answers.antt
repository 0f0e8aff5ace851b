use Rattle.pg_search.proofs.Requests.{few-steps}
use Rattle.pg_search.proofs.request.ask.Goals as goal

pub returns-in-Ok-clause-steps : goal.returns-in-Ok-clause-steps
returns-in-Ok-clause-steps g c = few-steps c.new.result.phase

pub returns-in-Err-clause-steps : goal.returns-in-Err-clause-steps
returns-in-Err-clause-steps g c = few-steps c.refused.result.phase
