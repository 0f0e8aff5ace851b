use Rattle.pg_machine.proofs.ServingLaws.{request-Closes}
use Rattle.pg_machine.proofs.server_laws.request_gets_one_reply.Goals as goal

pub returns-clause-reply : goal.returns-clause-reply
returns-clause-reply g c = λ service at frames normal request sound only. (request-Closes service at frames normal request sound only).reply

pub returns-clause-again : goal.returns-clause-again
returns-clause-again g c = λ service at frames normal request sound only. (request-Closes service at frames normal request sound only).normal
