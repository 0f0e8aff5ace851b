use Rattle.pg_machine.proofs.ServingLaws.{pipelined-one_at_a_time, requests-IsReply}
use Rattle.pg_machine.proofs.SessionLaws.{session-alone}
use Rattle.pg_machine.proofs.server_laws.any_server_answers_one_at_a_time.Goals as goal

pub returns-clause-frames : goal.returns-clause-frames
returns-clause-frames g c = pipelined-one_at_a_time

pub returns-clause-replies : goal.returns-clause-replies
returns-clause-replies g c = requests-IsReply

pub returns-clause-session : goal.returns-clause-session
returns-clause-session g c = session-alone
