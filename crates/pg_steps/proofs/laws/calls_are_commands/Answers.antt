use Rattle.pg_steps.proofs.Same.{is-command, lets-call-go}
use Rattle.pg_steps.proofs.laws.calls_are_commands.Goals as goal

pub returns-clause-command : goal.returns-clause-command
returns-clause-command c call = is-command call

pub returns-clause-lets_go : goal.returns-clause-lets_go
returns-clause-lets_go c call = lets-call-go call
