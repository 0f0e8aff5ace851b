use Rattle.pg_steps.proofs.Plans.{command, lets-go}
use Rattle.pg_steps.proofs.laws.lists_of_steps_are_commands.Goals as goal

pub returns-clause-command : goal.returns-clause-command
returns-clause-command c steps call r is = command steps call r is

pub returns-clause-lets_go : goal.returns-clause-lets_go
returns-clause-lets_go c steps call r is = lets-go steps call r is
