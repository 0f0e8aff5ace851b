use Rattle.pg_spec.proofs.Isolated.{comes-to}
use Rattle.pg_spec.proofs.course_laws.outcome_of_a_command.Goals as goal

pub returns : goal.returns
returns g c meaning command answers course x = comes-to meaning command answers course x
