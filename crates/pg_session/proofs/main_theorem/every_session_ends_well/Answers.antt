use Rattle.pg_session.proofs.Closing.{is-closed}
use Rattle.pg_session.proofs.EndsWell.{ends-well}
use Rattle.pg_session.proofs.HasRun.{has-ended}
use Rattle.pg_session.proofs.main_theorem.every_session_ends_well.Goals as goal

pub returns-clause-ended_well : goal.returns-clause-ended_well
returns-clause-ended_well g c speech commands = ends-well speech commands

pub returns-clause-has_run : goal.returns-clause-has_run
returns-clause-has_run g c speech commands settings nonce scripts given before after report p = has-ended speech settings nonce scripts given before after report p commands

pub returns-clause-closed : goal.returns-clause-closed
returns-clause-closed g c = is-closed
