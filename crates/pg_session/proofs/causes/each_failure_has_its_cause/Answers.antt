use Rattle.pg_session.proofs.Caused.{broken-cause}
use Rattle.pg_session.proofs.Stalled.Start.{stalled-start}
use Rattle.pg_session.proofs.Caused.Start.{start_cause}
use Rattle.pg_session.proofs.causes.each_failure_has_its_cause.Goals as goal

pub returns-clause-startup : goal.returns-clause-startup
returns-clause-startup g c call settings s e means plain limit failed = start_cause call settings s e means plain limit failed

pub returns-clause-later : goal.returns-clause-later
returns-clause-later g c speech lets whole call settings scripts e means b limit = broken-cause speech lets whole call settings scripts e means b limit

pub returns-clause-stalled : goal.returns-clause-stalled
returns-clause-stalled g c call settings s before after means h = stalled-start call settings s before after means h
