use Rattle.pg_promises.specs.Endings.{course_of, replies}
use Rattle.pg_spec.specs.RawMessages.{groups}
use Rattle.pg_table.proofs.KeptApart.{kept-apart}
use Rattle.pg_table.proofs.isolation_laws.commands_are_kept_apart.Goals as goal

pub returns-clause-ended_well : goal.returns-clause-ended_well
returns-clause-ended_well c s taken ended = kept-apart s.scripts s.turns s.report.answers (course_of s.report (replies s) ended.asked) ended.has_run

pub returns-clause-over_any_link : goal.returns-clause-over_any_link
returns-clause-over_any_link c scripts turns report ran = kept-apart scripts turns report.answers (course_of report (groups ran.later) ran.asked) ran.has_run
