use Rattle.pg_promises.specs.Endings.{course_of, replies}
use Rattle.pg_spec.specs.RawMessages.{groups}
use Rattle.pg_session.specs.Speeches.{meaning_of}
use Rattle.pg_table.specs.Table.{table}
use Rattle.pg_table.specs.Names.{named}
use Rattle.pg_table.proofs.ByNames.{by-names}
use Rattle.pg_table.proofs.Isolated.{isolated}
use Rattle.pg_table.proofs.isolation_laws.isolation_of_sessions.Goals as goal

pub returns-clause-ended_well : goal.returns-clause-ended_well
returns-clause-ended_well c s other taken sent x y = isolated (meaning_of table) named by-names s.scripts other.scripts s.turns other.turns s.report.answers other.report.answers
    (course_of s.report (replies s) x.asked) (course_of other.report (replies other) y.asked) x.has_run y.has_run

pub returns-clause-over_any_link : goal.returns-clause-over_any_link
returns-clause-over_any_link c scripts others turns more one two x y = isolated (meaning_of table) named by-names scripts others turns more one.answers two.answers
    (course_of one (groups x.later) x.asked) (course_of two (groups y.later) y.asked) x.has_run y.has_run
