use Rattle.pg_spec.proofs.Headlines.{headline}
use Rattle.pg_promises.specs.Endings.{course_of, replies}
use Rattle.pg_session.specs.Speeches.{meaning_of}
use Rattle.pg_table.specs.Table.{simply, table}
use Rattle.pg_table.proofs.SimpleMeans.{are-simple}
use Rattle.pg_table.proofs.laws.simple_queries_of_the_table.Goals as goal

pub returns : goal.returns
returns c = record {
  headline = λ s taken ended. headline (meaning_of table) simply are-simple s.scripts s.turns s.report.answers (course_of s.report (replies s) ended.asked) ended.has_run;
}
