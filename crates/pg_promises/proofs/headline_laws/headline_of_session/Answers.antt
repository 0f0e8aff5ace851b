use Rattle.pg_spec.proofs.Headlines.{headline}
use Rattle.pg_promises.specs.Endings.{course_of, replies}
use Rattle.pg_promises.proofs.headline_laws.headline_of_session.Goals as goal

pub returns : goal.returns
returns g c meaning how are s taken ended = headline meaning how are s.scripts s.turns s.report.answers (course_of s.report (replies s) ended.asked) ended.has_run
