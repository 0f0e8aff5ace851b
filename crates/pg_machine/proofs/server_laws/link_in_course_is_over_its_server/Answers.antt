use Rattle.pg_machine.proofs.CourseLaws.{course-IsOver}
use Rattle.pg_machine.proofs.server_laws.link_in_course_is_over_its_server.Goals as goal

pub returns : goal.returns
returns g c = course-IsOver
