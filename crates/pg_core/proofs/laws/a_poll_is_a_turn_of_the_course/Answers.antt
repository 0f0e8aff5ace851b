use Rattle.std.proofs.Common.{refl}
use Rattle.pg_spec.specs.Courses.{stamp_of}
use Rattle.pg_core.proofs.Glued.{glued}
use Rattle.pg_core.proofs.laws.a_poll_is_a_turn_of_the_course.Goals as goal

pub returns : goal.returns
returns g c course who d place trail s p ds q former h l legal open_ ends under counts own next came = glued course who d place trail s p ds q (stamp_of who place) former h l legal open_ ends refl under counts own next came
