use Rattle.std.proofs.Common.{refl}
use Rattle.pg_spec.specs.Courses.{stamp_of}
use Rattle.pg_core.proofs.Booked.{books-so}
use Rattle.pg_core.proofs.laws.requests_of_a_turn.Goals as goal

pub returns : goal.returns
returns g c who turn d id ds q end s reached under l legal = books-so who turn (stamp_of who turn) refl d id ds q end s reached under l legal
