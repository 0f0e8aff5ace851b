use Rattle.std.proofs.Common.{Ok, Err, refl}
use Rattle.pg_streams.proofs.posting.fail_behind.Goals as goal

pub returns-in-Ok : goal.returns-in-Ok
returns-in-Ok g c = record { said = Ok tt; posted = c.in-Ok.ensures; gives = refl }

pub returns-in-Err : goal.returns-in-Err
returns-in-Err g c = record { said = Err c.in-Err.refused; posted = c.in-Err.ensures; gives = refl }
