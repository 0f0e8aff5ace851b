use Rattle.std.proofs.Common.{Result, Err, ap}
use Rattle.pg_types.specs.declared.error.Error.{Error}
use Rattle.pg_streams.specs.Collecting.{Dropped, Kept}
use Rattle.pg_streams.proofs.posting.hang_up.Goals as goal

pub returns-in-Ok : goal.returns-in-Ok
returns-in-Ok g c = Dropped c.hang_up.new.self c.in-Ok.ensures.event c.post.ensures

pub returns-in-Err : goal.returns-in-Err
returns-in-Err g c = Kept c.in-Err.fault c.in-Err.ensures.event (ap (λ (e : Error). let r : Result (Unit {0}) Error = Err e in r) c.error_of.ensures)
