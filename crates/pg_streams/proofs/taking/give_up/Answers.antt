use Rattle.std.proofs.Common.{Ok}
use Rattle.pg_streams.proofs.Takes.{hang-up-refused, hung-up}
use Rattle.pg_streams.proofs.taking.give_up.Goals as goal

pub returns-in-Ok : goal.returns-in-Ok
returns-in-Ok g c stamp = hung-up stamp c.args.id (Ok tt) c.in-Ok.ensures.event

pub returns-in-Err : goal.returns-in-Err
returns-in-Err g c stamp = hang-up-refused stamp c.args.id (Ok tt) c.in-Err.fault c.error_of.result c.in-Err.ensures.event c.error_of.ensures
