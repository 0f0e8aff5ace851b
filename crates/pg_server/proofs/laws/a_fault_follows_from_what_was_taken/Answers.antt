use Rattle.pg_server.proofs.FaultCourseLaws.{fault-follows, fault-of-new}
use Rattle.pg_server.proofs.laws.a_fault_follows_from_what_was_taken.Goals as goal

pub returns-clause-since : goal.returns-clause-since
returns-clause-since g c step before after piece here goes taken bytes = fault-follows step before after here goes piece taken bytes

pub returns-clause-at_all : goal.returns-clause-at_all
returns-clause-at_all g c step state startup cut room after goes bytes = fault-of-new step state startup cut room after goes bytes
