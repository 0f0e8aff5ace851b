use Rattle.pg_server.specs.Crossings.{crossed_of}
use Rattle.pg_server.specs.ServerLinks.{served_of}
use Rattle.pg_server.proofs.LinkLaws.{stops-memory, stops-other}
use Rattle.pg_server.proofs.server_link.ServerLink.stop.Goals as goal

pub returns-in-OutOfMemory : goal.returns-in-OutOfMemory
returns-in-OutOfMemory g c =
    stops-memory (served_of g.H.Handler.state c.args.self.now) (crossed_of c.take_back.new.self) c.args.n c.args.fault c.in-OutOfMemory.is c.take_back.ensures.crossed

pub returns-in_default : goal.returns-in_default
returns-in_default g c =
    stops-other (served_of g.H.Handler.state c.args.self.now) (crossed_of c.move_on.new.self) c.args.n c.args.fault c.in_default.not-OutOfMemory c.move_on.ensures.crossed
