use Rattle.pg_server.specs.ServerLinks.{served_of}
use Rattle.pg_server.proofs.LinkLaws.{settled-IsInCourse}
use Rattle.pg_server.proofs.server_link.ServerLink.course_law.Goals as goal

pub returns : goal.returns
returns g c = settled-IsInCourse g.H.Handler.step (served_of g.H.Handler.state c.args.self.now) c.args.self.now.server.settled
