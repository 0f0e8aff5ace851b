use Rattle.std.proofs.Common.{refl}
use Rattle.pg_server.specs.ServerLinks.{Served, served_of}
use Rattle.pg_server.specs.Crossings.{crossed_of}
use Rattle.pg_server.proofs.LinkLaws.{read-answers}
use Rattle.pg_server.proofs.server_link.ServerLinkLink.read.Goals as goal

pub returns-clause-keeps : goal.returns-clause-keeps
returns-clause-keeps g c =
    let old : Served g.H.Handler.State = served_of g.H.Handler.state c.args.self.now in
    (read-answers g.H.Handler.step old (record old { crossed = crossed_of c.give.new.self }) c.give.new.out c.give.result c.give.ensures.kept (refl, c.give.ensures.exact)).1
