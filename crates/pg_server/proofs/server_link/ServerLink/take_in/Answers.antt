use Rattle.pg_server.specs.ServerLinks.{served_of}
use Rattle.pg_server.proofs.ReachLaws.{reach-ends, reach-TakesIn}
use Rattle.pg_server.proofs.server_link.ServerLink.take_in.Goals as goal

pub take_piece-requires : goal.take_piece-requires
take_piece-requires g c =
    reach-ends c.args.self.now.server.session.stage c.args.self.now.server.left.items c.args.bytes.now c.reach-n.result c.args.self.now.server.settled c.reach-n.ensures.reach

pub returns : goal.returns
returns g c =
    reach-TakesIn g.H.Handler.step (served_of g.H.Handler.state c.args.self.now) (served_of g.H.Handler.state c.take_piece.new.self) c.args.bytes.now c.reach-n.result c.take_piece.result
    c.args.self.now.server.settled c.reach-n.ensures.reach c.take_piece.ensures
