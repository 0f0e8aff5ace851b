use Rattle.std.proofs.Common.{refl}
use Rattle.pg_server.specs.Frames.{frame_view}
use Rattle.pg_server.specs.Standings.{standing_of}
use Rattle.pg_wire.specs.Fronts.{message_of_bytes}
use Rattle.pg_server.proofs.ServeLaws.{asks-read}
use Rattle.pg_server.proofs.session.Session.ask.Goals as goal

pub returns-in-Ok : goal.returns-in-Ok
returns-in-Ok g c =
    asks-read g.H.Handler.step (standing_of g.H.Handler.state c.args.self.now) (standing_of g.H.Handler.state c.answer.new.self) (message_of_bytes c.args.n c.args.bytes.now)
    (frame_view c.in-Ok.frame) c.answer.result c.in-Ok.ensures (c.answer.ensures (message_of_bytes c.args.n c.args.bytes.now) refl c.in-Ok.ensures)
