use Rattle.std.proofs.Common.{◌-◌, refl, length, drop}
use Rattle.pg_server.specs.Standings.{standing_of}
use Rattle.pg_wire.specs.Fronts.{message_of_bytes}
use Rattle.pg_server.proofs.ServeLaws.{serves-Ok, serves-Err}
use Rattle.pg_server.proofs.session.Session.serve.Goals as goal

pub returns-in-Err : goal.returns-in-Err
returns-in-Err g c =
    serves-Err g.H.Handler.step (standing_of g.H.Handler.state c.args.self.now) (standing_of g.H.Handler.state c.ask.new.self)
    (message_of_bytes c.args.n c.args.bytes.now) (drop c.args.n c.args.bytes.now) c.args.bytes.now c.in-Err.fault c.in-Err.ensures

pub returns-in-Ok : goal.returns-in-Ok
returns-in-Ok g c =
    serves-Ok g.H.Handler.step (standing_of g.H.Handler.state c.args.self.now) (standing_of g.H.Handler.state c.ask.new.self) (standing_of g.H.Handler.state c.pass.new.self)
    (message_of_bytes c.args.n c.args.bytes.now) c.in-Ok.answer c.args.bytes.now c.args.n (length c.args.bytes.now - c.args.n) c.in-Ok.ensures
    (c.pass.ensures (message_of_bytes c.args.n c.args.bytes.now) refl) c.requires.fits refl
