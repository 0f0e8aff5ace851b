use Rattle.std.proofs.Common.{refl, ap, ◌∙◌, length, [], ◌∷◌}
use Rattle.std.specs.Str.{byte}
use Rattle.pg_server.specs.declared.session.Stage.TheVariants.{Serves}
use Rattle.pg_server.specs.Standings.{standing_of, opened}
use Rattle.pg_server.proofs.ServeLaws.{opens-Ok}
use Rattle.pg_server.proofs.session.Session.open.Goals as goal

pub returns-in-Ok : goal.returns-in-Ok
returns-in-Ok g c =
    opens-Ok (standing_of g.H.Handler.state c.args.self.now) (standing_of g.H.Handler.state c.args.self.now) c.args.bytes.now (byte "N" ∷ []) c.in-Ssl.rest.now c.in-Ok.answer
    (length c.in-Ssl.rest.now) (ap (opened (standing_of g.H.Handler.state c.args.self.now)) c.in-Ssl.ensures) c.in-Ok.ensures refl

pub returns-in-Ok-copied : goal.returns-in-Ok-copied
returns-in-Ok-copied g c =
    opens-Ok (standing_of g.H.Handler.state c.args.self.now) (record (standing_of g.H.Handler.state c.args.self.now) { stage = Serves }) c.args.bytes.now c.args.self.now.startup
    c.in-Starts.rest.now c.in-Ok-copied.answer (length c.in-Starts.rest.now) (ap (opened (standing_of g.H.Handler.state c.args.self.now)) c.in-Starts.ensures)
    (c.in-Ok-copied.ensures ∙ c.as_slice.ensures) refl
