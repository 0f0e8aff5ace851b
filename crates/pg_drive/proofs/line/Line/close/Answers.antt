use Rattle.pg_drive.specs.Lines.{seen}
use Rattle.pg_drive.proofs.Ending.{closes-by}
use Rattle.pg_drive.proofs.line.Line.close.Goals as goal

pub returns-in-Ok : goal.returns-in-Ok
returns-in-Ok g c =
    closes-by g.E.Desk.becomes (seen g.L.Link.view c.args.self.now) (seen g.L.Link.view c.close_requests.new.self) (seen g.L.Link.view c.run_out.new.self) c.run_out.result c.in-Ok.ensures c.run_out.ensures
