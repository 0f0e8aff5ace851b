use Rattle.std.proofs.Common.{List}
use Rattle.pg_drive.specs.Drives.{Drives, Stand}
use Rattle.pg_drive.specs.Lines.{anew, seen}
use Rattle.pg_drive.proofs.line.Line.ask.Given as goal

-- so far the state waited and the connection went on
abbrev pub invariant-polls : goal.invariant-polls
invariant-polls g l = record {
  stands : List (Stand g.row.E.Denot g.row.S-Output.Denot);
  drives : Drives g.E.Desk.becomes l.initial.stamp (record { place = g.S.Polled.place l.initial.state; line = anew (seen g.L.Link.view l.initial.self) }) stands (record { place = g.S.Polled.place l.state; line = seen g.L.Link.view l.self });
  live : g.S.Polled.is_live l.state;
}
