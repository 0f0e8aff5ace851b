use Rattle.std.proofs.Common.{length}
use Rattle.pg_server.specs.Standings.{standing_of}
use Rattle.pg_server.proofs.HearingLaws.{HeardSoFar}
use Rattle.pg_server.proofs.session.Session.hear.Given as goal

abbrev pub invariant-loop-step : goal.invariant-loop-step
invariant-loop-step g l =
    HeardSoFar g.H.Handler.step (standing_of g.H.Handler.state l.fn.self) l.bytes l.fn.out.items (standing_of g.H.Handler.state l.self) l.rest l.out.items

abbrev pub decreases-loop-step : goal.decreases-loop-step
decreases-loop-step g l = length l.rest
