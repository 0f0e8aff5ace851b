use Rattle.std.proofs.Common.{refl, sym, ◌∙◌}
use Rattle.pg_server.proofs.TrafficLaws.{has-due}
use Rattle.pg_server.proofs.traffic.Traffic.wait.Goals as goal

pub returns-then-has_due : goal.returns-then-has_due
returns-then-has_due c = (has-due c.args.self.now (sym c.has_due.ensures ∙ c.if-has_due.true), refl)
