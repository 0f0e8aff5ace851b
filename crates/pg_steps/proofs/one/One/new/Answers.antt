use Rattle.std.proofs.Common.{ap, Ok}
use Rattle.pg_query.specs.Dialogue.{Dialogue}
use Rattle.pg_query.specs.Made.{made}
use Rattle.pg_steps.proofs.one.One.new.Goals as goal

pub returns-clause-asks : goal.returns-clause-asks
returns-clause-asks g c = ap (λ (d : Dialogue (Unit {0})). made (λ _. Ok (g.G.Gives.gives c.args.gives)) d) c.command.ensures.asks
