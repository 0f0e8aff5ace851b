use Rattle.std.proofs.Common.{ap, ◌∙◌}
use Rattle.pg_query.specs.Scripts.{cleanup_of}
use Rattle.pg_execute.specs.Parameters.{params}
use Rattle.pg_portals.proofs.Beginning.{bind-clean}
use Rattle.pg_portals.proofs.states.bind_state.Goals as goal

pub new-requires : goal.new-requires
new-requires g c = ap (λ d. cleanup_of d) (rw c.stands_for_text-closes.ensures at c.on_closing.ensures.dialogue) ∙ bind-clean c.args.target (params (g.P.Params.count c.args.values) (g.P.Params.gives_at c.args.values))

pub returns-clause-asks : goal.returns-clause-asks
returns-clause-asks g c = c.new.ensures.place ∙ (rw c.stands_for_text-closes.ensures at c.on_closing.ensures.dialogue)
