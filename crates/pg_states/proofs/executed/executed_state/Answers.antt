use Rattle.std.proofs.Common.{ap, ◌∙◌}
use Rattle.pg_execute.specs.Parameters.{params}
use Rattle.pg_query.specs.Scripts.{cleanup_of}
use Rattle.pg_states.proofs.Beginning.{target-clean}
use Rattle.pg_states.proofs.executed.executed_state.Goals as goal

pub new-requires : goal.new-requires
new-requires g c = ap (λ d. cleanup_of d) c.on_target.ensures.dialogue ∙ target-clean (g.E.Form.stops c.args.form) (g.E.Form.reads c.args.form) (params (g.P.Params.count c.args.values) (g.P.Params.gives_at c.args.values)) c.args.target

pub returns-clause-asks : goal.returns-clause-asks
returns-clause-asks g c = c.new.ensures.place ∙ c.on_target.ensures.dialogue
