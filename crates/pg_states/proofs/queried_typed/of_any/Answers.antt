use Rattle.std.proofs.Common.{ap, ◌∙◌}
use Rattle.pg_types.specs.Texts.{sql_text}
use Rattle.pg_query.specs.Scripts.{cleanup_of}
use Rattle.pg_execute.specs.Parameters.{params}
use Rattle.pg_execute.specs.Typed.{typed_request}
use Rattle.pg_execute.specs.Types.{types_in}
use Rattle.pg_states.proofs.TypedBeginning.{paired-clean}
use Rattle.pg_states.proofs.queried_typed.of_any.Goals as goal

pub new-requires : goal.new-requires
new-requires g c =
    let values = params (g.P.Params.count c.args.values) (g.P.Params.gives_at c.args.values) in
    ap (λ d. cleanup_of d) c.of_pairs-script.ensures ∙ paired-clean c.args.count values (typed_request (sql_text c.args.text) (types_in c.args.types) values) _
