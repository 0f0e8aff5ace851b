use Rattle.pg_execute.specs.Parameters.{params}
use Rattle.pg_execute.specs.Types.{types_in}
use Rattle.pg_streams.specs.TypedRawStates.{types_count}
use Rattle.pg_streams.proofs.Streams.{other-given, same-given}
use Rattle.pg_streams.proofs.state.request_of.Goals as goal

pub returns-then-given-count : goal.returns-then-given-count
returns-then-given-count g c =
    other-given c.args.text.now (types_count c.args.types.now) (types_in c.args.types.now) (params (g.P.Params.count c.args.values.now) (g.P.Params.gives_at c.args.values.now)) c.len-given.result c.count_of-count.result c.len-given.ensures c.count_of-count.ensures c.if-given-count.true

pub returns : goal.returns
returns g c =
    same-given c.args.text.now (types_count c.args.types.now) (types_in c.args.types.now) (params (g.P.Params.count c.args.values.now) (g.P.Params.gives_at c.args.values.now)) c.len-given.result c.count_of-count.result c.len-given.ensures c.count_of-count.ensures c.if-given-count.false
    c.in_ok-request_under.field-0 c.in_ok-request_under.ensures
