use Rattle.std.proofs.Common.{Option, None, false, Ok, sym, subst}
use Rattle.pg_query.specs.Meaning.{GivesUp}
use Rattle.pg_query.specs.Reading.{reads}
use Rattle.pg_execute.specs.Parameters.{Params, execute_request, params}
use Rattle.pg_streams.specs.RowStates.{handed, place_so}
use Rattle.pg_streams.specs.RowStreams.{query_raw, rows_from}
use Rattle.pg_streams.specs.declared.query_raw.StatementAsks.{StatementAsks}
use Rattle.pg_streams.proofs.Asking.{asked-cleanup, nothing-left}
use Rattle.pg_streams.proofs.query_raw.StatementRawStateOpens.hang_up.Goals as goal

pub returns-in-Some : goal.returns-in-Some
returns-in-Some g c =
    let s = handed c.in-Some.asks.statement in
    let vs : Params = params (g.P.Params.count c.in-Some.asks.values) (g.P.Params.gives_at c.in-Some.asks.values) in
    subst (λ (asks : Option (StatementAsks _)). GivesUp g.D.Desk.becomes c.args.stamp c.args.desk.now (place_so (λ p. params (g.P.Params.count p) (g.P.Params.gives_at p)) asks c.args.self.reply.stage) c.args.desk.now (Ok tt)) (sym c.in-Some.is)
    (nothing-left g.D.Desk.becomes g.met.D.Desk.stays c.args.stamp c.args.desk.now (query_raw s vs) 0 (asked-cleanup (execute_request s vs) (reads false (rows_from s false None))))

pub hang_up-requires : goal.hang_up-requires
hang_up-requires g c = rw c.in-None.is at c.requires

pub returns-in-None : goal.returns-in-None
returns-in-None g c =
    subst (λ (asks : Option (StatementAsks _)). GivesUp g.D.Desk.becomes c.args.stamp c.args.desk.now (place_so (λ p. params (g.P.Params.count p) (g.P.Params.gives_at p)) asks c.args.self.reply.stage) c.hang_up.new.desk c.hang_up.result) (sym c.in-None.is) c.hang_up.ensures
