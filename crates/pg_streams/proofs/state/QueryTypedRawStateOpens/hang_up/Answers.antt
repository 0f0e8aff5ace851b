use Rattle.std.proofs.Common.{Option, true, Ok, sym, subst}
use Rattle.pg_query.specs.Meaning.{GivesUp}
use Rattle.pg_types.specs.Texts.{sql_text}
use Rattle.pg_execute.specs.Parameters.{Params, params}
use Rattle.pg_execute.specs.Types.{types_in}
use Rattle.pg_streams.specs.TypedRawStates.{asks_typed, place_so, types_count}
use Rattle.pg_streams.specs.declared.state.TypedAsks.{TypedAsks}
use Rattle.pg_streams.proofs.Asking.{nothing-left}
use Rattle.pg_streams.proofs.Streams.{asks-clean}
use Rattle.pg_streams.proofs.state.QueryTypedRawStateOpens.hang_up.Goals as goal

pub returns-in-Some : goal.returns-in-Some
returns-in-Some g c =
    let a = c.in-Some.asks in
    let vs : Params = params (g.P.Params.count a.values) (g.P.Params.gives_at a.values) in
    subst (λ (asks : Option (TypedAsks _)). GivesUp g.D.Desk.becomes c.args.stamp c.args.desk.now (place_so (λ p. params (g.P.Params.count p) (g.P.Params.gives_at p)) true asks c.args.self.reply.stage) c.args.desk.now (Ok tt)) (sym c.in-Some.is)
    (nothing-left g.D.Desk.becomes g.met.D.Desk.stays c.args.stamp c.args.desk.now (asks_typed true (sql_text a.text) (types_count a.types) (types_in a.types) vs) 0 (asks-clean (sql_text a.text) (types_count a.types) (types_in a.types) vs))

pub hang_up-requires : goal.hang_up-requires
hang_up-requires g c = rw c.in-None.is at c.requires

pub returns-in-None : goal.returns-in-None
returns-in-None g c =
    subst (λ (asks : Option (TypedAsks _)). GivesUp g.D.Desk.becomes c.args.stamp c.args.desk.now (place_so (λ p. params (g.P.Params.count p) (g.P.Params.gives_at p)) true asks c.args.self.reply.stage) c.hang_up.new.desk c.hang_up.result) (sym c.in-None.is) c.hang_up.ensures
