use Rattle.std.proofs.Common.{List, ℕ, sym, ◌∙◌, subst}
use Rattle.pg_types.specs.Texts.{sql_text}
use Rattle.pg_execute.specs.Parameters.{Params, params}
use Rattle.pg_execute.specs.Types.{types_in}
use Rattle.pg_streams.specs.TypedRawStates.{IsRequest, paired_request, types_count}
use Rattle.pg_streams.proofs.Polling.{polls-asked, polls-goes}
use Rattle.pg_streams.proofs.state.QueryTypedRawStateOpens.poll.Goals as goal

pub returns-in-Some-clause-finds : goal.returns-in-Some-clause-finds
returns-in-Some-clause-finds g c none =
    let old = c.args.self.now in
    let a = c.in-Some.asks in
    let vs : Params = params (g.P.Params.count a.values) (g.P.Params.gives_at a.values) in
    let is : IsRequest (paired_request (sql_text a.text) (types_count a.types) (types_in a.types) vs) c.request_of-request.result =
    subst (λ (text : List ℕ). IsRequest (paired_request text (types_count a.types) (types_in a.types) vs) c.request_of-request.result) c.as_str.ensures c.request_of-request.ensures in
    polls-asked (λ p. params (g.P.Params.count p) (g.P.Params.gives_at p)) g.D.Desk.becomes g.met.D.Desk.stays g.met.D.Desk.joins c.args.stamp c.args.desk.now c.begin.new.desk old.asks old.reply.stage c.take.new.self c.begin.new.self.stage c.take.ensures.after c.begin.result a (sym c.take.ensures.value ∙ c.in-Some.is)
    (c.begin.ensures (sql_text a.text) (types_count a.types) (types_in a.types) vs is)

pub go_on-requires : goal.go_on-requires
go_on-requires g c = rw (sym c.take.ensures.value ∙ c.in-None.is) at c.requires

pub returns-in-None-clause-finds : goal.returns-in-None-clause-finds
returns-in-None-clause-finds g c none =
    let old = c.args.self.now in
    let is = sym c.take.ensures.value ∙ c.in-None.is in
    polls-goes (λ p. params (g.P.Params.count p) (g.P.Params.gives_at p)) g.D.Desk.becomes g.met.D.Desk.stays g.met.D.Desk.joins c.args.stamp c.args.desk.now c.go_on.new.desk old.asks old.reply.stage c.take.new.self c.go_on.new.self.stage c.take.ensures.after c.go_on.result is (rw is at c.requires) c.go_on.ensures
