use Rattle.std.proofs.Common.{◌≡◌, Option, refl, sym, ◌∙◌, ap}
use Rattle.pg_execute.specs.Parameters.{Params, params}
use Rattle.pg_streams.specs.Hearing.{IsNoItem}
use Rattle.pg_streams.specs.RowStates.{handed, statement_so}
use Rattle.pg_streams.specs.declared.query_raw.StatementAsks.{StatementAsks}
use Rattle.pg_streams.proofs.Asking.{lacks}
use Rattle.pg_streams.proofs.Begun.{knows-so, polls-so, same-some, so-asked, so-goes, so-stands}
use Rattle.pg_streams.proofs.Opening.{known-state}
use Rattle.pg_streams.proofs.query_raw.StatementRawStateOpens.poll.Goals as goal

pub returns-in_default-clause-opens : goal.returns-in_default-clause-opens
returns-in_default-clause-opens g c k said = lacks g.D.Desk.becomes g.met.D.Desk.stays c.args.stamp c.args.desk.now (so-stands (λ p. params (g.P.Params.count p) (g.P.Params.gives_at p)) c.args.self.now.asks c.args.self.now.reply.stage) (λ first. IsNoItem first.told)

pub returns-in-Err-clause-opens : goal.returns-in-Err-clause-opens
returns-in-Err-clause-opens g c k said = lacks g.D.Desk.becomes g.met.D.Desk.stays c.args.stamp c.args.desk.now (so-stands (λ p. params (g.P.Params.count p) (g.P.Params.gives_at p)) c.args.self.now.asks c.args.self.now.reply.stage) (λ first. IsNoItem first.told)

pub returns-in-Ok-request-clause-opens : goal.returns-in-Ok-request-clause-opens
returns-in-Ok-request-clause-opens g c k said =
    let vs : Params = params (g.P.Params.count c.in-Some.asks.values) (g.P.Params.gives_at c.in-Some.asks.values) in
    let old = c.args.self.now in
    polls-so (λ p. params (g.P.Params.count p) (g.P.Params.gives_at p)) g.D.Desk.becomes c.args.stamp c.args.desk.now c.begin.new.desk (so-stands (λ p. params (g.P.Params.count p) (g.P.Params.gives_at p)) old.asks old.reply.stage) _
    (so-asked (λ p. params (g.P.Params.count p) (g.P.Params.gives_at p)) old.asks old.reply.stage _ c.in-Ok.statement (sym c.take.ensures.value ∙ c.in-Some.is) c.in-Ok.ensures) c.take.new.self c.begin.new.self.stage c.take.ensures.after c.begin.result (c.begin.ensures.opens vs (rw c.in-Ok-request.is at c.execute_request-request.ensures) 0)

pub returns-in-Ok-request-clause-known : goal.returns-in-Ok-request-clause-known
returns-in-Ok-request-clause-known g c k said =
    let is = sym c.take.ensures.value ∙ c.in-Some.is in
    let same : handed c.in-Some.asks.statement ≡ k = same-some (handed c.in-Some.asks.statement) k (sym (ap (λ (o : Option (StatementAsks _)). statement_so o c.args.self.now.reply.stage) is) ∙ said) in
    knows-so c.take.new.self c.begin.new.self.stage c.take.ensures.after c.in-Ok.statement k (c.in-Ok.ensures ∙ same) c.begin.result c.begin.ensures.known

pub go_on-requires : goal.go_on-requires
go_on-requires g c = rw (sym c.take.ensures.value ∙ c.in-None.is) at c.requires

pub returns-in-None-clause-opens : goal.returns-in-None-clause-opens
returns-in-None-clause-opens g c k said =
    let old = c.args.self.now in
    polls-so (λ p. params (g.P.Params.count p) (g.P.Params.gives_at p)) g.D.Desk.becomes c.args.stamp c.args.desk.now c.go_on.new.desk (so-stands (λ p. params (g.P.Params.count p) (g.P.Params.gives_at p)) old.asks old.reply.stage) _
    (so-goes (λ p. params (g.P.Params.count p) (g.P.Params.gives_at p)) old.asks old.reply.stage (sym c.take.ensures.value ∙ c.in-None.is)) c.take.new.self c.go_on.new.self.stage c.take.ensures.after c.go_on.result c.go_on.ensures.opens

pub returns-in-None-clause-known : goal.returns-in-None-clause-known
returns-in-None-clause-known g c k said =
    let is = sym c.take.ensures.value ∙ c.in-None.is in
    knows-so c.take.new.self c.go_on.new.self.stage c.take.ensures.after k k refl c.go_on.result (c.go_on.ensures.known k (sym (ap (λ (o : Option (StatementAsks _)). statement_so o c.args.self.now.reply.stage) is) ∙ said))

pub returns-in-None-clause-finds : goal.returns-in-None-clause-finds
returns-in-None-clause-finds g c none = absurd (known-state c.args.self.now c.requires none)
