use Rattle.std.proofs.Common.{Option, sym, subst}
use Rattle.pg_query.specs.Meaning.{GivesUp}
use Rattle.pg_execute.specs.Parameters.{Params, params}
use Rattle.pg_streams.specs.States.{place_so, queried_and_closed}
use Rattle.pg_streams.specs.declared.raw.TextAsks.{TextAsks}
use Rattle.pg_streams.proofs.Behind.{gives-up-whole}
use Rattle.pg_streams.proofs.Texts.{queried-deaf, queried-fresh}
use Rattle.pg_streams.proofs.raw.TargetRawStateOpens.hang_up.Goals as goal

pub hang_up-requires : goal.hang_up-requires
hang_up-requires g c = (rw c.in-Some.is at c.requires).0

pub returns-in-Some : goal.returns-in-Some
returns-in-Some g c =
    let vs : Params = params (g.P.Params.count c.in-Some.text.values) (g.P.Params.gives_at c.in-Some.text.values) in
    subst (λ (text : Option (TextAsks _ _)). GivesUp g.D.Desk.becomes c.args.stamp c.args.desk.now (place_so g.A.Polled.place (λ p. params (g.P.Params.count p) (g.P.Params.gives_at p)) text c.args.self.query) c.hang_up.new.desk c.hang_up.result) (sym c.in-Some.is)
    (gives-up-whole (queried_and_closed vs) (queried-deaf vs) g.D.Desk.becomes c.args.stamp c.args.desk.now (g.A.Polled.place c.in-Some.text.prepare) c.hang_up.new.desk (queried-fresh vs) c.hang_up.result c.hang_up.ensures)

pub hang_up-requires-in-None : goal.hang_up-requires-in-None
hang_up-requires-in-None g c = rw c.in-None.is at c.requires

pub returns-in-None : goal.returns-in-None
returns-in-None g c =
    subst (λ (text : Option (TextAsks _ _)). GivesUp g.D.Desk.becomes c.args.stamp c.args.desk.now (place_so g.A.Polled.place (λ p. params (g.P.Params.count p) (g.P.Params.gives_at p)) text c.args.self.query) c.hang_up-in-None.new.desk c.hang_up-in-None.result) (sym c.in-None.is) c.hang_up-in-None.ensures
