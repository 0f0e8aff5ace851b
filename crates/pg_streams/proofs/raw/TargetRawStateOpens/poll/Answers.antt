use Rattle.std.proofs.Common.{sym, ◌∙◌}
use Rattle.pg_execute.specs.Parameters.{params}
use Rattle.pg_streams.proofs.Opening.{known-state}
use Rattle.pg_streams.proofs.Targets.{known-none, later-so, opens-so, query-none}
use Rattle.pg_streams.proofs.raw.TargetRawStateOpens.poll.Goals as goal

pub prepare-requires-clause-live : goal.prepare-requires-clause-live
prepare-requires-clause-live g c = (rw (sym c.take.ensures.value ∙ c.in-Some.is) at c.requires).0

pub prepare-requires-clause-alone : goal.prepare-requires-clause-alone
prepare-requires-clause-alone g c = c.take.ensures.after

pub prepare-requires-clause-asks : goal.prepare-requires-clause-asks
prepare-requires-clause-asks g c = (rw (sym c.take.ensures.value ∙ c.in-Some.is) at c.requires).1

pub returns-in-Some-clause-finds : goal.returns-in-Some-clause-finds
returns-in-Some-clause-finds g c none =
    let old = c.args.self.now in
    let new = c.prepare.new.self in
    later-so g.A.Polled.place g.A.Polled.is_live (λ p. params (g.P.Params.count p) (g.P.Params.gives_at p)) g.D.Desk.becomes c.args.stamp c.args.desk.now c.prepare.new.desk old.text c.in-Some.text old.query new.query (sym c.take.ensures.value ∙ c.in-Some.is) new.text c.prepare.result c.prepare.ensures.finds

pub poll-requires : goal.poll-requires
poll-requires g c = rw (sym c.take.ensures.value ∙ c.in-None.is) at c.requires

pub returns-in-None-clause-opens : goal.returns-in-None-clause-opens
returns-in-None-clause-opens g c k said =
    let old = c.args.self.now in
    let is = sym c.take.ensures.value ∙ c.in-None.is in
    opens-so g.A.Polled.place g.A.Polled.is_live (λ p. params (g.P.Params.count p) (g.P.Params.gives_at p)) g.D.Desk.becomes c.args.stamp c.args.desk.now c.poll.new.desk old.text c.take.new.self old.query c.poll.new.self is c.take.ensures.after k c.poll.result (c.poll.ensures.opens k (sym (query-none old.text old.query is) ∙ said))

pub returns-in-None-clause-known : goal.returns-in-None-clause-known
returns-in-None-clause-known g c k said =
    let old = c.args.self.now in
    let is = sym c.take.ensures.value ∙ c.in-None.is in
    known-none c.take.new.self c.poll.new.self c.take.ensures.after k c.poll.result (c.poll.ensures.known k (sym (query-none old.text old.query is) ∙ said))

pub returns-in-None-clause-finds : goal.returns-in-None-clause-finds
returns-in-None-clause-finds g c none =
    let old = c.args.self.now in
    let is = sym c.take.ensures.value ∙ c.in-None.is in
    absurd (known-state old.query (rw is at c.requires) (sym (query-none old.text old.query is) ∙ none))
