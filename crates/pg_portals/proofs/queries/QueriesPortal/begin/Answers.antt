use Rattle.std.proofs.Common.{ap, ◌∙◌}
use Rattle.pg_portals.specs.Querying.{asking, queries_at}
use Rattle.pg_portals.specs.declared.queries.QueriesPortal.{QueriesPortal}
use Rattle.pg_portals.proofs.Querying.{begun}
use Rattle.pg_portals.proofs.queries.QueriesPortal.begin.Goals as goal

pub returns-in_ok-asked-in-Borrowed-clause-goes_on : goal.returns-in_ok-asked-in-Borrowed-clause-goes_on
returns-in_ok-asked-in-Borrowed-clause-goes_on c =
    begun c.args.self.now (asking c.in_ok-asked-in-Borrowed.asked) (c.in_ok-asked-in-Borrowed.ensures.asks ∙ ap (λ (q : QueriesPortal). queries_at q) c.in-Borrowed.ensures.value) c.ask.result c.ask.new.self c.ask.ensures.goes_on

pub returns-in_ok-asked-in-Owned-clause-goes_on : goal.returns-in_ok-asked-in-Owned-clause-goes_on
returns-in_ok-asked-in-Owned-clause-goes_on c =
    begun c.args.self.now (asking c.in_ok-asked-in-Owned.asked) (c.in_ok-asked-in-Owned.ensures.asks ∙ ap (λ (q : QueriesPortal). queries_at q) c.in-Owned.ensures.value) c.ask-in-Owned.result c.ask-in-Owned.new.self c.ask-in-Owned.ensures.goes_on
