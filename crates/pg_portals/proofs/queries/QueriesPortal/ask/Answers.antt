use Rattle.pg_portals.specs.Querying.{asking}
use Rattle.pg_portals.proofs.Querying.{rows-go}
use Rattle.pg_portals.proofs.queries.QueriesPortal.ask.Goals as goal

pub returns-clause-goes_on : goal.returns-clause-goes_on
returns-clause-goes_on c = rw c.replace.ensures.after (rows-go c.next.new.self (asking c.args.asked) c.in_ok-want.want c.in_ok-want.ensures.goes_on)
