use Rattle.pg_portals.proofs.Querying.{rows-message, rows-there}
use Rattle.pg_portals.proofs.queries.QueriesPortalScript.message.Goals as goal

pub returns-in-Asks-clause-goes_on : goal.returns-in-Asks-clause-goes_on
returns-in-Asks-clause-goes_on c raw means = rows-message c.args.self.now c.in-Asks.asked c.in-Asks.is raw c.message.result c.message.new.self (c.message.ensures.goes_on raw means)

pub returns-in-Asks-clause-stops : goal.returns-in-Asks-clause-stops
returns-in-Asks-clause-stops c raw means = rows-there c.args.self.now c.in-Asks.asked c.in-Asks.is (c.message.ensures.stops raw means)
