use Rattle.pg_execute.specs.Parameters.{params}
use Rattle.pg_execute.proofs.TypedQueries.{refused-at}
use Rattle.pg_execute.proofs.query_typed.QueryTypedSearchScript.refused.Goals as goal

pub returns-in_ok-want-in-Heads-clause-goes_on : goal.returns-in_ok-want-in-Heads-clause-goes_on
returns-in_ok-want-in-Heads-clause-goes_on g c =
    refused-at g.F.Finder.finds g.F.Search.Script.dialogue g.F.Search.Script.refuses g.F.Search.Script.waits (λ p. params (g.P.Params.count p) (g.P.Params.gives_at p)) c.args.self.now _ c.in-Heads.is c.args.error c.headed.result c.headed.new.self (c.headed.ensures.goes_on _ c.in_ok-want-in-Heads.ensures.goes_on)

pub returns-in_ok-want-in-Knows-clause-goes_on : goal.returns-in_ok-want-in-Knows-clause-goes_on
returns-in_ok-want-in-Knows-clause-goes_on g c =
    refused-at g.F.Finder.finds g.F.Search.Script.dialogue g.F.Search.Script.refuses g.F.Search.Script.waits (λ p. params (g.P.Params.count p) (g.P.Params.gives_at p)) c.args.self.now _ c.in-Knows.is c.args.error c.known.result c.known.new.self (c.known.ensures.goes_on _ c.in_ok-want-in-Knows.ensures.goes_on)

pub returns-in_ok-want-in-Rests-clause-goes_on : goal.returns-in_ok-want-in-Rests-clause-goes_on
returns-in_ok-want-in-Rests-clause-goes_on g c =
    refused-at g.F.Finder.finds g.F.Search.Script.dialogue g.F.Search.Script.refuses g.F.Search.Script.waits (λ p. params (g.P.Params.count p) (g.P.Params.gives_at p)) c.args.self.now _ c.in-Rests.is c.args.error c.rested.result c.rested.new.self (c.rested.ensures.goes_on _ c.in_ok-want-in-Rests.ensures.goes_on)

pub returns-in_ok-want-in-Finds-clause-goes_on : goal.returns-in_ok-want-in-Finds-clause-goes_on
returns-in_ok-want-in-Finds-clause-goes_on g c =
    refused-at g.F.Finder.finds g.F.Search.Script.dialogue g.F.Search.Script.refuses g.F.Search.Script.waits (λ p. params (g.P.Params.count p) (g.P.Params.gives_at p)) c.args.self.now _ c.in-Finds.is c.args.error c.found.result c.found.new.self (c.found.ensures.goes_on _ c.in_ok-want-in-Finds.ensures.goes_on)
