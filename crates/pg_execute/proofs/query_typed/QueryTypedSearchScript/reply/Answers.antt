use Rattle.pg_execute.specs.Parameters.{params}
use Rattle.pg_execute.proofs.TypedQueries.{find-heard, find-reply, know-heard, know-reply, steps-at}
use Rattle.pg_execute.proofs.query_typed.QueryTypedSearchScript.reply.Goals as goal

pub returns-in_ok-want-in-Knows-clause-goes_on : goal.returns-in_ok-want-in-Knows-clause-goes_on
returns-in_ok-want-in-Knows-clause-goes_on g c h =
    know-reply g.F.Finder.finds g.F.Search.Script.dialogue g.F.Search.Script.refuses g.F.Search.Script.waits (λ p. params (g.P.Params.count p) (g.P.Params.gives_at p)) c.args.self.now c.in-Knows.is c.args.reply h c.in_ok-want-in-Knows.want c.reply.new.self c.in_ok-want-in-Knows.ensures.goes_on
    c.known.result c.known.new.self c.known.ensures.goes_on

pub returns-in_ok-want-in-Knows-clause-falls : goal.returns-in_ok-want-in-Knows-clause-falls
returns-in_ok-want-in-Knows-clause-falls g c h =
    steps-at g.F.Finder.most g.F.Search.Script.steps c.args.self.now _ c.in-Knows.is _ c.known.result
    (c.known.ensures.falls _ (c.in_ok-want-in-Knows.ensures.falls (know-heard g.F.Finder.finds g.F.Search.Script.dialogue g.F.Search.Script.refuses g.F.Search.Script.waits (λ p. params (g.P.Params.count p) (g.P.Params.gives_at p)) c.args.self.now c.in-Knows.is h)))

pub returns-in_ok-want-in-Finds-clause-goes_on : goal.returns-in_ok-want-in-Finds-clause-goes_on
returns-in_ok-want-in-Finds-clause-goes_on g c h =
    find-reply g.F.Finder.finds g.F.Search.Script.dialogue g.F.Search.Script.refuses g.F.Search.Script.waits (λ p. params (g.P.Params.count p) (g.P.Params.gives_at p)) c.args.self.now c.in-Finds.is c.args.reply h c.in_ok-want-in-Finds.want c.reply-in-Finds.new.self c.in_ok-want-in-Finds.ensures.goes_on
    c.found.result c.found.new.self c.found.ensures.goes_on

pub returns-in_ok-want-in-Finds-clause-falls : goal.returns-in_ok-want-in-Finds-clause-falls
returns-in_ok-want-in-Finds-clause-falls g c h =
    steps-at g.F.Finder.most g.F.Search.Script.steps c.args.self.now _ c.in-Finds.is _ c.found.result
    (c.found.ensures.falls _ (c.in_ok-want-in-Finds.ensures.falls (find-heard g.F.Finder.finds g.F.Search.Script.dialogue g.F.Search.Script.refuses g.F.Search.Script.waits (λ p. params (g.P.Params.count p) (g.P.Params.gives_at p)) c.args.self.now c.in-Finds.is h)))
