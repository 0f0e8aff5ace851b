use Rattle.pg_execute.specs.Parameters.{params}
use Rattle.pg_execute.proofs.TypedQueries.{find-message, head-message, rest-message, rows-message}
use Rattle.pg_execute.proofs.query_typed.QueryTyped+F+F+Search+P.told.Goals as goal

pub returns-in_ok-want-in-Heads : goal.returns-in_ok-want-in-Heads
returns-in_ok-want-in-Heads g c raw means h =
    head-message g.F.Finder.finds g.F.Search.Script.dialogue g.F.Search.Script.refuses g.F.Search.Script.waits (λ p. params (g.P.Params.count p) (g.P.Params.gives_at p)) c.args.self.now c.in-Heads.is raw h c.in_ok-want-in-Heads.want c.message.new.self (c.in_ok-want-in-Heads.ensures.goes_on raw means)
    c.headed.result c.headed.new.self c.headed.ensures.goes_on

pub returns-in-Rows : goal.returns-in-Rows
returns-in-Rows g c raw means =
    rows-message g.F.Finder.finds g.F.Search.Script.dialogue g.F.Search.Script.refuses g.F.Search.Script.waits (λ p. params (g.P.Params.count p) (g.P.Params.gives_at p)) c.args.self.now c.in-Rows.is raw c.message-in-Rows.result c.message-in-Rows.new.self (c.message-in-Rows.ensures.goes_on raw means)

pub returns-in_ok-want-in-Rests : goal.returns-in_ok-want-in-Rests
returns-in_ok-want-in-Rests g c raw means h =
    rest-message g.F.Finder.finds g.F.Search.Script.dialogue g.F.Search.Script.refuses g.F.Search.Script.waits (λ p. params (g.P.Params.count p) (g.P.Params.gives_at p)) c.args.self.now c.in-Rests.is raw h c.in_ok-want-in-Rests.want c.message-in-Rests.new.self (c.in_ok-want-in-Rests.ensures.goes_on raw means)
    c.rested.result c.rested.new.self c.rested.ensures.goes_on

pub returns-in_ok-want-in-Finds : goal.returns-in_ok-want-in-Finds
returns-in_ok-want-in-Finds g c raw means h =
    find-message g.F.Finder.finds g.F.Search.Script.dialogue g.F.Search.Script.refuses g.F.Search.Script.waits (λ p. params (g.P.Params.count p) (g.P.Params.gives_at p)) c.args.self.now c.in-Finds.is raw h c.in_ok-want-in-Finds.want c.message-in-Finds.new.self (c.in_ok-want-in-Finds.ensures.goes_on raw means)
    c.found.result c.found.new.self c.found.ensures.goes_on
