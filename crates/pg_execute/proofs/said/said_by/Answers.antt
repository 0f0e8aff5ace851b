use Rattle.std.proofs.Common.{◌≡◌, Bool, Ok, Err, IfOk, false, sym, subst}
use Rattle.pg_wire.specs.Messages.{message_view}
use Rattle.pg_query.specs.Messages.{Means}
use Rattle.pg_core.specs.QueryReplies as spec
use Rattle.pg_execute.specs.Saying.{said_view}
use Rattle.pg_execute.proofs.Sayings.{says-read, says-malformed}
use Rattle.pg_execute.proofs.said.said_by.Goals as goal

pub returns-else-bound-clause-says : goal.returns-else-bound-clause-says
returns-else-bound-clause-says c raw means =
    let meant : Means raw (Ok c.in-Ok.message) = rw c.in-Ok.is at means in
    subst (λ (b : Bool). IfOk c.said_before.result (λ said. said_view said ≡ spec.said_by b c.args.columns raw)) (sym c.if-bound.false)
    (says-read false c.args.columns raw (message_view c.in-Ok.message) said_view c.said_before.result meant (c.said_before.ensures c.args.columns))

pub returns-in-Some-clause-says : goal.returns-in-Some-clause-says
returns-in-Some-clause-says c raw means =
    let malformed : Means raw (Err c.in-Err.fault) = rw c.in-Err.is at means in
    says-malformed c.args.bound c.args.columns raw c.in-Err.fault c.in-Some.error malformed c.in-Some.ensures
