use Rattle.std.proofs.Common.{sym}
use Rattle.pg_search.proofs.Keepings.{keeps-asks}
use Rattle.pg_search.proofs.kept.KeepsScript.next.Goals as goal

pub returns-in-Some-clause-goes_on : goal.returns-in-Some-clause-goes_on
returns-in-Some-clause-goes_on c =
    let old = c.args.self.now in
    keeps-asks old.which old.statement c.take.new.self c.in-Some.statement (sym c.in-Some.ensures.value) c.in-Some.ensures.after
