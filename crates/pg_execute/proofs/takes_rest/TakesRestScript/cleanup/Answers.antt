use Rattle.std.proofs.Common.{◌≡◌, IfOk, List, subst}
use Rattle.pg_query.specs.declared.desk_call.Cleanup.{Cleanup}
use Rattle.pg_execute.proofs.Taking.{rest-left}
use Rattle.pg_execute.proofs.takes_rest.TakesRestScript.cleanup.Goals as goal

pub returns : goal.returns
returns c h = subst (λ (l : List Cleanup). IfOk c.only_release.result (λ left. left.items ≡ l)) (rest-left c.args.self.now h) c.only_release.ensures
