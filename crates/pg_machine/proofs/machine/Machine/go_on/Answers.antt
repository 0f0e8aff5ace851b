use Rattle.std.proofs.Common.{subst, take, Option}
use Rattle.std.proofs.lemmas.Result.{err_from_is_err_and}
use Rattle.pg_machine.specs.declared.feeding.Fed.{Fed}
use Rattle.pg_machine.specs.Feeding.{Feeds}
use Rattle.pg_machine.proofs.machine.Machine.go_on.Goals as goal

pub returns-in_err-go_behind-in-Some : goal.returns-in_err-go_behind-in-Some
returns-in_err-go_behind-in-Some c =
    rw (err_from_is_err_and c.from_residual.result c.from_residual.ensures.1).1 (c.in_err-go_behind-in-Some.ensures c.args.startup.now)

pub returns-in-None : goal.returns-in-None
returns-in-None c =
    c.begin.ensures (take c.args.len c.args.taken.now)
    (subst (λ (fed : Option Fed). Feeds c.args.self.now (take c.args.len c.args.taken.now) fed) c.in-None.is c.requires.fed)
