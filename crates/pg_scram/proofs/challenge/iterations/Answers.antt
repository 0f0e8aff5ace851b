use Rattle.std.proofs.Common.{sym}
use Rattle.pg_scram.proofs.Digits.{digits-utf8, uncounted}
use Rattle.pg_scram.proofs.challenge.iterations.Goals as goal

pub returns-in_default : goal.returns-in_default
returns-in_default c = absurd (c.in_default.ensures.cases.0 (digits-utf8 c.args.digits.now c.requires))

pub returns-in_default-parse-2 : goal.returns-in_default-parse-2
returns-in_default-parse-2 c =
    sym (uncounted c.args.digits.now c.requires (rw c.in-Ok.ensures.cases.0 at c.in_default-parse.ensures.value.0))
