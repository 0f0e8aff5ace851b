use Rattle.pg_execute.proofs.Taking.{reads-rest}
use Rattle.pg_execute.proofs.takes_rest.TakesRestScript.next.Goals as goal

pub returns-then-not-self-clause-goes_on : goal.returns-then-not-self-clause-goes_on
returns-then-not-self-clause-goes_on c = reads-rest c.args.self.now c.if-not-self.true
