use Rattle.pg_machine.proofs.ServedLaws.{read-answers}
use Rattle.pg_machine.proofs.machine_link.MachineLinkLink.read.Goals as goal

pub returns-clause-answer : goal.returns-clause-answer
returns-clause-answer c = (read-answers c.args.self.now c.give.new.self c.give.new.out c.give.result c.give.ensures.kept c.give.ensures.exact).0

pub returns-clause-keeps : goal.returns-clause-keeps
returns-clause-keeps c = (read-answers c.args.self.now c.give.new.self c.give.new.out c.give.result c.give.ensures.kept c.give.ensures.exact).1

pub returns-clause-promise : goal.returns-clause-promise
returns-clause-promise c = (read-answers c.args.self.now c.give.new.self c.give.new.out c.give.result c.give.ensures.kept c.give.ensures.exact).2
