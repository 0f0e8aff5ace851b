use Rattle.pg_machine.proofs.ServedLaws.{write-answers}
use Rattle.pg_machine.proofs.machine_link.MachineLinkLink.write.Goals as goal

pub returns-clause-answer : goal.returns-clause-answer
returns-clause-answer c = (write-answers c.args.self.now c.take_up.new.self c.args.bytes.now c.take_up.result c.take_up.ensures.room c.requires c.take_up.ensures.exact c.take_up.ensures.course).0

pub returns-clause-keeps : goal.returns-clause-keeps
returns-clause-keeps c = (write-answers c.args.self.now c.take_up.new.self c.args.bytes.now c.take_up.result c.take_up.ensures.room c.requires c.take_up.ensures.exact c.take_up.ensures.course).1

pub returns-clause-promise : goal.returns-clause-promise
returns-clause-promise c = (write-answers c.args.self.now c.take_up.new.self c.args.bytes.now c.take_up.result c.take_up.ensures.room c.requires c.take_up.ensures.exact c.take_up.ensures.course).2
