use Rattle.pg_machine.specs.MachineTexts.{said_in}
use Rattle.pg_machine.specs.Readings.{said_of}
use Rattle.pg_machine.proofs.AnswerLaws.{answered, refused}
use Rattle.pg_machine.proofs.read.machine_of.Goals as goal

pub returns-in-Ok : goal.returns-in-Ok
returns-in-Ok c = answered (said_in c.args.text.now) (said_of c.in-Ok.draft) c.finish.result c.in-Ok.ensures.said c.finish.ensures

pub returns-in-Err : goal.returns-in-Err
returns-in-Err c = refused (said_in c.args.text.now) c.in-Err.fault c.in-Err.ensures.said
