use Rattle.pg_wire.proofs.StreamLaws.{reads-left}
use Rattle.pg_wire.proofs.memory_stream.MemorySourceSource.read.Goals as goal

pub returns-clause-answer : goal.returns-clause-answer
returns-clause-answer c = reads-left c.args.self.now c.give.new.self c.give.new.out c.give.result c.give.ensures
