use Rattle.pg_wire.specs.Giving.{entries_of}
use Rattle.pg_wire.proofs.GivingLaws.{over-test}
use Rattle.pg_wire.proofs.giving.Giving.is_over.Goals as goal

pub returns : goal.returns
returns c = over-test (entries_of c.args.self.now) c.args.self.now.entry c.args.self.now.at c.args.self.now.left c.requires
