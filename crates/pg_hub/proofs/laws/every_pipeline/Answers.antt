use Rattle.pg_desk.specs.History.{start}
use Rattle.pg_desk.specs.Kept.{legal-if-exact}
use Rattle.pg_desk.proofs.Soundness.{legal-sound}
use Rattle.pg_hub.proofs.laws.every_pipeline.Goals as goal

pub returns-clause-legal : goal.returns-clause-legal
returns-clause-legal c n m new now events f b = legal-if-exact (start n m) events (b.stands (start n m) f).0

pub returns-clause-sound : goal.returns-clause-sound
returns-clause-sound c n m new now events f b = legal-sound n m events (legal-if-exact (start n m) events (b.stands (start n m) f).0)
