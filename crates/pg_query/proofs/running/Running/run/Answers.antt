use Rattle.pg_query.specs.Meaning.{meaning, meaning_at}
use Rattle.pg_query.proofs.Walking.{came-joined}
use Rattle.pg_query.proofs.running.Running.run.Goals as goal

pub returns-in-None : goal.returns-in-None
returns-in-None g c =
    came-joined g.D.Desk.becomes g.met.D.Desk.joins g.S.Script.dialogue g.S.Script.waits c.args.stamp c.args.desk.now (meaning_at g.S.Script.dialogue g.S.Script.refuses c.args.self.now c.args.want) c.settle.new.desk
    (meaning g.S.Script.dialogue c.settle.new.self) c.go_on.new.desk c.go_on.new.self c.go_on.result c.in-None.ensures.goes.goes c.go_on.ensures
