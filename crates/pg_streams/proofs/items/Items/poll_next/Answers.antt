use Rattle.pg_streams.specs.Collecting.{family_behind, family_of}
use Rattle.pg_streams.proofs.Going.{comes-told, gives-joined}
use Rattle.pg_streams.proofs.items.Items.poll_next.Goals as goal

pub returns-in-Ready-Ok-clause-gives : goal.returns-in-Ready-Ok-clause-gives
returns-in-Ready-Ok-clause-gives g c live =
    let from = family_of g.G.Giving.tells g.G.Giving.hears c.args.self.now in
    gives-joined g.met.D.Desk.joins g.G.Giving.tells g.G.Giving.with_item g.G.Giving.at_end c.args.stamp c.args.desk.now from c.go_on.new.desk
    (family_behind g.G.Giving.tells g.G.Giving.with_item g.G.Giving.at_end c.in-Ready-Ok.told c.go_on.new.self)
    (comes-told g.D.Desk.becomes g.G.Giving.tells g.G.Giving.with_item g.G.Giving.at_end c.args.stamp c.args.desk.now from c.go_on.new.desk c.go_on.new.self c.in-Ready-Ok.field-0 c.in-Ready-Ok.told c.in-Ready-Ok.field-0-is c.in-Ready-Ok.ensures.comes)
    c.settle.new.desk c.settle.new.self c.settle.result c.settle.ensures.gives
