use Rattle.pg_streams.proofs.Closing.{given-up}
use Rattle.pg_streams.proofs.items.Items.hang_up.Goals as goal

pub returns-clause-gives_up : goal.returns-clause-gives_up
returns-clause-gives_up g c live = given-up g.D.Desk.becomes g.met.D.Desk.stays g.met.D.Desk.joins c.args.stamp c.args.desk.now c.args.self.id c.args.self.close c.hang_up.new.desk c.hang_up.result c.hang_up.ensures
