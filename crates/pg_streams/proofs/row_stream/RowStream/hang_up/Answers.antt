use Rattle.pg_streams.proofs.Brought.{live-given-up, taken-given-up}
use Rattle.pg_streams.proofs.row_stream.RowStream.hang_up.Goals as goal

pub returns-then-taken-clause-gives_up : goal.returns-then-taken-clause-gives_up
returns-then-taken-clause-gives_up g c live = taken-given-up g.D.Desk.becomes c.args.stamp g.met.D.Desk.stays c.args.desk.now c.args.self c.if-taken.true

pub returns-clause-gives_up : goal.returns-clause-gives_up
returns-clause-gives_up g c live = live-given-up g.D.Desk.becomes c.args.stamp c.args.desk.now c.hang_up.new.desk c.args.self c.if-taken.false c.hang_up.result (c.hang_up.ensures.gives_up live)
