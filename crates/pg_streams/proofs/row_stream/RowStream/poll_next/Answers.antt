use Rattle.pg_streams.proofs.Brought.{live-gives, taken-gives}
use Rattle.pg_streams.proofs.row_stream.RowStream.poll_next.Goals as goal

pub returns-then-not-self-clause-gives : goal.returns-then-not-self-clause-gives
returns-then-not-self-clause-gives g c on =
    live-gives g.D.Desk.becomes c.args.stamp c.args.desk.now c.poll_next.new.desk c.args.self.now (record c.args.self.now { items = c.poll_next.new.self }) c.if-not-self.true c.if-not-self.true c.poll_next.result (c.poll_next.ensures.gives on)

pub returns-clause-gives : goal.returns-clause-gives
returns-clause-gives g c on = taken-gives g.D.Desk.becomes c.args.stamp g.met.D.Desk.stays c.args.desk.now c.args.self.now c.next_taken.new.self c.next_taken.ensures.taken c.next_taken.result c.next_taken.ensures.gives
