use Rattle.pg_table.proofs.Mapped.{gives-up-mapped}
use Rattle.pg_table.proofs.telling.given_up.Goals as goal

pub returns : goal.returns
returns g c =
    gives-up-mapped (g.M.Tells.tells c.args.tells) g.D.Desk.becomes c.args.stamp c.args.desk.now (g.S.Polled.place c.args.state.value) c.hang_up.new.desk
    c.hang_up.result (rw c.into_inner.ensures at c.hang_up.ensures)
