use Rattle.pg_rows.proofs.Got.{got-value}
use Rattle.pg_rows.proofs.row.Row.get.Goals as goal

pub returns-in-Ok : goal.returns-in-Ok
returns-in-Ok g c =
    got-value g.T.FromSql.owns_memory g.T.FromSql.stands_for g.T.FromSql.spelled g.T.FromSql.refused c.args.self.now c.args.index c.in-Ok.value c.requires c.in-Ok.ensures
