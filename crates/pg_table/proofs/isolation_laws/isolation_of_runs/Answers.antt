use Rattle.pg_table.proofs.Isolated.{isolated}
use Rattle.pg_table.proofs.isolation_laws.isolation_of_runs.Goals as goal

pub returns : goal.returns
returns g c meaning named is scripts others turns more one two a b x y = isolated meaning named is scripts others turns more one two a b x y
