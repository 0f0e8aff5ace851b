use Rattle.pg_table.proofs.Told.{desk-tells}
use Rattle.pg_table.proofs.isolation_laws.what_desks_tell.Goals as goal

pub returns : goal.returns
returns g c speech scripts turns answers course run = desk-tells course.asked run.told
