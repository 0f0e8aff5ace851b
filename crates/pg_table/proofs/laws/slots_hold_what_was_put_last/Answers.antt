use Rattle.pg_table.proofs.Holding.{held, holds-as-before}
use Rattle.pg_table.proofs.laws.slots_hold_what_was_put_last.Goals as goal

pub returns-clause-held : goal.returns-clause-held
returns-clause-held c slots number statement = held slots number statement

pub returns-clause-others : goal.returns-clause-others
returns-clause-others c slots number other statement apart = holds-as-before slots number other statement apart
