use Rattle.pg_table.proofs.Holding.{emptied, left-as-before}
use Rattle.pg_table.proofs.laws.emptied_slots_hold_nothing.Goals as goal

pub returns-clause-emptied : goal.returns-clause-emptied
returns-clause-emptied c slots number = emptied slots number

pub returns-clause-others : goal.returns-clause-others
returns-clause-others c slots number other apart = left-as-before slots number other apart
