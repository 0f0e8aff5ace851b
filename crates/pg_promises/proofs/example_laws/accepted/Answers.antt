use Rattle.pg_promises.proofs.Worked.{beside, by-slot, copy, copy-late, no-transaction, queries, shared}
use Rattle.pg_promises.proofs.example_laws.accepted.Goals as goal

pub returns-clause-by_slot : goal.returns-clause-by_slot
returns-clause-by_slot c = by-slot

pub returns-clause-shared : goal.returns-clause-shared
returns-clause-shared c = shared

pub returns-clause-copy : goal.returns-clause-copy
returns-clause-copy c = copy

pub returns-clause-copy_late : goal.returns-clause-copy_late
returns-clause-copy_late c = copy-late

pub returns-clause-beside : goal.returns-clause-beside
returns-clause-beside c = beside

pub returns-clause-no_transaction : goal.returns-clause-no_transaction
returns-clause-no_transaction c = no-transaction

pub returns-clause-queries : goal.returns-clause-queries
returns-clause-queries c = queries
