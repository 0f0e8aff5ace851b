use Rattle.pg_core.proofs.Searching.{last-field, next-field, next-oid, waits, wrapped}
use Rattle.pg_core.proofs.lookup_laws.a_search_is_a_stack.Goals as goal

pub returns-clause-wrapped : goal.returns-clause-wrapped
returns-clause-wrapped c = wrapped

pub returns-clause-last_field : goal.returns-clause-last_field
returns-clause-last_field c = last-field

pub returns-clause-next_field : goal.returns-clause-next_field
returns-clause-next_field c = next-field

pub returns-clause-next_oid : goal.returns-clause-next_oid
returns-clause-next_oid c = next-oid

pub returns-clause-waits : goal.returns-clause-waits
returns-clause-waits c = waits
