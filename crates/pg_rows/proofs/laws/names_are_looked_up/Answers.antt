use Rattle.pg_rows.proofs.LookupLaws.{named-by-none, named-exactly, named-in-any-case}
use Rattle.pg_rows.proofs.laws.names_are_looked_up.Goals as goal

pub returns-clause-exact : goal.returns-clause-exact
returns-clause-exact c = named-exactly

pub returns-clause-any_case : goal.returns-clause-any_case
returns-clause-any_case c = named-in-any-case

pub returns-clause-none : goal.returns-clause-none
returns-clause-none c = named-by-none
