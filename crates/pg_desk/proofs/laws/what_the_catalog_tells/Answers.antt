use Rattle.pg_desk.proofs.Cached.{told-type, told-statement}
use Rattle.pg_desk.proofs.laws.what_the_catalog_tells.Goals as goal

pub returns-clause-types : goal.returns-clause-types
returns-clause-types c = told-type

pub returns-clause-lookups : goal.returns-clause-lookups
returns-clause-lookups c = told-statement
