use Rattle.pg_execute.proofs.AsWide.{all-make, first-make}
use Rattle.pg_execute.proofs.widths.rows_of_queries_have_their_columns.Goals as goal

pub returns-clause-all : goal.returns-clause-all
returns-clause-all c how s ms set told = all-make how s ms set told

pub returns-clause-first : goal.returns-clause-first
returns-clause-first c take s ms set told = first-make take s ms set told
