-- Rows that are answered at once.
use Rattle.std.specs.Prelude.{Option, Some, None, Ok, Err}
use Rattle.pg_types.specs.declared.error.Error.{Error}
use Rattle.pg_types.specs.declared.error.Error.TheVariants.{Closed}
use Rattle.pg_query.specs.Dialogue.{Dialogue, Answer}
use Rattle.pg_core.specs.Lookups.{FieldRows}
use Rattle.pg_search.specs.declared.asks_fields.GivenRows.{GivenRows}

-- the rows, once
abbrev pub given_once : Option FieldRows → Dialogue FieldRows
given_once (Some rows) = Answer (Ok rows)
given_once None = Answer (Err Closed)

-- what is still answered
abbrev pub given_at : GivenRows → Dialogue FieldRows
given_at s = given_once s.rows

-- it sends and asks nothing that a desk could refuse
abbrev pub given_refuses : GivenRows → Error → Dialogue FieldRows
given_refuses s e = Answer (Err e)
