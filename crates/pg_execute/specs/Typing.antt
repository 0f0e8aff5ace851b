-- The parts of a typed query, as their scripts have them.
use Rattle.std.specs.Prelude.{ℕ, List, false, map, Option, Some, None, Result, Ok, Err}
use Rattle.pg_spec.specs.Bodies.{Field}
use Rattle.pg_types.specs.declared.pg_type.PgType.{PgType}
use Rattle.pg_types.specs.declared.error.Error.{Error}
use Rattle.pg_query.specs.Dialogue.{Dialogue, Answer}
use Rattle.pg_query.specs.Reading.{reads}
use Rattle.pg_core.specs.Sequences.{then_do}
use Rattle.pg_execute.specs.Executes.{whole_rows}
use Rattle.pg_execute.specs.Typed.{takes_rest, typed_rows, unnamed}
use Rattle.pg_execute.specs.declared.got.Got.{Got}
use Rattle.pg_execute.specs.declared.how_many.HowMany.{HowMany}
use Rattle.pg_execute.specs.declared.result_set.ResultSet.{ResultSet}

-- what is made of rows that were taken
abbrev pub made_by : {A : Type 0} → (Got → Result A Error) → Result Got Error → Result A Error
made_by makes (Ok g) = makes g
made_by makes (Err e) = Err e

-- the same once the types of their columns are found
abbrev pub made : List Field → List PgType → Result Got Error → Result ResultSet Error
made fields types = made_by (whole_rows (unnamed fields types))

-- the types are found, and that is made
abbrev pub finds_typed : (List ℕ → Dialogue (List PgType)) → List Field → Result Got Error → Dialogue ResultSet
finds_typed find fields told = then_do (find (map (λ f. f.type_oid) fields)) (λ types. Answer (made fields types told))

-- where the type of each column is known the rows are read on, and otherwise they wait
abbrev pub by_known : (List ℕ → Dialogue (List PgType)) → HowMany → List Field → Option (List PgType) → Dialogue ResultSet
by_known find how fields (Some types) = reads false (typed_rows how fields types)
by_known find how fields None = takes_rest find how fields
