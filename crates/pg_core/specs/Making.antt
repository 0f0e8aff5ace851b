-- A statement that the server described, made once its types are found.
use Rattle.std.specs.Prelude.{List, Ok}
use Rattle.pg_types.specs.declared.pg_type.PgType.{PgType}
use Rattle.pg_desk.specs.declared.statement.Described.{Described as Statement}
use Rattle.pg_query.specs.Dialogue.{Dialogue, Answer}
use Rattle.pg_core.specs.Sequences.{then_do}
use Rattle.pg_core.specs.Prepares.{NewStatement, statement_of}

-- its types are found so, and then it is made of them
abbrev pub makes : NewStatement → Dialogue (List PgType) → Dialogue Statement
makes new found = then_do found (λ types. Answer (Ok (statement_of new types)))
