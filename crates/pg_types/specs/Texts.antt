-- The text of a statement.
use Rattle.std.specs.Prelude.{ℕ, List}
use Rattle.pg_types.specs.declared.sql.Sql.{Sql}
use Rattle.pg_types.specs.declared.sql.Sql.TheVariants.{Borrowed, Owned}

-- its bytes
abbrev pub sql_text : Sql → List ℕ
sql_text (Borrowed text) = text.now
sql_text (Owned text) = text
