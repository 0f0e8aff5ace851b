-- How a text is prepared that is executed.
use Rattle.std.specs.Prelude.{ℕ, List, []}
use Rattle.pg_core.specs.Lookups.{prepare}
use Rattle.pg_query.specs.Dialogue.{Dialogue}
use Rattle.pg_desk.specs.declared.statement.Described.{Described}

-- the server finds the types of all its parameters
abbrev pub prepare_text : (text : List ℕ) → Dialogue Described
prepare_text text = prepare text []
