-- Where a level that is given up stands (PostgreSQL documentation, "ROLLBACK", "ROLLBACK TO SAVEPOINT", "Simple Query").
use Rattle.std.specs.Prelude.{ℕ, List, Ok, Err}
use Rattle.pg_types.specs.declared.error.Error.{Error}
use Rattle.pg_spec.specs.Frames.{query_frame}
use Rattle.pg_query.specs.Dialogue.{Dialogue, Answer}
use Rattle.pg_core.specs.Composing.{or_encode}
use Rattle.pg_execute.specs.Executes.{sends}
use Rattle.pg_table.specs.declared.abandons.Abandons.{Abandons}
use Rattle.pg_table.specs.declared.abandons.Abandons.TheVariants.{Begins, Done}

-- a text is sent, and nobody reads the reply
abbrev pub abandons_by : (text : List ℕ) → Dialogue (Unit {0})
abandons_by text = sends (or_encode (query_frame text))

-- what is asked and answered from here on
abbrev pub dialogue_of : Abandons → Dialogue (Unit {0})
dialogue_of (Begins text) = abandons_by text
dialogue_of Done = Answer (Ok tt)

-- where the desk refuses the request, its error is the answer
abbrev pub refuses_of : Abandons → Error → Dialogue (Unit {0})
refuses_of s e = Answer (Err e)

-- how many actions are left
abbrev pub steps_of : Abandons → ℕ
steps_of (Begins text) = 1
steps_of Done = 0
