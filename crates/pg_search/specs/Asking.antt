-- How the statement that looks something up comes, and what it is asked.
use Rattle.std.specs.Prelude.{ℕ, ◌+◌, ◌^◌, List, [], length, true, false, Option, Some, None, Ok}
use Rattle.pg_desk.specs.declared.statement.Described.{Described as Statement}
use Rattle.pg_desk.specs.declared.statement.Lookup.{Lookup}
use Rattle.pg_query.specs.Dialogue.{Dialogue, Answer}
use Rattle.pg_query.specs.Reading.{reads}
use Rattle.pg_core.specs.Behind.{behind}
use Rattle.pg_core.specs.Sequences.{then_do}
use Rattle.pg_core.specs.Cells.{value_at, text_in}
use Rattle.pg_core.specs.Lookups.{TypeRow, FieldRows, type_row, prepared, or_second, asks_oid}
use Rattle.pg_core.specs.QueryReplies.{first_row, all_rows}

-- the statement that is kept, or else one that is prepared
abbrev pub or_first : Lookup → Option Statement → Dialogue Statement
or_first which (Some s) = Answer (Ok s)
or_first which None = behind [] (prepared which true) (or_second which)

-- a type's own row, by this statement
abbrev pub row_by : ℕ → Statement → Dialogue TypeRow
row_by oid s = asks_oid s oid (reads true (first_row (type_row s.columns) (length s.columns)))

-- the labels of an enumeration, by this statement
abbrev pub labels_by : ℕ → Statement → Dialogue (List (List ℕ))
labels_by oid s = asks_oid s oid (reads false (all_rows (λ cells. value_at text_in s.columns cells 0) (length s.columns)))

-- the rows of a relation's columns, by this statement
abbrev pub fields_by : ℕ → Statement → Dialogue FieldRows
fields_by relation s =
    then_do (asks_oid s relation (reads false (all_rows (λ cells. Ok cells) (length s.columns)))) (λ rows. Answer (Ok (record { columns = s.columns; rows = rows })))

-- the most steps in which a lookup text is prepared
abbrev pub prepare_steps : ℕ
prepare_steps = 3 + 2 ^ 64

-- the most steps behind the first text
abbrev pub second_steps : ℕ
second_steps = prepare_steps + 1

-- the most steps behind the answer of the desk
abbrev pub first_steps : ℕ
first_steps = prepare_steps + second_steps

-- the most steps up to the statement
abbrev pub lookup_steps : ℕ
lookup_steps = 1 + first_steps

-- the most steps of all
abbrev pub ask_steps : ℕ
ask_steps = lookup_steps + 2
