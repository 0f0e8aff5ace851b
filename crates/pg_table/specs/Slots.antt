-- What a script keeps between its commands: its prepared statements, by the numbers of their slots.
use Rattle.std.specs.Prelude.{ℕ, ◌==◌, List, [], ◌∷◌, ◌++◌, filter, not, if◌then◌else◌, Option, Some, None}
use Rattle.pg_desk.specs.declared.statement.Described.{Described as Statement}
use Rattle.pg_table.specs.declared.slots.Slot.{Slot}

-- the slots of a script that hold a statement
abbrev pub Slots : Type 0
Slots = List Slot

-- all of them but this one
abbrev pub without : Slots → ℕ → Slots
without slots number = filter (λ slot. not (slot.number == number)) slots

-- with this statement in this slot; a former one is forgotten
abbrev pub with_statement : Slots → ℕ → Statement → Slots
with_statement slots number statement = without slots number ++ record { number = number; statement = statement } ∷ []

-- the statement that a slot holds
abbrev pub statement_in : Slots → ℕ → Option Statement
statement_in [] number = None
statement_in (slot ∷ slots) number = if slot.number == number then Some slot.statement else statement_in slots number
