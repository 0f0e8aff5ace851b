-- What a command executes: the statement in a slot of its script, or a text.
use Rattle.std.specs.Prelude.{◌≡◌, Option, Some, None, Err}
use Rattle.pg_types.specs.declared.error.Error.TheVariants.{Missing}
use Rattle.pg_execute.specs.Executes.{on_text}
use Rattle.pg_execute.specs.declared.target.Target.{Target}
use Rattle.pg_execute.specs.declared.target.Target.TheVariants.{Query, Owned}
use Rattle.pg_states.specs.Texts.{prepare_text}
use Rattle.pg_query.specs.Dialogue.{Dialogue, Answer}
use Rattle.pg_desk.specs.declared.statement.Described.{Described}
use Rattle.pg_text.specs.declared.command.CommandTarget.{CommandTarget}
use Rattle.pg_text.specs.declared.command.CommandTarget.TheVariants.{Slot, Text}
use Rattle.pg_table.specs.Slots.{Slots, statement_in}

-- this is done with a statement, or a level; where there is none, nothing is booked
abbrev pub or_missing : {A T : Type 0} → (A → Dialogue T) → Option A → Dialogue T
or_missing body (Some x) = body x
or_missing body None = Answer (Err Missing)

-- This is done with the statement that a slot holds, or with a text, which is prepared first and closed behind.
abbrev pub on_target : {T : Type 0} → Slots → CommandTarget → (Described → Dialogue T) → Dialogue T
on_target slots (Slot slot) body = or_missing body (statement_in slots slot)
on_target slots (Text text) body = on_text (prepare_text text) body

-- what a command names is found: the statement that its slot holds, nothing where it holds none, or its text
abbrev pub IsFound : Slots → CommandTarget → Option Target → Type 0
IsFound slots (Slot slot) (Some (Owned s)) = statement_in slots slot ≡ Some s
IsFound slots (Slot slot) None = statement_in slots slot ≡ None
IsFound slots (Text text) (Some (Query query)) = query.now ≡ text
IsFound slots to found = ⊥
