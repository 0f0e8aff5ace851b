-- Statements that the desk keeps to look something up.
use Rattle.std.specs.Prelude.{ℕ, Bool, Option, Some, None, Ok, Err, if◌then◌else◌}
use Rattle.pg_types.specs.declared.error.Error.{Error}
use Rattle.pg_types.specs.declared.error.Error.TheVariants.{Closed}
use Rattle.pg_desk.specs.declared.statement.Described.{Described as Statement}
use Rattle.pg_desk.specs.declared.statement.Lookup.{Lookup}
use Rattle.pg_query.specs.declared.desk_call.DeskCall.TheVariants as desk_call
use Rattle.pg_query.specs.declared.desk_call.Reply.{Reply}
use Rattle.pg_query.specs.declared.desk_call.Reply.TheVariants as reply
use Rattle.pg_query.specs.Dialogue.{Dialogue, Answer, Hear}
use Rattle.pg_core.specs.Composing.{asks_desk}
use Rattle.pg_core.specs.Lookups.{keeps_statement, statement_told}
use Rattle.pg_search.specs.declared.kept.Kept.{Kept}
use Rattle.pg_search.specs.declared.kept.Keeps.{Keeps}

-- ---- the statement that is kept

-- what is told is the answer
abbrev pub kept_told : Reply → Dialogue (Option Statement)
kept_told (reply.Statement found) = Answer (Ok found)
kept_told other = Answer (Err Closed)

-- the desk is asked for the statement that it keeps to look this up
abbrev pub kept : Lookup → Dialogue (Option Statement)
kept which = asks_desk (desk_call.LookupOf which) kept_told

-- what is still asked and answered
abbrev pub kept_at : Kept → Dialogue (Option Statement)
kept_at s = if s.hears then Hear kept_told else kept s.which

-- where the desk refuses the question, its error is the answer
abbrev pub kept_refuses : Kept → Error → Dialogue (Option Statement)
kept_refuses s e = Answer (Err e)

-- how many steps are left
abbrev pub kept_steps : Kept → ℕ
kept_steps s = if s.hears then 0 else 1

-- ---- a statement that is to be kept

-- the desk was asked, or is to be
abbrev pub keeps_from : Lookup → Option Statement → Dialogue Statement
keeps_from which (Some s) = keeps_statement which s
keeps_from which None = Hear statement_told

-- what is still asked and answered
abbrev pub keeps_at : Keeps → Dialogue Statement
keeps_at k = keeps_from k.which k.statement

-- where the desk refuses the question, its error is the answer
abbrev pub keeps_refuses : Keeps → Error → Dialogue Statement
keeps_refuses k e = Answer (Err e)

-- how many steps are left, by what is to be kept
abbrev pub steps_to_keep : Option Statement → ℕ
steps_to_keep (Some s) = 1
steps_to_keep None = 0

-- the same of the script
abbrev pub keeps_steps : Keeps → ℕ
keeps_steps k = steps_to_keep k.statement
