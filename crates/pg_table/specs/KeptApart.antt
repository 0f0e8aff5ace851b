-- What is promised of the commands of the table in a session that has run.
use Rattle.std.specs.Prelude.{ℕ, List}
use Rattle.pg_spec.specs.Courses.{Course}
use Rattle.pg_spec.specs.Meanings.{HasRun}
use Rattle.pg_spec.specs.Simples.{Headline}
use Rattle.pg_query.specs.declared.desk_call.DeskCall.{DeskCall}
use Rattle.pg_query.specs.declared.desk_call.Reply.{Reply}
use Rattle.pg_text.specs.declared.command.Answer.{Answer}
use Rattle.pg_text.specs.declared.command.Command.{Command}
use Rattle.pg_session.specs.Speeches.{meaning_of}
use Rattle.pg_table.specs.Table.{simply, table}
use Rattle.pg_table.specs.Names.{named}
use Rattle.pg_table.specs.Reads.{AreIsolated, EachAnswers}
use Rattle.pg_table.specs.Told.{DeskTells}
use Rattle.pg_table.specs.FreshNames.{AreDistinct, parse_names}

-- A command that read the same in any session that has run, this one or another, did the same.
abbrev pub IsIsolated : {scripts : List (List Command)} {turns : List ℕ} {one : List (List Answer)} {a : Course DeskCall Reply} →
    HasRun (meaning_of table) scripts turns one a → Type 0
IsIsolated run = (others : List (List Command)) (more : List ℕ) (two : List (List Answer)) (b : Course DeskCall Reply)
    (other : HasRun (meaning_of table) others more two b) → AreIsolated named run other

-- The commands of a session that has run are kept apart: each goes by what it read, and by what the desk told it.
pub record AreKeptApart {scripts : List (List Command)} {turns : List ℕ} {given : List (List Answer)} {course : Course DeskCall Reply}
    (run : HasRun (meaning_of table) scripts turns given course) : Type 0 where
  -- each simple query answers by its own group, up to the message that decides, whatever other commands ran beside it
  pub headline : Headline simply scripts given course run.schedule
  -- each command answered by what it read, and one that read the same did the same
  pub answers : EachAnswers run
  pub isolated : IsIsolated run
  -- the desk told them of types and of the statements that look them up what was kept last, and each number of a statement once
  pub desk : DeskTells course.asked
  -- no two Parse frames of all that they booked give a statement the same name
  pub names : AreDistinct (parse_names course.book)
