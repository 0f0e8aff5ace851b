-- The commands of a session of the table's are kept apart.
use Rattle.std.proofs.Common.{ℕ, List}
use Rattle.pg_spec.specs.Courses.{Course}
use Rattle.pg_spec.specs.Meanings.{HasRun}
use Rattle.pg_spec.proofs.Headlines.{headline}
use Rattle.pg_query.specs.declared.desk_call.DeskCall.{DeskCall}
use Rattle.pg_query.specs.declared.desk_call.Reply.{Reply}
use Rattle.pg_text.specs.declared.command.Answer.{Answer}
use Rattle.pg_text.specs.declared.command.Command.{Command}
use Rattle.pg_session.specs.Speeches.{meaning_of}
use Rattle.pg_table.specs.Table.{simply, table}
use Rattle.pg_table.proofs.SimpleMeans.{are-simple, book-whole}
use Rattle.pg_table.specs.KeptApart.{AreKeptApart}
use Rattle.pg_table.specs.Names.{named}
use Rattle.pg_table.proofs.ByNames.{by-names}
use Rattle.pg_table.proofs.CommandNames.{fresh-says}
use Rattle.pg_table.proofs.FreshNames.{fresh-names}
use Rattle.pg_table.proofs.Isolated.{each-answers, isolated}
use Rattle.pg_table.proofs.Told.{desk-tells}

pub kept-apart : (scripts : List (List Command)) (turns : List ℕ) (given : List (List Answer)) (course : Course DeskCall Reply)
    (run : HasRun (meaning_of table) scripts turns given course) → AreKeptApart run
kept-apart scripts turns given course run = record {
  headline = headline (meaning_of table) simply are-simple scripts turns given course run;
  answers = each-answers (meaning_of table) scripts turns given course run;
  isolated = λ others more two b other. isolated (meaning_of table) named by-names scripts others turns more given two course b run other;
  desk = desk-tells course.asked run.told;
  names = fresh-names table book-whole fresh-says scripts turns given course run;
}
