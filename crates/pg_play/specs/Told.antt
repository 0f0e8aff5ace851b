-- What a session reported, in the words over any commands.
use Rattle.std.specs.Prelude.{map}
use Rattle.pg_errors.specs.Views.{async_of}
use Rattle.pg_core.specs.Trails.{said_booking}
use Rattle.pg_promises.specs.Endings as ending
use Rattle.pg_play.specs.Parameters.{pair_view}
use Rattle.pg_play.specs.declared.report.Report.{Report}

abbrev pub told_of : {A : Type 0} → Report A → ending.Report A
told_of report = record {
  answers = report.answers;
  asynchronous = map async_of report.asynchronous;
  parameters = map pair_view report.parameters;
  process_id = report.process_id;
  secret_key = report.secret_key;
  book = map said_booking report.book;
  trace = report.trace;
  sent = report.sent;
}
