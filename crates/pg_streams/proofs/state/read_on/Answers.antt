use Rattle.std.proofs.Common.{List, false, true, None, Option, Result, ◌∙◌, ap}
use Rattle.pg_spec.specs.RawMessages.{RawMessage}
use Rattle.pg_types.specs.declared.error.Error.{Error}
use Rattle.pg_desk.specs.declared.statement.Described.{Described}
use Rattle.pg_query.specs.Dialogue.{feed}
use Rattle.pg_query.specs.Meaning.{Place}
use Rattle.pg_query.specs.Reading.{reads}
use Rattle.pg_streams.specs.RowStreams.{RowsGiven, rows_from}
use Rattle.pg_streams.proofs.Streams.{rows-same}
use Rattle.pg_streams.proofs.state.read_on.Goals as goal

pub returns : goal.returns
returns c = record {
  stands =
      c.behind_columns.ensures.stands
      ∙ ap (λ (R : List RawMessage → Option (Result RowsGiven Error)). let p : Place RowsGiven = record { dialogue = feed c.args.request.batch (reads false R); reads = c.args.request.id } in p)
      (ap (λ (s : Described). rows_from s true None) c.in_ok-statement.ensures.is ∙ rows-same c.args.columns c.args.types c.in_ok-statement.ensures.as_many);
  statement = c.behind_columns.ensures.statement ∙ c.in_ok-statement.ensures.is;
  left = c.behind_columns.ensures.unread;
  live = c.behind_columns.ensures.taken;
  begun = (c.behind_columns.ensures.on, c.behind_columns.ensures.affected);
}
