use Rattle.std.proofs.Common.{List, false, true, None, Option, Result, ◌∙◌, ap}
use Rattle.pg_spec.specs.RawMessages.{RawMessage}
use Rattle.pg_types.specs.declared.error.Error.{Error}
use Rattle.pg_desk.specs.declared.statement.Described.{Described}
use Rattle.pg_query.specs.Dialogue.{Answer, Dialogue, feed}
use Rattle.pg_query.specs.Reading.{reads}
use Rattle.pg_streams.specs.Brought.{collected, joined}
use Rattle.pg_streams.specs.RowStreams.{RowsGiven, rows_from}
use Rattle.pg_streams.proofs.Streams.{rows-same}
use Rattle.pg_streams.proofs.state.give_on.Goals as goal

pub returns : goal.returns
returns c = record {
  stands =
      c.of_taken.ensures.stands
      ∙ ap (λ (R : List RawMessage → Option (Result RowsGiven Error)). let d : Dialogue RowsGiven = Answer (collected (feed (joined c.args.batches.items) (reads false R))) in d)
      (ap (λ (s : Described). rows_from s true None) c.in_ok-statement.ensures.is ∙ rows-same c.args.columns c.args.types c.in_ok-statement.ensures.as_many);
  statement = c.of_taken.ensures.statement ∙ c.in_ok-statement.ensures.is;
  left = c.of_taken.ensures.unread;
  taken = c.of_taken.ensures.taken;
  begun = (c.of_taken.ensures.on, c.of_taken.ensures.affected);
}
