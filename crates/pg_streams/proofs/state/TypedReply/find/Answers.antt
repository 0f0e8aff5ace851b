use Rattle.std.proofs.Common.{refl}
use Rattle.pg_streams.proofs.Behind.{error-whole, pauses-whole, value-whole}
use Rattle.pg_streams.specs.Brought.{joined}
use Rattle.pg_streams.specs.TypedRawStates.{found_place, had_of, place_of_finding}
use Rattle.pg_streams.proofs.Polling.{give-finishes, had-deaf}
use Rattle.pg_streams.proofs.state.TypedReply.find.Goals as goal

pub returns-in-Pending : goal.returns-in-Pending
returns-in-Pending g c = record {
  pauses = λ rows. pauses-whole (had_of rows c.args.columns (joined c.args.batches.items)) (had-deaf rows c.args.columns (joined c.args.batches.items)) g.D.Desk.becomes c.args.stamp c.args.desk.now (place_of_finding c.args.state) c.poll.new.desk (place_of_finding c.poll.new.self) c.in-Pending.ensures.0;
  first = refl;
  live = c.in-Pending.ensures.1;
}

pub returns-in-Ready-Ok : goal.returns-in-Ready-Ok
returns-in-Ready-Ok g c =
    let ok = c.in-Ready-Ok in
    let ms = joined c.args.batches.items in
    give-finishes c.args.columns ok.types ms (λ rows. found_place rows c.args.columns ms (place_of_finding c.args.state)) ok.ensures.last.reads
    (λ rows. value-whole (had_of rows c.args.columns ms) (had-deaf rows c.args.columns ms) g.D.Desk.becomes c.args.stamp c.args.desk.now (place_of_finding c.args.state) c.poll.new.desk ok.field-0 ok.types ok.field-0-is ok.ensures) c.give_on.result c.give_on.ensures

pub returns-in-Ready-Err : goal.returns-in-Ready-Err
returns-in-Ready-Err g c rows =
    let err = c.in-Ready-Err in
    error-whole (had_of rows c.args.columns (joined c.args.batches.items)) (had-deaf rows c.args.columns (joined c.args.batches.items)) g.D.Desk.becomes c.args.stamp c.args.desk.now (place_of_finding c.args.state) c.poll.new.desk err.field-0 err.error err.field-0-is err.ensures
