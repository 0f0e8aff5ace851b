use Rattle.std.proofs.Common.{◌++◌, List, ap, ◌∙◌}
use Rattle.pg_spec.specs.RawMessages.{RawMessage}
use Rattle.pg_streams.specs.Known.{stands_behind}
use Rattle.pg_streams.specs.Rests.{takes_so}
use Rattle.pg_streams.specs.TypedRawStates.{behind_rest}
use Rattle.pg_streams.proofs.Polling.{lacks-here, rest-takes}
use Rattle.pg_streams.proofs.state.TypedReply.take_rest.Goals as goal

pub take-requires : goal.take-requires
take-requires g c = c.in-Ok.ensures.adds.is c.new-rest.ensures.is

pub returns-in-Ok : goal.returns-in-Ok
returns-in-Ok g c =
    rest-takes g.D.Desk.becomes c.args.stamp c.args.desk.now c.take.new.desk c.args.request.batch c.args.request.id c.add.new.self (c.in-Ok.ensures.adds.messages ∙ ap (λ (l : List RawMessage). l ++ c.args.request.batch) c.new-rest.ensures.came) (c.in-Ok.ensures.id ∙ c.new-rest.ensures.id)
    (λ rows. behind_rest rows c.args.columns) c.take.new.self.stage c.take.result c.take.ensures

pub returns-in-Err : goal.returns-in-Err
returns-in-Err g c rows = lacks-here g.D.Desk.becomes g.met.D.Desk.stays c.args.stamp c.args.desk.now (stands_behind c.args.request.batch (takes_so (behind_rest rows c.args.columns)) c.args.request.id) c.in-Err.error c.in-Err.ensures.adds
