use Rattle.std.proofs.Common.{Ok, Err}
use Rattle.pg_query.proofs.Made.{answers-made, pauses-made}
use Rattle.pg_query.specs.Commands.{place_of}
use Rattle.pg_steps.specs.Steps.{dialogue_of}
use Rattle.pg_steps.proofs.one.OnePolled.poll.Goals as goal

pub returns-in-Ready-Ok : goal.returns-in-Ready-Ok
returns-in-Ready-Ok g c =
    rw c.give.ensures
    (answers-made (λ _. Ok (g.G.Gives.gives c.args.self.now.gives)) g.D.Desk.becomes c.args.stamp c.args.desk.now (place_of dialogue_of c.args.self.now.command) c.poll.new.desk
    (Ok tt) (rw c.in-Ready-Ok.field-0-is at c.in-Ready-Ok.ensures))

pub returns-in-Ready-Err : goal.returns-in-Ready-Err
returns-in-Ready-Err g c =
    answers-made (λ _. Ok (g.G.Gives.gives c.args.self.now.gives)) g.D.Desk.becomes c.args.stamp c.args.desk.now (place_of dialogue_of c.args.self.now.command) c.poll.new.desk
    (Err c.in-Ready-Err.error) (rw c.in-Ready-Err.field-0-is at c.in-Ready-Err.ensures)

pub returns-in-Pending : goal.returns-in-Pending
returns-in-Pending g c = (
  pauses-made (λ _. Ok (g.G.Gives.gives c.args.self.now.gives)) g.D.Desk.becomes c.args.stamp c.args.desk.now (place_of dialogue_of c.args.self.now.command) c.poll.new.desk
      (place_of dialogue_of c.poll.new.self) c.in-Pending.ensures.0,
  c.in-Pending.ensures.1,
)
