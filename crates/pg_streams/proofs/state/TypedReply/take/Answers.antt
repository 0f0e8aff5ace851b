use Rattle.std.proofs.Common.{Bool, List, false, true}
use Rattle.pg_spec.specs.RawMessages.{RawMessage}
use Rattle.pg_query.specs.Dialogue.{Dialogue}
use Rattle.pg_streams.specs.Rests.{came, rests}
use Rattle.pg_streams.specs.TypedRawStates.{ForMore, behind_rest, rests_first}
use Rattle.pg_streams.specs.TypedRaw.{Asked}
use Rattle.pg_streams.proofs.Polling.{rests-go, rests-wait, rests-wait-too, takes-joined}
use Rattle.pg_streams.proofs.state.TypedReply.take.Goals as goal

pub returns-in-Pending : goal.returns-in-Pending
returns-in-Pending g c =
    let waits = c.in-Pending.ensures.comes in (
      ForMore (rests-wait true c.args.rest c.go_on.new.self (waits.pauses true) (behind_rest true c.args.columns)),
      rests-wait-too false c.args.rest c.go_on.new.self (waits.pauses false) (behind_rest false c.args.columns),
      record { is = waits.is; on = waits.on },
    )

pub end-requires : goal.end-requires
end-requires g c = (rw c.in-Ready-Ok.field-0-is at c.in-Ready-Ok.ensures.comes).1

pub returns-in-Ready-Ok : goal.returns-in-Ready-Ok
returns-in-Ready-Ok g c =
    let next : (rows : Bool) → List RawMessage → Dialogue (Asked rows) = λ rows. behind_rest rows c.args.columns in
    takes-joined g.met.D.Desk.joins (λ rows. (rests rows c.args.rest).place (next rows)) (λ rows. (rests rows c.go_on.new.self).place (next rows)) (rests_first (came c.args.rest)) (rests_first (came c.go_on.new.self))
    (λ rows. rests-go rows c.args.rest c.go_on.new.self ((rw c.in-Ready-Ok.field-0-is at c.in-Ready-Ok.ensures.comes).0 rows) (next rows)) c.end.new.desk c.end.new.self.stage c.end.result c.end.ensures

pub returns-in-Ready-Err : goal.returns-in-Ready-Err
returns-in-Ready-Err g c rows = (rw c.in-Ready-Err.field-0-is at c.in-Ready-Err.ensures.comes) rows (behind_rest rows c.args.columns)
