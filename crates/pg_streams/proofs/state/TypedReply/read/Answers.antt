use Rattle.pg_streams.specs.Heads.{heads, with_columns}
use Rattle.pg_streams.specs.TypedRawStates.{behind_columns, columns_first, opens_first}
use Rattle.pg_streams.proofs.Polling.{polls-joined, columns-awaited, columns-came}
use Rattle.pg_streams.proofs.state.TypedReply.read.Goals as goal

pub returns-in-Pending : goal.returns-in-Pending
returns-in-Pending g c =
    let waits = columns-awaited c.args.request c.go_on.new.self c.requires c.in-Pending.ensures.comes.pauses in
    (waits.0, waits.1, c.in-Pending.ensures.comes.empty)

pub returns-in-Ready-Ok : goal.returns-in-Ready-Ok
returns-in-Ready-Ok g c =
    let new = c.go_on.new.self in
    let columns = c.in-Ready-Ok.columns in
    polls-joined g.met.D.Desk.joins (λ rows. (heads rows c.args.request).place (behind_columns rows)) (λ rows. (with_columns rows columns new).place (behind_columns rows)) opens_first (columns_first new.batch)
    (λ rows rest. columns-came columns c.args.request new c.requires rows ((rw c.in-Ready-Ok.field-0-is at c.in-Ready-Ok.ensures.comes) rows) (behind_columns rows) rest) c.know.new.desk c.know.new.self.stage c.know.result c.know.ensures

pub returns-in-Ready-Err : goal.returns-in-Ready-Err
returns-in-Ready-Err g c rows = (rw c.in-Ready-Err.field-0-is at c.in-Ready-Err.ensures.comes) rows (behind_columns rows)
