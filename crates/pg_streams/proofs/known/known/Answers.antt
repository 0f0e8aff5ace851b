use Rattle.std.proofs.Common.{sym, ◌∙◌}
use Rattle.pg_streams.proofs.Knowing.{built-in, kept, one-lacks, refused}
use Rattle.pg_streams.proofs.known.known.Goals as goal

pub returns-in-Ok-Some : goal.returns-in-Ok-Some
returns-in-Ok-Some g c rows stamp ms first next =
    built-in g.D.Desk.becomes g.met.D.Desk.stays g.met.D.Desk.joins stamp ms c.args.id first c.args.desk.now next c.args.oid c.in-Ok-Some.ty (sym c.in-Ok-Some.ensures ∙ c.in-Ok-Some.field-0-is)

pub returns-in-Err : goal.returns-in-Err
returns-in-Err g c rows stamp ms first next = one-lacks g.D.Desk.becomes g.met.D.Desk.stays g.met.D.Desk.joins stamp ms c.args.id first c.args.desk.now next c.args.oid

pub returns-in-Ok : goal.returns-in-Ok
returns-in-Ok g c rows stamp ms first next =
    kept g.D.Desk.becomes g.met.D.Desk.stays g.met.D.Desk.joins stamp ms c.args.id first c.args.desk.now c.type_.new.self next c.args.oid c.in-Ok.found (sym c.in-Ok-None.ensures ∙ c.in-Ok-None.field-0-is) c.in-Ok.ensures.event

pub returns-in-Err-type_ : goal.returns-in-Err-type_
returns-in-Err-type_ g c rows stamp ms first next =
    refused g.D.Desk.becomes g.met.D.Desk.stays g.met.D.Desk.joins stamp ms c.args.id first c.args.desk.now c.type_.new.self c.fail.new.desk next c.args.oid c.in-Err-type_.fault c.error_of.result c.fail.result
    (sym c.in-Ok-None.ensures ∙ c.in-Ok-None.field-0-is) c.in-Err-type_.ensures.event c.error_of.ensures (c.fail.ensures rows stamp)
