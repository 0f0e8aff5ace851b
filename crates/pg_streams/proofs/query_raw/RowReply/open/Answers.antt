use Rattle.std.proofs.Common.{Bool, false, ◌||◌, [], None, ◌∙◌, ap}
use Rattle.pg_streams.specs.Collecting.{family_of}
use Rattle.pg_streams.specs.Hearing.{IsNoItem}
use Rattle.pg_streams.specs.RowStates.{opening_told}
use Rattle.pg_streams.specs.RowStreams.{RowsGiven}
use Rattle.pg_streams.specs.RowTelling.{opening_heard}
use Rattle.pg_streams.specs.declared.items.Items.{Items}
use Rattle.pg_streams.specs.declared.row_giving.RowGiving.{RowGiving}
use Rattle.pg_streams.specs.declared.row_giving.RowOpening.{RowOpening}
use Rattle.pg_streams.proofs.Asking.{errs-whole, pauses-whole, poll-lacks}
use Rattle.pg_streams.proofs.Opening.{given-bound, given-error, still-unbound, now-bound, opened-goes, opened-on}
use Rattle.pg_streams.proofs.query_raw.RowReply.open.Goals as goal

pub returns-in-Pending-clause-opens : goal.returns-in-Pending-clause-opens
returns-in-Pending-clause-opens g c =
    let waits = c.in-Pending.ensures.gives c.requires.on in (
      pauses-whole opening_told opening_heard c.args.items c.poll_next.new.self waits,
      record {
        on = c.in-Pending.ensures.over ∙ ap (λ (b : Bool). b || false) c.requires.on;
        empty = waits.empty;
        unbound = still-unbound c.args.items c.poll_next.new.self c.requires.unbound waits.pauses.goes.events waits.pauses.goes.brought waits.empty;
      },
    )

-- BindComplete adds nothing
abbrev take-none : Unit {0} → RowsGiven → RowsGiven
take-none u whole = whole

abbrev end-opening : RowOpening → RowsGiven
end-opening o = record { rows = []; affected = None }

pub returns-in-Ready-None-clause-opens : goal.returns-in-Ready-None-clause-opens
returns-in-Ready-None-clause-opens g c =
    poll-lacks opening_told opening_heard take-none end-opening c.args.items c.poll_next.new.self c.poll_next.result (λ first. IsNoItem first.told)
    (c.poll_next.ensures.gives c.requires.on)

pub opened-requires : goal.opened-requires
opened-requires g c =
    let ok = c.in-Ready-Some-Ok in
    let goes = given-bound g.D.Desk.becomes c.args.stamp c.args.desk.now c.poll_next.new.desk c.args.items c.poll_next.new.self ok.field-0 ok.field-0-0 ok.field-0-is (ok.ensures.gives c.requires.on) ok.field-0-0-0 ok.field-0-0-is in
    now-bound c.args.items c.poll_next.new.self c.requires.unbound goes.events goes.brought

pub returns-in-Ready-Some-Ok-clause-opens : goal.returns-in-Ready-Some-Ok-clause-opens
returns-in-Ready-Some-Ok-clause-opens g c =
    let ok = c.in-Ready-Some-Ok in
    let goes = given-bound g.D.Desk.becomes c.args.stamp c.args.desk.now c.poll_next.new.desk c.args.items c.poll_next.new.self ok.field-0 ok.field-0-0 ok.field-0-is (ok.ensures.gives c.requires.on) ok.field-0-0-0 ok.field-0-0-is in (
      opened-goes c.args.items c.poll_next.new.self c.opened.result c.opened.ensures.stands c.opened.ensures.is c.opened.ensures.taken goes,
      (
        opened-on c.args.items c.poll_next.new.self c.opened.result ok.field-0 ok.field-0-0 c.opened.ensures.is c.requires.on ok.ensures.over ok.field-0-is ok.field-0-0-is,
        ap (λ (items : Items RowGiving). items.giving.affected) c.opened.ensures.is,
      ),
    )

pub returns-in-Ready-Some-Err-clause-opens : goal.returns-in-Ready-Some-Err-clause-opens
returns-in-Ready-Some-Err-clause-opens g c =
    let err = c.in-Ready-Some-Err in
    errs-whole (family_of opening_told opening_heard c.args.items) err.error c.poll_next.new.self
    (given-error g.D.Desk.becomes c.args.stamp c.args.desk.now c.poll_next.new.desk c.args.items c.poll_next.new.self err.field-0 err.field-0-0 err.field-0-is (err.ensures.gives c.requires.on) err.error err.field-0-0-is)
