use Rattle.std.proofs.Common.{[], ◌∷◌, refl, sym, ap, ◌∙◌}
use Rattle.pg_desk.specs.declared.event.Deliver.TheVariants as answer
use Rattle.pg_desk.specs.declared.event.Event.{Event}
use Rattle.pg_desk.specs.declared.event.Event.TheVariants.{Deliver}
use Rattle.pg_wire.proofs.Cuttings.{ends_by}
use Rattle.pg_connect.specs.declared.streams.Streams.{Streams}
use Rattle.pg_connect.specs.Passes.{waiting}
use Rattle.pg_connect.proofs.Joining.{keeps_same, untouched_same}
use Rattle.pg_connect.proofs.Arriving.{reads_nothing}
use Rattle.pg_connect.proofs.Delivering.{delivered_taken, delivered_back, unasked_back}
use Rattle.pg_connect.proofs.streams.Streams.deliver_held.Goals as goal

pub returns-in-None-clause-goes : goal.returns-in-None-clause-goes
returns-in-None-clause-goes g c = λ l. record {
  events = [];
  calls = tt;
  became = g.met.E.Desk.stays c.args.hub.now;
  passes = reads_nothing c.args.self.now _ l l c.requires (untouched_same l)
      (record { buffer = refl; unread = c.requires; held = ap waiting (c.take.ensures.after ∙ c.in-None.ensures.value); delayed = refl; parameters = refl; given = refl; delivered = refl })
      (record { unsent = refl; closing = refl; limit = refl; ended = refl; at_end = refl }) refl (keeps_same l);
  ended = (c.take.ensures.after, refl);
}

pub returns-in-Taken-clause-goes : goal.returns-in-Taken-clause-goes
returns-in-Taken-clause-goes g c =
    let batch = c.in-Some.held.batch in
    let e : Event = Deliver batch c.in-Some.held.complete answer.Taken in
    λ l. record {
      events = e ∷ [];
      calls = (c.in-Some.held.some, tt);
      became = c.in-Taken.ensures.event;
      passes = delivered_taken c.args.self.now c.take.new.self c.count.new.self l batch c.in-Some.held.complete c.len-messages.result c.requires
          (ap waiting (sym c.in-Some.ensures.value)) c.take.ensures.after c.len-messages.ensures c.count.ensures;
      ended = (ap (λ (x : Streams). x.held) c.count.ensures ∙ c.take.ensures.after, refl);
    }

pub returns-in-Full-clause-goes : goal.returns-in-Full-clause-goes
returns-in-Full-clause-goes g c =
    let e : Event = Deliver c.in-Some.held.batch c.in-Some.held.complete (answer.Full c.in-Full.batch) in
    λ l. record {
      events = e ∷ [];
      calls = (c.in-Some.held.some, tt);
      became = c.in-Full.ensures.event;
      passes = delivered_back c.args.self.now c.take.new.self c.hold.new.self l e c.in-Full.batch c.requires refl refl refl refl
          (ap waiting (sym c.in-Some.ensures.value) ∙ sym c.in-Full.ensures.back) c.hold.ensures.held c.hold.ensures.same;
      ended = (refl, sym c.in-Full.ensures.back ∙ sym c.hold.ensures.held);
    }

pub returns-in-NoRequest-clause-goes : goal.returns-in-NoRequest-clause-goes
returns-in-NoRequest-clause-goes g c =
    let e : Event = Deliver c.in-Some.held.batch c.in-Some.held.complete (answer.NoRequest c.in-NoRequest.batch) in
    let t = c.hold-in-NoRequest.new.self in
    λ l. record {
      events = e ∷ [];
      calls = (c.in-Some.held.some, tt);
      became = c.in-NoRequest.ensures.event;
      passes = delivered_back c.args.self.now c.take.new.self t l e c.in-NoRequest.batch c.requires refl refl refl refl
          (ap waiting (sym c.in-Some.ensures.value) ∙ sym c.in-NoRequest.ensures.back) c.hold-in-NoRequest.ensures.held c.hold-in-NoRequest.ensures.same;
      ended = unasked_back t c.in-NoRequest.batch c.unasked-fault.result e refl c.hold-in-NoRequest.ensures.held c.unasked-fault.ensures
          (sym c.in-NoRequest.ensures.back ∙ sym c.hold-in-NoRequest.ensures.held);
    }

pub returns-in-OutOfMemory-clause-goes : goal.returns-in-OutOfMemory-clause-goes
returns-in-OutOfMemory-clause-goes g c =
    let e : Event = Deliver c.in-Some.held.batch c.in-Some.held.complete (answer.OutOfMemory c.in-OutOfMemory.batch) in
    λ l. record {
      events = e ∷ [];
      calls = (c.in-Some.held.some, tt);
      became = c.in-OutOfMemory.ensures.event;
      passes = delivered_back c.args.self.now c.take.new.self c.hold-in-OutOfMemory.new.self l e c.in-OutOfMemory.batch c.requires refl refl refl refl
          (ap waiting (sym c.in-Some.ensures.value) ∙ sym c.in-OutOfMemory.ensures.back) c.hold-in-OutOfMemory.ensures.held c.hold-in-OutOfMemory.ensures.same;
      ended = tt;
    }

pub deliver-requires : goal.deliver-requires
deliver-requires g c = record { ends = (ends_by c.in-Some.held.complete c.in-Some.held.batch c.in-Some.held.cut).ends }
