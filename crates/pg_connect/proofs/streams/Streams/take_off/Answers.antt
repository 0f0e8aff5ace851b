use Rattle.std.proofs.Common.{[], refl, sym, ap, subst, ◌∙◌, map, Option, Some, Ok, Err}
use Rattle.pg_wire.specs.Decode.{Decodes}
use Rattle.pg_wire.specs.declared.codec.BackendMessage.{BackendMessage}
use Rattle.pg_types.specs.declared.faults.WireFault.{WireFault}
use Rattle.pg_spec.specs.RawMessages.{has_bad_header, messages}
use Rattle.pg_connect.specs.declared.streams.Streams.{Streams}
use Rattle.pg_connect.specs.Passes.{Passes, waiting, notice_of}
use Rattle.pg_connect.proofs.Joining.{keeps_same, untouched_same}
use Rattle.pg_connect.proofs.Arriving.{reads_nothing, reads_batch}
use Rattle.pg_connect.proofs.Sizes.{some_came_off}
use Rattle.pg_connect.proofs.Taking.{aside_ends, aside_taken, decode_refused}
use Rattle.pg_connect.proofs.streams.Streams.take_off.Goals as goal

pub hold-requires-clause-some : goal.hold-requires-clause-some
hold-requires-clause-some c =
    let w = c.in-Ok-Some-Normal in
    let cut = subst (λ (r : Option BackendMessage). Decodes c.args.self.now.buffer.items c.decode.new.buf.items (Ok r)) (w.field-0-is ∙ ap Some w.field-0-0-is) w.ensures in
    some_came_off _ _ w.messages cut.cuts

pub returns-in-Ok-None-clause-passes : goal.returns-in-Ok-None-clause-passes
returns-in-Ok-None-clause-passes c =
    let cut = subst (λ (r : Option BackendMessage). Decodes c.args.self.now.buffer.items c.decode.new.buf.items (Ok r)) c.in-Ok-None.field-0-is c.in-Ok-None.ensures in
    λ l. record {
      handed = [];
      is = refl;
      passes = reads_nothing c.args.self.now _ l l c.requires.unread (untouched_same l)
          (record { buffer = cut.same; unread = c.requires.unread; held = refl; delayed = refl; parameters = refl; given = refl; delivered = refl })
          (record { unsent = refl; closing = refl; limit = refl; ended = refl; at_end = refl }) refl (keeps_same l);
    }

pub returns-in-Err-BadLength-clause-passes : goal.returns-in-Err-BadLength-clause-passes
returns-in-Err-BadLength-clause-passes c =
    let cut = subst (λ (r : WireFault). Decodes c.args.self.now.buffer.items c.decode.new.buf.items (Err r)) c.in-Err-BadLength.field-0-is c.in-Err-BadLength.ensures in
    λ l. record {
      handed = [];
      is = refl;
      passes = reads_nothing c.args.self.now _ l l c.requires.unread (untouched_same l)
          (record { buffer = cut.same; unread = c.requires.unread; held = refl; delayed = refl; parameters = refl; given = refl; delivered = refl })
          (record { unsent = refl; closing = refl; limit = refl; ended = refl; at_end = refl }) refl (keeps_same l);
    }

pub returns-in-Err-Layout-clause-passes : goal.returns-in-Err-Layout-clause-passes
returns-in-Err-Layout-clause-passes c =
    let cut = subst (λ (r : WireFault). Decodes c.args.self.now.buffer.items c.decode.new.buf.items (Err r)) c.in-Err-Layout.field-0-is c.in-Err-Layout.ensures in
    λ l. record {
      handed = [];
      is = refl;
      passes = reads_nothing c.args.self.now _ l l c.requires.unread (untouched_same l)
          (record { buffer = cut.same; unread = c.requires.unread; held = refl; delayed = refl; parameters = refl; given = refl; delivered = refl })
          (record { unsent = refl; closing = refl; limit = refl; ended = refl; at_end = refl }) refl (keeps_same l);
    }

pub returns-in-Ok-Some-Async-clause-passes : goal.returns-in-Ok-Some-Async-clause-passes
returns-in-Ok-Some-Async-clause-passes c =
    let w = c.in-Ok-Some-Async in
    let s = c.args.self.now in
    let cut = subst (λ (r : Option BackendMessage). Decodes s.buffer.items c.decode.new.buf.items (Ok r)) (w.field-0-is ∙ ap Some w.field-0-0-is) w.ensures in
    λ l. aside_taken s (record s { buffer = c.decode.new.buf }) c.take_aside.new.self l w.message c.take_aside.result c.requires.unread (ap waiting c.requires.held) (ap (map notice_of) c.requires.delayed) cut refl c.take_aside.ensures

pub returns-in-Ok-Some-Async-clause-end : goal.returns-in-Ok-Some-Async-clause-end
returns-in-Ok-Some-Async-clause-end c =
    let w = c.in-Ok-Some-Async in
    let s = c.args.self.now in
    let cut = subst (λ (r : Option BackendMessage). Decodes s.buffer.items c.decode.new.buf.items (Ok r)) (w.field-0-is ∙ ap Some w.field-0-0-is) w.ensures in
    aside_ends s (record s { buffer = c.decode.new.buf }) c.take_aside.new.self w.message c.take_aside.result c.requires.held (ap (map notice_of) c.requires.delayed) cut refl c.take_aside.ensures

pub returns-in-Ok-Some-Normal-clause-passes : goal.returns-in-Ok-Some-Normal-clause-passes
returns-in-Ok-Some-Normal-clause-passes c =
    let w = c.in-Ok-Some-Normal in
    let s = c.args.self.now in
    let t = c.hold.new.self in
    let mid = record s { buffer = c.decode.new.buf; held = t.held } in
    let cut = subst (λ (r : Option BackendMessage). Decodes s.buffer.items c.decode.new.buf.items (Ok r)) (w.field-0-is ∙ ap Some w.field-0-0-is) w.ensures in
    λ l. record {
      handed = [];
      is = refl;
      passes = subst (λ (x : Streams). Passes s x l l [] []) (sym c.hold.ensures.same)
          (reads_batch s mid l w.messages w.request_complete c.requires.unread c.requires.unread cut (ap waiting c.requires.held) c.hold.ensures.held
          refl refl refl refl (record { unsent = refl; closing = refl; limit = refl; ended = refl; at_end = refl }) refl);
    }

pub returns-in-Err : goal.returns-in-Err
returns-in-Err c = record {
  passes = λ l. record {
    handed = [];
    is = refl;
    passes = reads_nothing c.args.self.now _ l l c.requires.unread (untouched_same l)
        (record {
          buffer = decode_refused c.args.self.now.buffer.items c.decode.new.buf.items c.in-Err.field-0 c.in-Err.ensures;
          unread = c.requires.unread;
          held = refl;
          delayed = refl;
          parameters = refl;
          given = refl;
          delivered = refl;
        })
        (record { unsent = refl; closing = refl; limit = refl; ended = refl; at_end = refl }) refl (keeps_same l);
  };
  end = tt;
  delayed = c.requires.delayed;
  unread = tt;
  closing = refl;
  at_end = refl;
}

pub returns-in-Err-BadLength-clause-end : goal.returns-in-Err-BadLength-clause-end
returns-in-Err-BadLength-clause-end c =
    let cut = subst (λ (r : WireFault). Decodes c.args.self.now.buffer.items c.decode.new.buf.items (Err r)) c.in-Err-BadLength.field-0-is c.in-Err-BadLength.ensures in
    record { header = ap has_bad_header cut.same ∙ cut.header; held = ap waiting c.requires.held; delayed = ap (map notice_of) c.requires.delayed; unread = c.requires.unread }

pub returns-in-Err-Layout-clause-end : goal.returns-in-Err-Layout-clause-end
returns-in-Err-Layout-clause-end c =
    let cut = subst (λ (r : WireFault). Decodes c.args.self.now.buffer.items c.decode.new.buf.items (Err r)) c.in-Err-Layout.field-0-is c.in-Err-Layout.ensures in
    record { raw = cut.raw; rest = cut.rest; front = ap messages cut.same ∙ cut.front; aside = cut.aside; broken = cut.broken; held = ap waiting c.requires.held; delayed = ap (map notice_of) c.requires.delayed; unread = c.requires.unread }
