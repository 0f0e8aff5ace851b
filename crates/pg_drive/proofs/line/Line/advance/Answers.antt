use Rattle.std.proofs.Common.{inr, refl, Ok, Err}
use Rattle.pg_wire.proofs.HandedOn.{handed-on}
use Rattle.pg_drive.specs.Lines.{has_moved, seen}
use Rattle.pg_drive.proofs.Ending.{none-of}
use Rattle.pg_drive.proofs.Stepping.{pause_so, seen_pause}
use Rattle.pg_drive.proofs.line.Line.advance.Goals as goal

pub returns-in_err-self : goal.returns-in_err-self
returns-in_err-self g c =
    let view = g.L.Link.view in
    let polled = c.in_ok-told.ensures in
    let e = c.in_err-self.field-0.0 in
    rw (handed-on c.from_residual-in_err-self.result e c.from_residual-in_err-self.ensures.1) (inr (record {
      mid = seen view c.poll.new.self;
      told = c.in_ok-told.told;
      polled = polled;
      pause = pause_so c.args.self.now.lull c.poll.new.self.lull (has_moved c.in_ok-told.told) (view c.args.self.now.connection.link).quiet c.quiet-before.result (view c.poll.new.self.connection.link).quiet c.quiet-after.result
          (view c.poll.new.self.connection.link) (view c.pause.new.self.connection.link) (Err e) polled.lull c.quiet-before.ensures c.quiet-after.ensures c.in_err-self.ensures.end;
      same = seen_pause view c.poll.new.self c.pause.new.self c.pause.new.self.lull c.pause.ensures.same c.pause.ensures.streams;
    }))

pub returns : goal.returns
returns g c =
    let view = g.L.Link.view in
    let polled = c.in_ok-told.ensures in
    record {
      paused = record {
        mid = seen view c.poll.new.self;
        told = c.in_ok-told.told;
        polled = polled;
        pause = pause_so c.args.self.now.lull c.poll.new.self.lull (has_moved c.in_ok-told.told) (view c.args.self.now.connection.link).quiet c.quiet-before.result (view c.poll.new.self.connection.link).quiet c.quiet-after.result
            (view c.poll.new.self.connection.link) (view c.pause.new.self.connection.link) (Ok c.in_ok-self.field-0) polled.lull c.quiet-before.ensures c.quiet-after.ensures c.in_ok-self.ensures.end;
        same = seen_pause view c.poll.new.self c.pause.new.self c.in_ok-self.field-0 c.pause.ensures.same c.pause.ensures.streams;
      };
      says = none-of c.in_ok-told.told c.is_none.result c.is_none.ensures;
    }
