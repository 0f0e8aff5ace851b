use Rattle.std.proofs.Common.{[], ◌∷◌, ◌++◌, inl, inr, refl}
use Rattle.pg_drive.specs.Drives.{Stand}
use Rattle.pg_drive.specs.Lines.{seen}
use Rattle.pg_drive.proofs.MorePolls.{one-more}
use Rattle.pg_drive.proofs.line.Line.ask.Goals as goal

pub returns-in-Ready : goal.returns-in-Ready
returns-in-Ready g c =
    let view = g.L.Link.view in
    record {
      stands = c.polls.invariant.stands;
      last = record { place = g.S.Polled.place c.polls.state; line = seen view c.polls.self };
      drives = c.polls.invariant.drives;
      ends = inl (record { goes = c.in-Ready.ensures; same = refl });
    }

pub returns-in-Err : goal.returns-in-Err
returns-in-Err g c =
    let view = g.L.Link.view in
    record {
      stands = c.polls.invariant.stands;
      last = record { place = g.S.Polled.place c.polls.state; line = seen view c.polls.self };
      drives = c.polls.invariant.drives;
      ends = inr (record {
        error = c.in-Err.error;
        says = refl;
        between = c.poll.new.desk;
        place = g.S.Polled.place c.poll.new.self;
        pauses = c.in-Pending.ensures.0;
        failed = seen view c.step.new.self;
        line = c.in-Err.ensures;
        hung_up = record { answer = c.hang_up.result; gives_up = c.hang_up.ensures };
        same = refl;
      });
    }

pub polls-preserved : goal.polls-preserved
polls-preserved g c =
    let view = g.L.Link.view in
    let next : Stand _ _ = record { place = g.S.Polled.place c.poll.new.self; line = seen view c.step.new.self } in
    record {
      stands = c.polls.invariant.stands ++ next ∷ [];
      drives = one-more g.E.Desk.becomes c.args.stamp _ c.polls.invariant.stands _ next c.polls.invariant.drives (record { between = c.poll.new.desk; pauses = c.in-Pending.ensures.0; line = c.in-Ok.ensures });
      live = c.in-Pending.ensures.1;
    }
