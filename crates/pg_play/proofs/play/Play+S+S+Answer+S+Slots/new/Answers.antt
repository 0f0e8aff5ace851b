use Rattle.pg_session.proofs.Nearer.{new-under-way}
use Rattle.pg_play.specs.Plays.{state_of}
use Rattle.pg_play.proofs.Made.{idle_views}
use Rattle.pg_play.proofs.OnScripts.{new_on}
use Rattle.pg_play.proofs.play.Play+S+S+Answer+S+Slots.new.Goals as goal

pub returns-in-Ok-clause-fresh : goal.returns-in-Ok-clause-fresh
returns-in-Ok-clause-fresh g c =
    let parts = c.in-Ok.ensures in
    record {
      hub = parts.hub.new;
      new = parts.hub.fits;
      closes = parts.hub.closes;
      handles = idle_views g.S.Spoken.speech g.S.Polled.place c.in-Ok.parts.handles.items c.args.scripts.now parts.handles.0 parts.handles.1;
      unanswered = parts.unanswered;
      trace = c.new.ensures.items;
      asynchronous = c.new-in-Ok.ensures.items;
    }

pub returns-in-Ok-clause-going : goal.returns-in-Ok-clause-going
returns-in-Ok-clause-going g c =
    let s = state_of g.S.Polled.place (record {
      hub = c.in-Ok.parts.hub;
      streams = c.args.streams;
      handles = c.in-Ok.parts.handles;
      unanswered = c.in-Ok.parts.unanswered;
      trace = c.new.result;
      asynchronous = c.new-in-Ok.result;
    }) in
    record {
      under_way = new-under-way g.S.Spoken.speech c.args.scripts.now s (returns-in-Ok-clause-fresh g c);
      on_scripts = new_on g.S.Spoken.speech g.S.Polled.place c.args.scripts.now s (returns-in-Ok-clause-fresh g c);
      within = c.requires.within;
    }
