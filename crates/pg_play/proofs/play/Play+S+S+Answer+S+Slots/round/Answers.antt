use Rattle.std.proofs.Common.{◌<◌, ◌≤◌, ◌^◌, inr, length, refl, ap, ◌∙◌, arith}
use Rattle.pg_session.proofs.Nearer.{nearer-joined}
use Rattle.pg_session.proofs.Order.{makes_none, rests_none}
use Rattle.pg_session.specs.Sessions.{numbers}
use Rattle.pg_play.specs.Plays.{state_of}
use Rattle.pg_connect.proofs.Calm.{calm_same, calm_then}
use Rattle.pg_play.proofs.Chaining.{round_more, stays_more}
use Rattle.pg_play.proofs.Failing.{round_fails}
use Rattle.pg_play.proofs.Following.{continues_same, continues_then}
use Rattle.pg_play.proofs.play.Play+S+S+Answer+S+Slots.round.Goals as goal

pub returns-in-Ok-None-clause-made : goal.returns-in-Ok-None-clause-made
returns-in-Ok-None-clause-made g c =
    let within : c.turns.turn ≤ length c.args.scripts.now = omega arith in (
      c.turns.turn,
      within,
      record {
        state = state_of g.S.Polled.place c.turns.self;
        link = g.L.Link.view c.turns.link;
        before = c.turns.invariant.made;
        over = rw c.in-Ok-None.field-0-is at c.in-Ok-None.ensures.made;
      },
    )

pub turns-init : goal.turns-init
turns-init g c =
    let l = g.L.Link.view c.args.link.now in
    record {
      ready = c.requires.ready;
      made = makes_none g.S.Spoken.speech c.args.scripts.now (state_of g.S.Polled.place c.args.self.now) l l (rests_none l);
      stays = λ none. (refl, refl);
      going = c.requires.going;
      limited = refl;
      nearer = inr refl;
      link = continues_same l;
      calm = calm_same l;
    }

pub turns-preserved : goal.turns-preserved
turns-preserved g c =
    let scripts = c.args.scripts.now in
    let s = state_of g.S.Polled.place c.args.self.now in
    let mid = state_of g.S.Polled.place c.turns.self in
    let t = state_of g.S.Polled.place c.turn.new.self in
    let l = g.L.Link.view c.args.link.now in
    let k = g.L.Link.view c.turns.link in
    let m = g.L.Link.view c.turn.new.link in
    let was = c.turns.invariant in
    let now = rw c.in-Ok-Some.field-0-is at c.in-Ok-Some.ensures.made in
    let leaves = rw c.in-Ok-Some.field-0-is at c.in-Ok-Some.ensures.leaves in
    record {
      ready = c.turn.ensures.ready;
      made = round_more g.S.Spoken.speech scripts c.turns.turn s l mid k t m was.made now.0;
      stays = stays_more g.S.Spoken.speech scripts c.turns.turn c.turns.moved c.in-Ok-Some.more s l mid k t m was.stays now;
      going = leaves.going;
      limited = leaves.limited.1 ∙ was.limited;
      nearer = nearer-joined scripts c.turns.moved c.in-Ok-Some.more s mid t was.nearer leaves.nearer;
      link = continues_then l k m was.link c.turn.ensures.crosses.link;
      calm = calm_then l k m was.calm c.in-Ok-Some.ensures.crosses.calm;
    }

pub returns-in-Err-clause-fails : goal.returns-in-Err-clause-fails
returns-in-Err-clause-fails g c =
    let counted : c.turns.self.streams.given < 2 ^ 64 = omega (arith, c.turns.invariant.ready.limit, c.turns.invariant.going.within) in
    round_fails g.S.Spoken.speech c.args.scripts.now (numbers c.turns.turn) (state_of g.S.Polled.place c.args.self.now) (g.L.Link.view c.args.link.now) (state_of g.S.Polled.place c.turns.self) (g.L.Link.view c.turns.link)
    (g.L.Link.view c.turn.new.link) c.in-Err.error c.turns.invariant.made counted c.in-Err.ensures.fails

pub returns-in-Ok-None-clause-leaves : goal.returns-in-Ok-None-clause-leaves
returns-in-Ok-None-clause-leaves g c = record {
  limited = (c.in-Ok-None.ensures.leaves.limited.0, c.in-Ok-None.ensures.leaves.limited.1 ∙ c.turns.invariant.limited);
  going = tt;
  nearer = tt;
}

pub returns-clause-leaves : goal.returns-clause-leaves
returns-clause-leaves g c = record {
  limited = (c.turns.invariant.going.within, c.turns.invariant.limited);
  going = c.turns.invariant.going;
  nearer = c.turns.invariant.nearer;
}

pub returns-in-Ok-None-clause-crosses : goal.returns-in-Ok-None-clause-crosses
returns-in-Ok-None-clause-crosses g c =
    let l = g.L.Link.view c.args.link.now in
    let k = g.L.Link.view c.turns.link in
    let m = g.L.Link.view c.turn.new.link in
    record {
      link = continues_then l k m c.turns.invariant.link c.turn.ensures.crosses.link;
      error = tt;
      calm = calm_then l k m c.turns.invariant.calm c.in-Ok-None.ensures.crosses.calm;
    }

pub returns-in-Err-clause-crosses : goal.returns-in-Err-clause-crosses
returns-in-Err-clause-crosses g c = record {
  link = continues_then (g.L.Link.view c.args.link.now) (g.L.Link.view c.turns.link) (g.L.Link.view c.turn.new.link) c.turns.invariant.link c.turn.ensures.crosses.link;
  error = c.in-Err.ensures.crosses.error;
  calm = tt;
}

pub returns-clause-crosses : goal.returns-clause-crosses
returns-clause-crosses g c = record { link = c.turns.invariant.link; error = tt; calm = c.turns.invariant.calm }
