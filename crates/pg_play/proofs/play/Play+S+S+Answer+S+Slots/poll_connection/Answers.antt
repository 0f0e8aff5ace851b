use Rattle.std.proofs.Common.{Some, Ok, refl, inl, inr}
use Rattle.futures.specs.declared.task.Poll.TheVariants.{Ready}
use Rattle.pg_types.specs.declared.error.Error.TheVariants.{OutOfMemory}
use Rattle.pg_wire.specs.LinkCalls.{Continues}
use Rattle.pg_wire.proofs.HandedOn.{handed-on}
use Rattle.pg_hub.specs.Fits.{HubBecomes}
use Rattle.pg_play.proofs.Following.{continues_poll}
use Rattle.pg_play.proofs.Later.{poll_later}
use Rattle.pg_play.proofs.play.Play+S+S+Answer+S+Slots.poll_connection.Given.{Over}
use Rattle.pg_play.proofs.play.Play+S+S+Answer+S+Slots.poll_connection.Goals.{After-push}
use Rattle.pg_play.proofs.play.Play+S+S+Answer+S+Slots.poll_connection.Goals as goal

pub returns-in-Ready-Some-Err-clause-error : goal.returns-in-Ready-Some-Err-clause-error
returns-in-Ready-Some-Err-clause-error g c =
    poll_later HubBecomes c.args.self.now.hub c.poll_message.new.hub c.args.self.now.streams c.poll_message.new.self
    (g.L.Link.view c.args.link.now) (g.L.Link.view c.poll_message.new.link) c.in-Ready-Some-Err.error (rw c.in-Ready-Some-Err.field-0-0-is at (rw c.in-Ready-Some-Err.field-0-is at c.in-Ready-Some-Err.ensures.answer))

-- the link goes on, whether the message is kept or not
link : (g : Over) (c : After-push g) → Continues (g.L.Link.view c.args.link.now) (g.L.Link.view c.poll_message.new.link)
link g c =
    continues_poll HubBecomes c.args.self.now.hub c.poll_message.new.hub c.args.self.now.streams c.poll_message.new.self
    (g.L.Link.view c.args.link.now) (g.L.Link.view c.poll_message.new.link) _ c.poll_message.ensures.answer

pub returns-in_ok-push-in-Ready-Some-Ok-clause-link : goal.returns-in_ok-push-in-Ready-Some-Ok-clause-link
returns-in_ok-push-in-Ready-Some-Ok-clause-link g c = link g (goal.at.returns-in_ok-push-in-Ready-Some-Ok-clause-link g c).After-push

pub returns-in_err-push-in-Ready-Some-Ok-clause-link : goal.returns-in_err-push-in-Ready-Some-Ok-clause-link
returns-in_err-push-in-Ready-Some-Ok-clause-link g c = link g (goal.at.returns-in_err-push-in-Ready-Some-Ok-clause-link g c).After-push

pub returns-in-Ready-Some-Err-clause-fails : goal.returns-in-Ready-Some-Err-clause-fails
returns-in-Ready-Some-Err-clause-fails g c = inr (record {
  hub = c.poll_message.new.hub;
  streams = c.poll_message.new.self;
  polled = rw c.in-Ready-Some-Err.field-0-0-is at (rw c.in-Ready-Some-Err.field-0-is at c.in-Ready-Some-Err.ensures.answer);
  kept = rw c.in-Ready-Some-Err.field-0-0-is at (rw c.in-Ready-Some-Err.field-0-is at c.in-Ready-Some-Err.ensures.limit_kept);
})

pub returns-in_err-push-in-Ready-Some-Ok-clause-fails : goal.returns-in_err-push-in-Ready-Some-Ok-clause-fails
returns-in_err-push-in-Ready-Some-Ok-clause-fails g c =
    let w = c.in-Ready-Some-Ok in
    rw (handed-on c.from_residual.result OutOfMemory c.from_residual.ensures.1) (inl (record {
      memory = refl;
      crossed = inr (record {
        hub = c.poll_message.new.hub;
        streams = c.poll_message.new.self;
        answer = Ready (Some (Ok w.message));
        polled = rw w.field-0-0-is at (rw w.field-0-is at w.ensures.answer);
        misses = c.poll_message.ensures.quiet;
        fine = tt;
      });
    }))

pub returns-in_ok-push-in-Ready-Some-Ok-clause-polled : goal.returns-in_ok-push-in-Ready-Some-Ok-clause-polled
returns-in_ok-push-in-Ready-Some-Ok-clause-polled g c =
    let w = c.in-Ready-Some-Ok in
    record {
      answer = Ready (Some (Ok w.message));
      polled = rw w.field-0-0-is at (rw w.field-0-is at w.ensures.answer);
      misses = c.poll_message.ensures.quiet;
      hands = (c.in_ok-push-in-Ready-Some-Ok.ensures.items, refl);
      says = refl;
      kept = rw w.field-0-0-is at (rw w.field-0-is at w.ensures.limit_kept);
      handles = refl;
      unanswered = refl;
      trace = refl;
    }
