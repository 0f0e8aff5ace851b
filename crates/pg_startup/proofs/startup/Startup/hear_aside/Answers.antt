use Rattle.std.proofs.Common.{ap, arith}
use Rattle.pg_wire.specs.Messages.{message_view}
use Rattle.pg_startup.specs.Startups.{KeepsAside}
use Rattle.pg_startup.specs.declared.startup.Startup.{Startup}
use Rattle.pg_startup.proofs.Walking.{aside-goes-on, aside-kept, aside-marks, hears-kept, hears-told, kept-sends, queues-kept}
use Rattle.pg_startup.proofs.startup.Startup.hear_aside.Goals as goal

pub returns-in-Ok-More-clause-heard : goal.returns-in-Ok-More-clause-heard
returns-in-Ok-More-clause-heard c l first read raw at going aside means =
    aside-kept l first read raw (message_view c.args.message) c.args.self.now c.tell.new.self c.keep.new.self c.keep.result at c.in-Ok-More.ensures.same aside means c.in-Ok-More.ensures.place
    (rw c.in-Ok-More.field-0-is at (c.in-Ok-More.ensures.told l first read raw at.speaks going means)) c.keep.ensures.same c.keep.ensures.kept c.keep.ensures.err

pub returns-in-Ok-More-clause-end : goal.returns-in-Ok-More-clause-end
returns-in-Ok-More-clause-end c =
    aside-marks c.args.self.now c.tell.new.self c.keep.new.self (KeepsAside c.tell.new.self c.keep.new.self (message_view c.args.message)) c.keep.result
    (rw c.in-Ok-More.field-0-is at c.in-Ok-More.ensures.end) c.keep.ensures.same c.keep.ensures.kept

pub returns-in-Ok-More-clause-queues : goal.returns-in-Ok-More-clause-queues
returns-in-Ok-More-clause-queues c =
    queues-kept c.args.self.now c.tell.new.self c.keep.new.self c.in-Ok-More.ensures.queues (ap (λ (x : Startup). x.opening) c.keep.ensures.same) (ap (λ (x : Startup). x.bytes) c.keep.ensures.same)

pub returns-in-Ok-More-clause-lower : goal.returns-in-Ok-More-clause-lower
returns-in-Ok-More-clause-lower c = omega (arith, kept-sends c.tell.new.self c.keep.new.self c.keep.ensures.same, c.in-Ok-More.ensures.lower)

pub returns-in-Ok-More-clause-same : goal.returns-in-Ok-More-clause-same
returns-in-Ok-More-clause-same c =
    hears-kept c.args.self.now c.tell.new.self c.keep.new.self (hears-told c.args.self.now c.tell.new.self c.in-Ok-More.ensures.same) (ap (λ (x : Startup). x.bytes) c.keep.ensures.same)

pub returns-in-Ok-Done-clause-heard : goal.returns-in-Ok-Done-clause-heard
returns-in-Ok-Done-clause-heard c l first read raw at going aside means =
    absurd (aside-goes-on raw c.args.message aside means (rw c.in-Ok-Done.field-0-is at c.in-Ok-Done.ensures.last))

pub returns-in-Ok-Done-clause-same : goal.returns-in-Ok-Done-clause-same
returns-in-Ok-Done-clause-same c = hears-told c.args.self.now c.tell.new.self c.in-Ok-Done.ensures.same

pub returns-in-Err-clause-heard : goal.returns-in-Err-clause-heard
returns-in-Err-clause-heard c l first read raw at going aside means = c.in-Err.ensures.told l first read raw at.speaks going means

pub returns-in-Err-clause-same : goal.returns-in-Err-clause-same
returns-in-Err-clause-same c = hears-told c.args.self.now c.tell.new.self c.in-Err.ensures.same
