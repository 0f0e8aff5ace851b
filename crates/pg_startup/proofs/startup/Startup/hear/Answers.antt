use Rattle.std.proofs.Common.{ap, ◌∙◌, arith}
use Rattle.pg_spec.specs.Startup.{key_of}
use Rattle.pg_wire.specs.Messages.{message_view}
use Rattle.pg_startup.specs.Startups.{sends_left}
use Rattle.pg_startup.specs.declared.startup.Startup.{Startup}
use Rattle.pg_startup.proofs.Walking.{heard-calm, hears-kept, hears-told, key-bytes, key-marks, key-opening, key-sends, queues-kept}
use Rattle.pg_startup.proofs.startup.Startup.hear.Goals as goal

pub returns-in-Ok-clause-heard : goal.returns-in-Ok-clause-heard
returns-in-Ok-clause-heard c l first read raw at going calm means =
    heard-calm l first read raw (message_view c.args.message) c.args.self.now c.tell.new.self c.note_key.new.self c.in-Ok.heard at c.in-Ok.ensures.same calm means
    (c.in-Ok.ensures.told l first read raw at.speaks going means) c.note_key.ensures

pub returns-in-Ok-clause-end : goal.returns-in-Ok-clause-end
returns-in-Ok-clause-end c = key-marks c.args.self.now c.tell.new.self c.note_key.new.self (key_of (message_view c.args.message)) c.in-Ok.heard c.note_key.ensures c.in-Ok.ensures.end

pub returns-in-Ok-clause-queues : goal.returns-in-Ok-clause-queues
returns-in-Ok-clause-queues c =
    queues-kept c.args.self.now c.tell.new.self c.note_key.new.self c.in-Ok.ensures.queues
    (ap (λ (x : Startup). x.opening) c.note_key.ensures ∙ key-opening c.tell.new.self (key_of (message_view c.args.message)))
    (ap (λ (x : Startup). x.bytes) c.note_key.ensures ∙ key-bytes c.tell.new.self (key_of (message_view c.args.message)))

pub returns-in-Ok-clause-lower : goal.returns-in-Ok-clause-lower
returns-in-Ok-clause-lower c =
    let same = ap sends_left c.note_key.ensures ∙ key-sends c.tell.new.self (key_of (message_view c.args.message)) in
    omega (arith, same, c.in-Ok.ensures.lower)

pub returns-in-Ok-clause-same : goal.returns-in-Ok-clause-same
returns-in-Ok-clause-same c =
    hears-kept c.args.self.now c.tell.new.self c.note_key.new.self (hears-told c.args.self.now c.tell.new.self c.in-Ok.ensures.same)
    (ap (λ (x : Startup). x.bytes) c.note_key.ensures ∙ key-bytes c.tell.new.self (key_of (message_view c.args.message)))
