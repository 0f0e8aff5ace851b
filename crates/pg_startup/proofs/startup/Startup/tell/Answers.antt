use Rattle.std.proofs.Common.{ℕ, [], ◌∷◌, ◌++◌, List, length, append-nil, refl, sym, ap, ◌∙◌, arith}
use Rattle.pg_wire.specs.Messages.{message_view}
use Rattle.pg_startup.specs.declared.startup.Startup.{Startup}
use Rattle.pg_startup.proofs.Telling.{adds-none, lower-sends, told-done, told-refused, told-short, told-writes}
use Rattle.pg_startup.proofs.startup.Startup.tell.Goals as goal

pub returns-in-Err-queue-clause-told : goal.returns-in-Err-queue-clause-told
returns-in-Err-queue-clause-told c l first read raw p going means =
    told-short l first read raw (message_view c.args.message.now) c.args.self.now c.queue.new.self c.in-Some.dialogue p going (sym c.in-Some.ensures.value)
    (c.in-Err-queue.ensures.queued.opening ∙ append-nil c.args.self.now.opening.items)

pub returns-in-Ok-More-clause-told : goal.returns-in-Ok-More-clause-told
returns-in-Ok-More-clause-told c l first read raw p going means =
    let told = rw c.in-Ok-More.field-0-is at c.in-Ok-More.ensures in
    told-writes l first read raw (message_view c.args.message.now) c.args.self.now c.go_on.new.self c.in-Some.dialogue [] c.in-Ok-More.next p going means (sym c.in-Some.ensures.value) told.0 told.1
    (ap (λ (x : Startup). x.dialogue) c.go_on.ensures) (ap (λ (x : Startup). x.done) c.go_on.ensures)
    (ap (λ (x : Startup). x.opening.items) c.go_on.ensures ∙ sym (append-nil c.args.self.now.opening.items))

pub returns-in-Ok-More-clause-queues : goal.returns-in-Ok-More-clause-queues
returns-in-Ok-More-clause-queues c =
    ([], adds-none c.args.self.now c.go_on.new.self (ap (λ (x : Startup). x.opening) c.go_on.ensures) (ap (λ (x : Startup). x.bytes) c.go_on.ensures))

pub returns-in-Ok-clause-told : goal.returns-in-Ok-clause-told
returns-in-Ok-clause-told c l first read raw p going means =
    let told = rw c.in-Ok-Sends.field-0-is at c.in-Ok-Sends.ensures in
    let s = c.args.self.now in
    let now = c.go_on-in-Ok-Sends.ensures in
    told-writes l first read raw (message_view c.args.message.now) s c.go_on-in-Ok-Sends.new.self c.in-Some.dialogue (c.in-Ok-Sends.frame.items ∷ []) c.in-Ok-Sends.next p going means (sym c.in-Some.ensures.value) told.0 told.1
    (ap (λ (x : Startup). x.dialogue) now) (ap (λ (x : Startup). x.done) now ∙ ap (λ (x : Startup). x.done) c.in-Ok.ensures.same)
    (ap (λ (x : Startup). x.opening.items) now ∙ c.in-Ok.ensures.queued.opening
    ∙ ap (λ (f : List ℕ). s.opening.items ++ f) (c.as_slice.ensures ∙ sym (append-nil c.in-Ok-Sends.frame.items)))

pub returns-in-Ok-clause-lower : goal.returns-in-Ok-clause-lower
returns-in-Ok-clause-lower c =
    let told = rw c.in-Ok-Sends.field-0-is at c.in-Ok-Sends.ensures in
    let now = c.go_on-in-Ok-Sends.ensures in
    lower-sends c.args.self.now c.go_on-in-Ok-Sends.new.self c.in-Some.dialogue c.in-Ok-Sends.next (message_view c.args.message.now) c.in-Ok-Sends.frame.items c.as_slice.result.now (sym c.in-Some.ensures.value) told.0
    (ap (λ (x : Startup). x.dialogue) now) (ap (λ (x : Startup). x.bytes.unsent.items) now ∙ c.in-Ok.ensures.queued.unsent)
    (omega (arith, ap (λ (f : List ℕ). length f) c.as_slice.ensures))

pub returns-in-Ok-Done-clause-told : goal.returns-in-Ok-Done-clause-told
returns-in-Ok-Done-clause-told c l first read raw p going means =
    let told = rw c.in-Ok-Done.field-0-is at c.in-Ok-Done.ensures in
    told-done l first read raw (message_view c.args.message.now) c.args.self.now c.end.new.self c.in-Some.dialogue p going means (sym c.in-Some.ensures.value) told
    (ap (λ (x : Startup). x.dialogue) c.end.ensures ∙ c.take.ensures.after) (ap (λ (x : Startup). x.done) c.end.ensures) (ap (λ (x : Startup). x.opening.items) c.end.ensures)

pub returns-in-Ok-Done-clause-queues : goal.returns-in-Ok-Done-clause-queues
returns-in-Ok-Done-clause-queues c =
    ([], adds-none c.args.self.now c.end.new.self (ap (λ (x : Startup). x.opening) c.end.ensures) (ap (λ (x : Startup). x.bytes) c.end.ensures))

pub returns-in-Err-clause-told : goal.returns-in-Err-clause-told
returns-in-Err-clause-told c l first read raw p going means =
    told-refused l first read raw (message_view c.args.message.now) c.args.self.now (record c.args.self.now { dialogue = c.take.new.self }) c.in-Some.dialogue c.in-Err.error p going means (sym c.in-Some.ensures.value) c.in-Err.ensures refl
