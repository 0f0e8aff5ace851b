use Rattle.std.proofs.Common.{◌++◌, List, ℕ, refl, ap, ◌∙◌}
use Rattle.pg_startup.specs.Stages.{login_of}
use Rattle.pg_startup.specs.declared.transfer.Transfer.{Transfer}
use Rattle.pg_startup.proofs.Opening.{opens}
use Rattle.pg_startup.proofs.startup.Startup.new.Goals as goal

pub returns-clause-fresh : goal.returns-clause-fresh
returns-clause-fresh c begin =
    opens (login_of c.args.login) c.args.asked begin _ c.new.result c.in-Ok.frame.items c.in-Ok.ensures
    (c.in-Ok-from_slice.ensures.items ∙ c.as_slice-2.ensures)
    (c.in-Ok-queue.ensures.queued.0 ∙ ap (λ (l : List ℕ). l ++ c.as_slice.result.now) c.new-bytes.ensures.unsent ∙ c.as_slice.ensures)
    (ap (λ (x : Transfer). x.buffer.items) c.queue.ensures.same ∙ c.new-bytes.ensures.buffer)
    c.in-Ok-queue.ensures.queued.1
    (ap (λ (x : Transfer). x.given) c.queue.ensures.same ∙ c.new-bytes.ensures.given)
    refl c.new.ensures.login c.new.ensures.phase refl c.new-2.ensures.items c.new-3.ensures refl refl
