use Rattle.std.proofs.Common.{◌≡◌, List, refl, subst, true}
use Rattle.pg_spec.specs.Batches.{is_batch}
use Rattle.pg_spec.specs.RawMessages.{RawMessage, messages, ends_in, is_ready}
use Rattle.pg_wire.proofs.BatchLaws.{batch-by_end}
use Rattle.pg_wire.proofs.backend.BackendMessages.batch_law.Goals as goal

pub returns : goal.returns
returns c =
    let ms = messages c.self.inside.bytes in
    subst (λ (ms : List RawMessage). is_batch (ends_in is_ready ms) ms ≡ true) c.self.view_is (batch-by_end (ends_in is_ready ms) ms c.self.invariant.batch refl)
