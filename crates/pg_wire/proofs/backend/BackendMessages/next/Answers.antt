use Rattle.pg_wire.proofs.Taken.{batch_behind, nexts}
use Rattle.pg_wire.proofs.backend.BackendMessages.next.Goals as goal

pub invariant_of-self : goal.invariant_of-self
invariant_of-self c = batch_behind _ _ _ c.parse.ensures c.self.invariant

pub returns : goal.returns
returns c = nexts _ _ _ _ c.self.view_is c.parse.ensures c.self.invariant.whole
