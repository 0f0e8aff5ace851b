use Rattle.std.proofs.Common.{◌∙◌}
use Rattle.pg_wire.proofs.Empties.{empty-so}
use Rattle.pg_wire.proofs.backend.BackendMessages.is_empty.Goals as goal

pub returns : goal.returns
returns c = c.is_empty.ensures ∙ empty-so c.self.inside.bytes _ c.self.view_is c.self.invariant.whole
