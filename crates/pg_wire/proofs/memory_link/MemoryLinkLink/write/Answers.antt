use Rattle.std.proofs.Common.{false, sym, subst, ◌∙◌}
use Rattle.pg_wire.specs.LinkCalls.{Keeps}
use Rattle.pg_wire.specs.Memory.{Memory, link_of}
use Rattle.pg_wire.specs.MemoryLinks.{memory_of}
use Rattle.pg_wire.proofs.MemoryLaws.{write-keeps}
use Rattle.pg_wire.proofs.memory_link.MemoryLinkLink.write.Goals as goal

pub returns-clause-keeps : goal.returns-clause-keeps
returns-clause-keeps c =
    let old = memory_of c.self.inside in
    let taken = c.extend_from_slice.new.self.items in
    subst (λ (m : Memory). Keeps (link_of m) (link_of (record old { taken = taken; promised = false; flushed = false }))) c.self.view_is
    (write-keeps old taken _ c.self.inside.turning c.extend_from_slice.result c.self.invariant.counts c.self.invariant.turns (sym c.is_err.ensures.value ∙ c.if-is_err.false)
    c.extend_from_slice.ensures.items)
