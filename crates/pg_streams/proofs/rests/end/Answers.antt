use Rattle.std.proofs.Common.{Bool, ◌||◌, sym, ap, ◌∙◌}
use Rattle.pg_execute.specs.Typed.{has_ended}
use Rattle.pg_wire.specs.Faults.{wire_fault}
use Rattle.pg_streams.proofs.Ending.{fault-ends, none-ends, one-ends}
use Rattle.pg_streams.proofs.rests.end.Goals as goal

pub returns-in-Ok-None : goal.returns-in-Ok-None
returns-in-Ok-None c = sym (c.loop-left.invariant ∙ none-ends c.loop-left.left c.next.new.self c.in-Ok-None.field-0 c.in-Ok-None.field-0-is c.in-Ok-None.ensures)

pub returns-then-ends : goal.returns-then-ends
returns-then-ends c =
    sym (c.loop-left.invariant ∙ one-ends c.loop-left.left c.next.new.self c.in-Ok-Some.field-0 c.in-Ok-Some.message c.in-Ok-Some.field-0-is c.in-Ok-Some.ensures
    ∙ ap (λ (b : Bool). b || has_ended c.next.new.self) (sym c.ends.ensures ∙ c.if-ends.true))

pub loop-left-preserved : goal.loop-left-preserved
loop-left-preserved c =
    c.loop-left.invariant ∙ one-ends c.loop-left.left c.next.new.self c.in-Ok-Some.field-0 c.in-Ok-Some.message c.in-Ok-Some.field-0-is c.in-Ok-Some.ensures
    ∙ ap (λ (b : Bool). b || has_ended c.next.new.self) (sym c.ends.ensures ∙ c.if-ends.false)

pub returns-in-Some : goal.returns-in-Some
returns-in-Some c = sym (c.loop-left.invariant ∙ fault-ends c.loop-left.left c.next.new.self (wire_fault c.in-Err.fault) c.in-Some.field-0 (sym c.in-Some.is ∙ c.malformed.ensures) c.in-Err.ensures)
