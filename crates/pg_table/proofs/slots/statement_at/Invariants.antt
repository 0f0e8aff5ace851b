use Rattle.std.proofs.Common.{◌≡◌, drop}
use Rattle.pg_table.specs.Slots.{statement_in}
use Rattle.pg_table.proofs.slots.statement_at.Given as goal

-- it is the one of the slots that are left
abbrev pub invariant-loop-slot : goal.invariant-loop-slot
invariant-loop-slot l = statement_in l.slots l.fn.number ≡ statement_in (drop l.slot-index l.slots) l.fn.number
