use Rattle.pg_wire.proofs.Pieces.{whole_by_parse}
use Rattle.pg_machine.proofs.front.front.Goals as goal

pub returns-else-s-n : goal.returns-else-s-n
returns-else-s-n c =
    whole_by_parse _ _ _ _ c.in-Ok-Some.field-0-is c.in-Ok-Some.ensures.incomplete c.in-Ok-Some.ensures.header
    c.in-Ok-Some.ensures.bad_length c.len.ensures c.if-s-n.false
