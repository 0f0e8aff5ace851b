use Rattle.std.proofs.Common.{arith, length, ap}
use Rattle.pg_wire.proofs.Pairs.{room_for_pair}
use Rattle.pg_wire.proofs.frontend.put_pairs.Goals as goal

pub put_text-requires : goal.put_text-requires
put_text-requires c =
    let room = room_for_pair _ _ _ _ _ c.loop-name-test.true c.loop-name-item.is c.loop-name.invariant.spare c.requires in
    omega (arith, room, ap length c.as_str.ensures)

pub put_text-requires-in-loop-name : goal.put_text-requires-in-loop-name
put_text-requires-in-loop-name c =
    let room = room_for_pair _ _ _ _ _ c.loop-name-test.true c.loop-name-item.is c.loop-name.invariant.spare c.requires in
    omega (arith, room, ap length c.as_str.ensures, ap length c.as_str-in-loop-name.ensures, c.put_text.ensures.spare)
