use Rattle.std.proofs.Common.{◌^◌, ◌≤◌, arith}
use Rattle.pg_values.proofs.NumberLaws.{tens_grow}
use Rattle.pg_values.proofs.numeric.power.Goals as goal

pub overflow_mul-n : goal.overflow_mul-n
overflow_mul-n c =
    let most : 10 ^ c.loop.counter ≤ 10 ^ 37 = tens_grow c.loop.counter 37 (omega arith) in
    omega (arith, most, c.loop.invariant)
