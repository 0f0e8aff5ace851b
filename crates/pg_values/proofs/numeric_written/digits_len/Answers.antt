use Rattle.std.proofs.Common.{◌^◌, ◌≤◌, arith}
use Rattle.std.proofs.Math.Nat.{pow-le-pow_right}
use Rattle.pg_values.proofs.numeric_written.digits_len.Goals as goal

pub overflow_mul-unit : goal.overflow_mul-unit
overflow_mul-unit c =
    let most : 10000 ^ c.loop-len.len ≤ 10000 ^ 8 = pow-le-pow_right {n = 10000} (omega arith) {i = c.loop-len.len} {j = 8} (omega arith) in
    record { fits = omega (arith, most, c.loop-len.invariant.unit_is) }
