use Rattle.std.proofs.Common.{◌≡◌, take, length}
use Rattle.pg_spec.specs.Passwords.{xor_bytes}
use Rattle.pg_scram.proofs.mac.xor.Given as goal

-- the bytes up to here are joined
abbrev pub invariant-loop-i : goal.invariant-loop-i
invariant-loop-i g l = record {
  full : length l.out ≡ length l.a;
  joined : take l.i l.out ≡ take l.i (xor_bytes l.a l.b);
}
