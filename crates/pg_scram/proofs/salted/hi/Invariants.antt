use Rattle.std.proofs.Common.{◌≡◌}
use Rattle.pg_spec.specs.Passwords.{hi, hi_value, hmac}
use Rattle.pg_scram.proofs.salted.hi.Given as goal

-- the values up to here are joined, and the next follows from this one
abbrev pub invariant-values : goal.invariant-values
invariant-values l = record {
  next : hmac l.password l.value ≡ hi_value l.password l.salt l.i;
  joined : l.joined ≡ hi l.password l.salt l.i;
}
