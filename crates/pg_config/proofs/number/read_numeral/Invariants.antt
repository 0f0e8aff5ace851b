use Rattle.std.proofs.Common.{◌≡◌, ◌≤◌, drop}
use Rattle.pg_config.proofs.NumberLaws.{extended}
use Rattle.pg_config.proofs.number.read_numeral.Given as goal

abbrev pub invariant-loop-digit : goal.invariant-loop-digit
invariant-loop-digit l = record {
  fits : l.value ≤ l.most;
  read : extended l.radix l.most l.value (drop l.digit-index l.digits) ≡ extended l.radix l.most 0 l.digits;
}
