use Rattle.std.proofs.Common.{◌≡◌, ◌-◌, ◌≤◌, map, slice_get, string_bytes}
use Rattle.pg_connect.proofs.parameters.Parameters.at.Given as goal

abbrev pub invariant-loop-name : goal.invariant-loop-name
invariant-loop-name l = record {
  below : l.place ≤ l.i;
  rest : slice_get l.self l.i ≡ slice_get (map (λ e. (string_bytes e.0, string_bytes e.1)) l.name-iterator) (l.i - l.place);
}
