use Rattle.std.proofs.Common.{◌≡◌, take, drop}
use Rattle.pg_config.specs.Addresses.{around_gap}
use Rattle.pg_config.proofs.GroupLaws.{behind_front}
use Rattle.pg_config.proofs.address.gap_in.Given as goal

abbrev pub invariant-loop-at : goal.invariant-loop-at
invariant-loop-at l = around_gap l.text ≡ behind_front (take l.at l.text) (around_gap (drop l.at l.text))
