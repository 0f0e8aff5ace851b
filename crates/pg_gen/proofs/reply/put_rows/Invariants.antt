use Rattle.std.proofs.Common.{◌≡◌, ◌++◌, replicate}
use Rattle.pg_gen.specs.Messages.{bytes_of, one_cell}
use Rattle.pg_gen.proofs.reply.put_rows.Given as goal

abbrev pub invariant-loop-row : goal.invariant-loop-row
invariant-loop-row l = l.out.items ≡ l.initial.out.items ++ bytes_of (replicate l.row (one_cell l.value))
