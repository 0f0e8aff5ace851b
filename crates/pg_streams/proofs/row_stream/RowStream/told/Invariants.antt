use Rattle.std.proofs.Common.{◌≡◌, true, length}
use Rattle.pg_streams.specs.RowStates.{rows_behind}
use Rattle.pg_streams.proofs.row_stream.RowStream.told.Given as goal

-- the batches that were read told nothing
abbrev pub invariant-loop-told : goal.invariant-loop-told
invariant-loop-told l = record {
  same : rows_behind l.self ≡ rows_behind l.initial.self;
  taken : l.self.taken ≡ true;
  over : l.self.items.over ≡ l.initial.self.items.over;
  statement : l.self.items.giving.statement ≡ l.initial.self.items.giving.statement;
}

abbrev pub decreases-loop-told : goal.decreases-loop-told
decreases-loop-told l = length l.self.later.items
