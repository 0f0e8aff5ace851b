use Rattle.std.proofs.Common.{◌≡◌, fold, map, drop}
use Rattle.pg_text.specs.Views.{item_of}
use Rattle.pg_gen.specs.Counting.{with_item}
use Rattle.pg_gen.proofs.counts.Counts.with_messages.Given as goal

abbrev pub invariant-loop-message : goal.invariant-loop-message
invariant-loop-message l = fold with_item l.counts (map item_of (drop l.message-index l.messages)) ≡ fold with_item l.initial.counts (map item_of l.messages)
