use Rattle.std.proofs.Common.{◌≤◌}
use Rattle.pg_search.proofs.size.+size.Given as goal

-- no more room is left than there was
abbrev pub invariant-room_behind_fields-loop-field : goal.invariant-room_behind_fields-loop-field
invariant-room_behind_fields-loop-field l = l.left ≤ l.room
