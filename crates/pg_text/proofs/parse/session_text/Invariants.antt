use Rattle.std.proofs.Common.{◌≡◌, ◌+◌, ◌-◌, ◌≤◌, length, true}
use Rattle.pg_text.specs.Drafts.{IsWithin, so_far}
use Rattle.pg_text.specs.Scripts.{are_typed}
use Rattle.pg_text.proofs.ReadLaws.{HasRead}
use Rattle.pg_text.proofs.parse.session_text.Given as goal

abbrev pub invariant-loop-rest : goal.invariant-loop-rest
invariant-loop-rest l = record {
  read : HasRead l.text l.rest l.number (so_far l.draft);
  within : IsWithin (length l.text - length l.rest) l.draft;
  typed : are_typed l.draft.scripts.items ≡ true;
  number : l.number + length l.rest ≤ length l.text + 1;
  rest : length l.rest ≤ length l.text;
}

abbrev pub decreases-loop-rest : goal.decreases-loop-rest
decreases-loop-rest l = length l.rest
