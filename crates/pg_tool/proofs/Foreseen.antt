-- What comes of a command by the replies to its requests, where its desk tells by what was asked before.
use Rattle.std.specs.Prelude.{List, [], ◌∷◌, ◌++◌, take, drop, Some, None}
use Rattle.pg_spec.specs.Courses.{Outcome, first_reply, later_replies, nothing_yet, with_part, with_question, with_request, with_sent}
use Rattle.pg_spec.specs.Dialogues.{Dialogue, Answers, Asks, Sends, Reads, Puts, Closes, Calls, decided_after}
use Rattle.pg_spec.specs.RawMessages.{RawMessage}

-- its outcome, where this was asked before, these are the replies to its next requests, and this is left of the one that it reads
abbrev pub foreseen : {Q R A : Type 0} → (tells : List Q → Q → R) → Dialogue Q R A → (before : List Q) → (replies : List (List RawMessage)) → (left : List RawMessage) → Outcome Q A
foreseen tells (Answers a) before replies left = record { parts = []; requests = []; asked = []; answer = Some a; left = left }
foreseen tells (Asks copying part d) before replies left = with_request part (foreseen tells d before (later_replies replies) (first_reply replies))
foreseen tells (Sends part d) before replies left = with_sent part (foreseen tells d before (later_replies replies) left)
foreseen tells (Reads decides next) before replies left = elim (decided_after decides left) [
  | None ↦ nothing_yet
  | Some n ↦ foreseen tells (next (take n left)) before replies (drop n left)
]
foreseen tells (Puts part d) before replies left = with_part part (foreseen tells d before replies left)
foreseen tells (Closes part d) before replies left = with_part part (foreseen tells d before replies left)
foreseen tells (Calls q next) before replies left = with_question q (foreseen tells (next (tells before q)) (before ++ q ∷ []) replies left)
