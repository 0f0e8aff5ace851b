-- What comes of a command in a world is its outcome on what that world told.
use Rattle.std.proofs.Common.{◌≡◌, ℕ, List, [], take, drop, Option, Some, None, refl, ap}
use Rattle.pg_spec.specs.RawMessages.{RawMessage}
use Rattle.pg_spec.specs.Courses.{Outcome, nothing_yet, outcome, with_request, with_sent, with_part, with_question, first_reply, later_replies}
use Rattle.pg_spec.specs.Dialogues.{Dialogue, Answers, Asks, Sends, Reads, Puts, Closes, Calls, decided_after}
use Rattle.pg_core.specs.Worlds.{Played, plays}

-- this came of a dialogue, by what was told
abbrev Comes : {W Q R A : Type 0} → Played W Q R A → Dialogue Q R A → List (List RawMessage) → List RawMessage → Type 0
Comes p d replies left = p.outcome ≡ outcome d (record { replies = replies; told = p.told }) left

-- what came behind a reading that so many messages decide
abbrev came-behind : {W Q R A : Type 0} → (W → Q → R × W) → W → List (List RawMessage) → List RawMessage → (List RawMessage → Dialogue Q R A) → Option ℕ → Played W Q R A
came-behind tell w replies left next n = elim n [
  | None ↦ record { outcome = nothing_yet; told = []; world = w; replies = replies }
  | Some k ↦ plays tell w replies (drop k left) (next (take k left))
]

-- the outcome behind it
abbrev outcome-behind : {Q R A : Type 0} → List (List RawMessage) → List R → List RawMessage → (List RawMessage → Dialogue Q R A) → Option ℕ → Outcome Q A
outcome-behind replies told left next n = elim n [
  | None ↦ nothing_yet
  | Some k ↦ outcome (next (take k left)) (record { replies = replies; told = told }) (drop k left)
]

behind-reading : {W Q R A : Type 0} (tell : W → Q → R × W) (w : W) (replies : List (List RawMessage)) (left : List RawMessage) (next : List RawMessage → Dialogue Q R A) (n : Option ℕ) →
    ((k : ℕ) → Comes (plays tell w replies (drop k left) (next (take k left))) (next (take k left)) replies (drop k left)) →
    (came-behind tell w replies left next n).outcome ≡ outcome-behind replies (came-behind tell w replies left next n).told left next n
behind-reading tell w replies left next None each = refl
behind-reading tell w replies left next (Some k) each = each k

pub comes-of-it : {W Q R A : Type 0} (tell : W → Q → R × W) (w : W) (replies : List (List RawMessage)) (left : List RawMessage) (d : Dialogue Q R A) →
    Comes (plays tell w replies left d) d replies left
comes-of-it tell w replies left (Answers a) = refl
comes-of-it tell w replies left (Asks copying part d) = ap (with_request part) (comes-of-it tell w (later_replies replies) (first_reply replies) d)
comes-of-it tell w replies left (Sends part d) = ap (with_sent part) (comes-of-it tell w (later_replies replies) left d)
comes-of-it tell w replies left (Reads decides next) =
    behind-reading tell w replies left next (decided_after decides left) (λ k. comes-of-it tell w replies (drop k left) (next (take k left)))
comes-of-it tell w replies left (Puts part d) = ap (with_part part) (comes-of-it tell w replies left d)
comes-of-it tell w replies left (Closes part d) = ap (with_part part) (comes-of-it tell w replies left d)
comes-of-it tell w replies left (Calls q next) = ap (with_question q) (comes-of-it tell (tell w q).1 replies left (next (tell w q).0))
