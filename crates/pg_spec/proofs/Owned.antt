-- A command answers in a turn of its own handle.
use Rattle.std.proofs.Common.{ℕ, ◌+◌, ◌≤◌, List, [], ◌∷◌, take, Some, ap, sym, subst, arith}
use Rattle.pg_spec.specs.Turns.{IsOwnTurn}
use Rattle.pg_spec.specs.Dialogues.{Dialogue, Answers, Asks, Sends, Reads, Puts, Closes, Calls}
use Rattle.pg_spec.specs.Courses.{Asked, Course, Request, Point, Given, Unfolds, unread}

later : {Q R : Type 0} (course : Course Q R) (handle a b c : ℕ) → a ≤ b → IsOwnTurn course.trace handle b c → IsOwnTurn course.trace handle a c
later course handle a b c le h = record { made = h.made; own = h.own; no_sooner = (let k = h.no_sooner in omega (arith, le, k)) }

pub owned : {Q R A : Type 0} (course : Course Q R) (handle : ℕ) (at : Point) (d : Dialogue Q R A) (requests : List Request) (asked : List (Asked Q R)) (given : Given A) →
    IsOwnTurn course.trace handle at.turn at.turn → Unfolds course handle at d requests asked given → IsOwnTurn course.trace handle at.turn given.at.turn
owned {A = A} course handle at (Answers a) requests asked given own h =
    subst (λ (t : ℕ). IsOwnTurn course.trace handle at.turn t) (sym (ap (λ (g : Given A). g.at.turn) h.3)) own
owned course handle at (Asks copying part d) [] asked given own h = absurd h
owned course handle at (Asks copying part d) (r ∷ requests) asked given own (whole, turn, more, parts, h) =
    owned course handle (record { turn = at.turn; request = Some r.number; read = 0; parts = more }) d requests asked given own h
owned course handle at (Sends part d) [] asked given own h = absurd h
owned course handle at (Sends part d) (r ∷ requests) asked given own (turn, parts, h) = owned course handle at d requests asked given own h
owned course handle at (Reads decides next) requests asked given own (n, decided, turn, first, h) =
    later course handle at.turn turn given.at.turn first.no_sooner
    (owned course handle (record at { turn = turn; read = at.read + n }) (next (take n (unread course at))) requests asked given
    (record { made = first.made; own = first.own; no_sooner = omega arith }) h)
owned course handle at (Puts part d) requests asked given own (turn, mine, more, parts, h) =
    later course handle at.turn turn given.at.turn mine.no_sooner
    (owned course handle (record at { turn = turn; parts = more }) d requests asked given (record { made = mine.made; own = mine.own; no_sooner = omega arith }) h)
owned course handle at (Closes part d) requests asked given own (more, parts, h) = owned course handle (record at { parts = more }) d requests asked given own h
owned course handle at (Calls q next) requests [] given own h = absurd h
owned course handle at (Calls q next) requests (a ∷ asked) given own (turn, question, h) = owned course handle at (next a.reply) requests asked given own h
