-- A dialogue that unfolds does so too where its answer is told in other words.
use Rattle.std.proofs.Common.{ℕ, ◌+◌, List, [], ◌∷◌, take, Some, ap}
use Rattle.pg_spec.specs.Dialogues.{Dialogue, Answers, Asks, Sends, Reads, Puts, Closes, Calls, behind}
use Rattle.pg_spec.specs.Courses.{Asked, Course, Given, Point, Request, Unfolds, unread}

pub told-so : {Q R A B : Type 0} (course : Course Q R) (handle : ℕ) (at : Point) (d : Dialogue Q R A) (f : A → B) (requests : List Request) (asked : List (Asked Q R)) (given : Given A) →
    Unfolds course handle at d requests asked given → Unfolds course handle at (behind d (λ a. Answers (f a))) requests asked (record { at = given.at; answer = f given.answer })
told-so {Q} {R} {A} {B} course handle at (Answers a) f requests asked given (none, nothing, whole, is) =
    (none, nothing, whole, ap (λ (g : Given A). let x : Given B = record { at = g.at; answer = f g.answer } in x) is)
told-so course handle at (Asks copying part d) f [] asked given h = absurd h
told-so course handle at (Asks copying part d) f (r ∷ requests) asked given (whole, turn, more, parts, h) =
    (whole, turn, more, parts, told-so course handle (record { turn = at.turn; request = Some r.number; read = 0; parts = more }) d f requests asked given h)
told-so course handle at (Sends part d) f [] asked given h = absurd h
told-so course handle at (Sends part d) f (r ∷ requests) asked given (turn, parts, h) = (turn, parts, told-so course handle at d f requests asked given h)
told-so course handle at (Reads decides next) f requests asked given (n, decided, turn, first, h) =
    (n, decided, turn, first, told-so course handle (record at { turn = turn; read = at.read + n }) (next (take n (unread course at))) f requests asked given h)
told-so course handle at (Puts part d) f requests asked given (turn, own, more, parts, h) = (turn, own, more, parts, told-so course handle (record at { turn = turn; parts = more }) d f requests asked given h)
told-so course handle at (Closes part d) f requests asked given (more, parts, h) = (more, parts, told-so course handle (record at { parts = more }) d f requests asked given h)
told-so course handle at (Calls q next) f requests [] given h = absurd h
told-so course handle at (Calls q next) f requests (a ∷ asked) given (turn, question, h) = (turn, question, told-so course handle at (next a.reply) f requests asked given h)
