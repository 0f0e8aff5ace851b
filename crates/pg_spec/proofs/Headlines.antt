-- A dialogue whose answer is told in other words, and the headline.
use Rattle.std.proofs.Common.{ℕ, ◌+◌, List, [], ◌∷◌, take, Some, ap, subst, ◌∙◌}
use Rattle.pg_spec.specs.Turns.{free_from}
use Rattle.pg_spec.specs.Dialogues.{Dialogue, Answers, Asks, Sends, Reads, Puts, Closes, Calls, behind}
use Rattle.pg_spec.specs.Courses.{Asked, Course, Given, Point, Request, Unfolds, begun_in, nowhere, requests_of, questions_of, unread}
use Rattle.pg_spec.specs.Meanings.{Ending, HasRun, Meaning}
use Rattle.pg_spec.specs.Simples.{AreSimple, Headline, Simply, Unmapped, simple_query}
use Rattle.pg_spec.proofs.Simple.{as-before}

pub unmapped : {Q R A B : Type 0} (course : Course Q R) (handle : ℕ) (at : Point) (d : Dialogue Q R A) (f : A → B) (requests : List Request) (asked : List (Asked Q R)) (given : Given B) →
    Unfolds course handle at (behind d (λ a. Answers (f a))) requests asked given → Unmapped course handle at d f requests asked given
unmapped {Q} {R} {A} {B} course handle at (Answers a) f requests asked given (none, nothing, whole, is) = record {
  answer = a;
  is = ap (λ (g : Given B). g.answer) is;
  unfolds = (none, nothing, whole, ap (λ (g : Given B). let x : Given A = record { at = g.at; answer = a } in x) is);
}
unmapped course handle at (Asks copying part d) f [] asked given h = absurd h
unmapped course handle at (Asks copying part d) f (r ∷ requests) asked given (whole, turn, more, parts, h) =
    let u = unmapped course handle (record { turn = at.turn; request = Some r.number; read = 0; parts = more }) d f requests asked given h in
    record { answer = u.answer; is = u.is; unfolds = (whole, turn, more, parts, u.unfolds) }
unmapped course handle at (Sends part d) f [] asked given h = absurd h
unmapped course handle at (Sends part d) f (r ∷ requests) asked given (turn, parts, h) =
    let u = unmapped course handle at d f requests asked given h in
    record { answer = u.answer; is = u.is; unfolds = (turn, parts, u.unfolds) }
unmapped course handle at (Reads decides next) f requests asked given (n, decided, turn, first, h) =
    let u = unmapped course handle (record at { turn = turn; read = at.read + n }) (next (take n (unread course at))) f requests asked given h in
    record { answer = u.answer; is = u.is; unfolds = (n, decided, turn, first, u.unfolds) }
unmapped course handle at (Puts part d) f requests asked given (turn, own, more, parts, h) =
    let u = unmapped course handle (record at { turn = turn; parts = more }) d f requests asked given h in
    record { answer = u.answer; is = u.is; unfolds = (turn, own, more, parts, u.unfolds) }
unmapped course handle at (Closes part d) f requests asked given (more, parts, h) =
    let u = unmapped course handle (record at { parts = more }) d f requests asked given h in
    record { answer = u.answer; is = u.is; unfolds = (more, parts, u.unfolds) }
unmapped course handle at (Calls q next) f requests [] given h = absurd h
unmapped course handle at (Calls q next) f requests (a ∷ asked) given (turn, question, h) =
    let u = unmapped course handle at (next a.reply) f requests asked given h in
    record { answer = u.answer; is = u.is; unfolds = (turn, question, u.unfolds) }

pub headline : {C A E Q R : Type 0} (meaning : Meaning C A E Q R) (how : Simply C A) → AreSimple meaning how →
    (scripts : List (List C)) (turns : List ℕ) (answers : List (List A)) (course : Course Q R) (run : HasRun meaning scripts turns answers course) →
    Headline how scripts answers course run.schedule
headline {C} {A} {E} {Q} {R} meaning how are scripts turns answers course run handle place c times ec et text wanted is =
    let did = run.did handle place c times ec et in
    let requests = requests_of course.book handle place in
    let asked = questions_of course.asked handle place in
    let unfolds = subst (λ (d : Dialogue Q R (Ending A E)). Unfolds course handle (begun_in nowhere times.begins) d requests asked (record { at = did.at; answer = did.ending }))
    (are did.before c text wanted is) did.unfolds in
    let u = unmapped course handle (begun_in nowhere times.begins) (simple_query text wanted) (λ a. let e : Ending A E = record { answer = how.said a; own = did.before } in e)
    requests asked (record { at = did.at; answer = did.ending }) unfolds in
    record {
      answer = u.answer;
      answered = did.answered ∙ ap (λ (e : Ending A E). Some e.answer) u.is;
      as_before = as-before course handle place text wanted times u.answer (free_from run.schedule handle place)
          (run.begins handle place times et) (nowhere, (did.at, did.in_turn, u.unfolds));
    }
