-- Where a command unfolds from where a turn led, it unfolds from before it.
use Rattle.std.proofs.Common.{◌≡◌, ℕ, zero, suc, ◌+◌, ◌≤◌, nat_le, List, [], ◌∷◌, ◌++◌, take, Bool, true, false, if◌then◌else◌, Option, Some, None, refl, ap, ◌∙◌, arith}
use Rattle.std.proofs.lemmas.Bool.Decides.{nat_tests}
use Rattle.pg_spec.specs.RawMessages.{RawMessage}
use Rattle.pg_spec.specs.Turns.{IsFirstTurn, IsOwnTurn}
use Rattle.pg_spec.specs.Dialogues.{Dialogue, Answers, Asks, Sends, Reads, Puts, Closes, Calls, decided_after}
use Rattle.pg_spec.specs.Courses.{Asked, Course, Request, Point, Given, Unfolds, unread, delivered_to, Who}
use Rattle.pg_core.proofs.Walk.{Step, goes, stands, with_parts, is_delivered, may_read}

-- What a turn leads to: it reads no more in that turn; and where it unfolds from there, it unfolds from before.
pub record Went {Q R A : Type 0} (course : Course Q R) (handle : ℕ) (at : Point) (d : Dialogue Q R A) (s : Step Q R A) : Type 0 where
  pub turn : s.at.turn ≡ at.turn
  pub stuck : may_read course at.turn s.at s.left ≡ false
  pub unfolds : (later : List (List ℕ)) (more : List Request) (others : List (Asked Q R)) (given : Given A) → Unfolds course handle (with_parts later s.at) s.left more others given →
      Unfolds course handle (with_parts (s.parts later) at) d (s.requests later ++ more) (s.asked ++ others) given

le-of : (a b : ℕ) → nat_le a b ≡ true → a ≤ b
le-of a b e = grind (arith, nat_tests, e)

-- in its own turn, a message that was delivered is read at once
at-once : {Q R : Type 0} (course : Course Q R) (handle : ℕ) (at : Point) (n : ℕ) → IsOwnTurn course.trace handle at.turn at.turn → is_delivered course at at.turn (Some n) ≡ true →
    IsFirstTurn course.trace handle at.turn (λ place. at.read + n ≤ delivered_to course at.request place) at.turn
at-once course handle at n own e = record {
  made = own.made;
  own = own.own;
  no_sooner = omega arith;
  holds = le-of (at.read + n) (delivered_to course at.request at.turn) e;
  first = λ earlier from before mine holds. omega (arith, from, before);
}

-- a reading, by what decides it
abbrev chosen : {Q R A : Type 0} → (List Q → Q → R) → Course Q R → Who → ℕ → List Q → Point → (List RawMessage → Bool) → (List RawMessage → Dialogue Q R A) → (room : ℕ) → Option ℕ → Step Q R A
chosen tells course who number before at decides next room None = stands at (Reads decides next)
chosen tells course who number before at decides next room (Some n) =
    if is_delivered course at at.turn (Some n)
    then goes tells course who number before (record at { turn = at.turn; read = at.read + n }) (next (take n (unread course at))) room
    else stands at (Reads decides next)

read-went : {Q R A : Type 0} (tells : List Q → Q → R) (course : Course Q R) (who : Who) (number : ℕ) (before : List Q) (at : Point) (decides : List RawMessage → Bool) (next : List RawMessage → Dialogue Q R A) (room : ℕ) →
    IsOwnTurn course.trace who.handle at.turn at.turn →
    ((n : ℕ) → Went course who.handle (record at { turn = at.turn; read = at.read + n }) (next (take n (unread course at)))
    (goes tells course who number before (record at { turn = at.turn; read = at.read + n }) (next (take n (unread course at))) room)) →
    (o : Option ℕ) → decided_after decides (unread course at) ≡ o → Went course who.handle at (Reads decides next) (chosen tells course who number before at decides next room o)
read-went tells course who number before at decides next room own w None e = record {
  turn = refl;
  stuck = ap (is_delivered course at at.turn) e;
  unfolds = λ later more others given h. h;
}
read-went {Q} {R} {A} tells course who number before at decides next room own w (Some n) e = by (is_delivered course at at.turn (Some n)) refl
  where
    by : (b : Bool) → is_delivered course at at.turn (Some n) ≡ b → Went course who.handle at (Reads decides next)
        (if b then goes tells course who number before (record at { turn = at.turn; read = at.read + n }) (next (take n (unread course at))) room else stands at (Reads decides next))
    by true d = record {
      turn = (w n).turn;
      stuck = (w n).stuck;
      unfolds = λ later more others given h. (n, e, at.turn, at-once course who.handle at n own d, (w n).unfolds later more others given h);
    }
    by false d = record {
      turn = refl;
      stuck = ap (is_delivered course at at.turn) e ∙ d;
      unfolds = λ later more others given h. h;
    }

pub went : {Q R A : Type 0} (tells : List Q → Q → R) (course : Course Q R) (who : Who) (number : ℕ) (before : List Q) (at : Point) (d : Dialogue Q R A) (room : ℕ) →
    IsOwnTurn course.trace who.handle at.turn at.turn → Went course who.handle at d (goes tells course who number before at d room)
went tells course who number before at (Answers a) room own = record { turn = refl; stuck = refl; unfolds = λ later more others given h. h }
went {Q} {R} {A} tells course who number before at (Asks copying part d) room own =
    let s : Step Q R A = goes tells course who (number + 1) before (record { turn = at.turn; request = Some number; read = 0; parts = [] }) d room in
    let w = went tells course who (number + 1) before (record { turn = at.turn; request = Some number; read = 0; parts = [] }) d room own in
    record { turn = w.turn; stuck = w.stuck; unfolds = λ later more others given h. (refl, refl, s.parts later, refl, w.unfolds later more others given h) }
went tells course who number before at (Sends part d) room own =
    let w = went tells course who (number + 1) before at d room own in
    record { turn = w.turn; stuck = w.stuck; unfolds = λ later more others given h. (refl, refl, w.unfolds later more others given h) }
went tells course who number before at (Reads decides next) room own =
    read-went tells course who number before at decides next room own
    (λ n. went tells course who number before (record at { turn = at.turn; read = at.read + n }) (next (take n (unread course at))) room own)
    (decided_after decides (unread course at)) refl
went tells course who number before at (Puts part d) zero own = record { turn = refl; stuck = refl; unfolds = λ later more others given h. h }
went {Q} {R} {A} tells course who number before at (Puts part d) (suc room) own =
    let s : Step Q R A = goes tells course who number before at d room in
    let w = went tells course who number before at d room own in
    record { turn = w.turn; stuck = w.stuck; unfolds = λ later more others given h. (at.turn, own, s.parts later, refl, w.unfolds later more others given h) }
went {Q} {R} {A} tells course who number before at (Closes part d) room own =
    let s : Step Q R A = goes tells course who number before at d room in
    let w = went tells course who number before at d room own in
    record { turn = w.turn; stuck = w.stuck; unfolds = λ later more others given h. (s.parts later, refl, w.unfolds later more others given h) }
went tells course who number before at (Calls q next) room own =
    let w = went tells course who number (before ++ q ∷ []) at (next (tells before q)) room own in
    record { turn = w.turn; stuck = w.stuck; unfolds = λ later more others given h. (refl, refl, w.unfolds later more others given h) }
