-- What comes of a command by what it met, its questions too.
use Rattle.std.proofs.Common.{◌≡◌, ℕ, ◌+◌, List, [], ◌∷◌, map, take, drop, Option, Some, None, option_map, refl, sym, ap, ◌∙◌}
use Rattle.std.proofs.lemmas.List.{drop-drop}
use Rattle.pg_spec.specs.RawMessages.{RawMessage}
use Rattle.pg_spec.specs.Turns.{IsFirstTurn, IsOwnTurn}
use Rattle.pg_spec.specs.Dialogues.{Dialogue, Answers, Asks, Sends, Reads, Puts, Closes, Calls, decided_after}
use Rattle.pg_spec.specs.Courses.{Asked, Course, Request, Point, Given, Unfolds, UnfoldsBy, Outcome, Met, nothing_yet, with_request, with_sent, with_part, with_question, past_reply, first_reply, met_in, outcome, reply_to, unread}
use Rattle.pg_spec.specs.Meanings.{Ending, Meaning}
use Rattle.pg_spec.specs.Isolation.{ComesOfIt, DidSo, IsSame, IsByNames, answer_alone}

abbrev made : {Q A : Type 0} → List (List ℕ) → List (List (List ℕ)) → List Q → Option A → List RawMessage → Outcome Q A
made p r q a l = record { parts = p; requests = r; asked = q; answer = a; left = l }

same : {Q A : Type 0} (p p' : List (List ℕ)) (r r' : List (List (List ℕ))) (q q' : List Q) (a a' : Option A) (l l' : List RawMessage) → p ≡ p' → r ≡ r' → q ≡ q' → a ≡ a' → l ≡ l' →
    made p r q a l ≡ made p' r' q' a' l'
same {Q} {A} p p' r r' q q' a a' l l' e f h g k =
    ap (λ (x : List (List ℕ)). made x r q a l) e
    ∙ ap (λ (x : List (List (List ℕ))). made p' x q a l) f
    ∙ ap (λ (x : List Q). made p' r' x a l) h
    ∙ ap (λ (x : Option A). made p' r' q' x l) g
    ∙ ap (λ (x : List RawMessage). made p' r' q' a' x) k

pub comes-by : {Q R A : Type 0} (first : (from : ℕ) → (there : ℕ → Type 0) → (turn : ℕ) → Type 0) (own : (from turn : ℕ) → Type 0) (course : Course Q R) (at : Point) (d : Dialogue Q R A) (requests : List Request) (asked : List (Asked Q R)) (given : Given A) →
    UnfoldsBy first own course at d requests asked given → ComesOfIt course at d requests asked given
comes-by {Q} {R} {A} first own course at (Answers a) requests asked given (none, told, whole, is) =
    same [] at.parts [] (map (λ r. r.booking.parts) requests) [] (map (λ x. x.question) asked) (Some a) (Some given.answer) (unread course at) (unread course given.at) (sym whole) (ap (map (λ r. r.booking.parts)) (sym none))
    (ap (map (λ x. x.question)) (sym told)) (ap (λ (g : Given A). Some g.answer) (sym is)) (ap (λ (g : Given A). unread course g.at) (sym is))
comes-by first own course at (Asks copying part d) [] asked given h = absurd h
comes-by {Q} {R} {A} first own course at (Asks copying part d) (r ∷ requests) asked given (whole, turn, more, parts, h) =
    ap (with_request part) (comes-by first own course (record { turn = at.turn; request = Some r.number; read = 0; parts = more }) d requests asked given h)
    ∙ same [] at.parts ((part ∷ more) ∷ map (λ r. r.booking.parts) requests) (r.booking.parts ∷ map (λ r. r.booking.parts) requests) (map (λ x. x.question) asked) (map (λ x. x.question) asked) (Some given.answer) (Some given.answer) (unread course given.at) (unread course given.at)
    (sym whole) (ap (λ (x : List (List ℕ)). x ∷ map (λ r. r.booking.parts) requests) (sym parts)) refl refl refl
comes-by first own course at (Sends part d) [] asked given h = absurd h
comes-by first own course at (Sends part d) (r ∷ requests) asked given (turn, parts, h) =
    ap (with_sent part) (comes-by first own course at d requests asked given h)
    ∙ same at.parts at.parts ((part ∷ []) ∷ map (λ r. r.booking.parts) requests) (r.booking.parts ∷ map (λ r. r.booking.parts) requests) (map (λ x. x.question) asked) (map (λ x. x.question) asked) (Some given.answer) (Some given.answer) (unread course given.at) (unread course given.at)
    refl (ap (λ (x : List (List ℕ)). x ∷ map (λ r. r.booking.parts) requests) (sym parts)) refl refl refl
comes-by {Q} {R} {A} first own course at (Reads decides next) requests asked given (n, decided, turn, at_first, h) =
    ap (λ (o : Option ℕ). elim o as (λ _. Outcome Q A) [
      | None ↦ nothing_yet
      | Some n ↦ outcome (next (take n (unread course at))) (met_in course requests asked) (drop n (unread course at))
    ]) decided
    ∙ ap (outcome (next (take n (unread course at))) (met_in course requests asked)) (drop-drop n at.read (reply_to course at.request))
    ∙ comes-by first own course (record at { turn = turn; read = at.read + n }) (next (take n (unread course at))) requests asked given h
comes-by first own course at (Puts part d) requests asked given (turn, in_own, more, parts, h) =
    ap (with_part part) (comes-by first own course (record at { turn = turn; parts = more }) d requests asked given h)
    ∙ same (part ∷ more) at.parts (map (λ r. r.booking.parts) requests) (map (λ r. r.booking.parts) requests) (map (λ x. x.question) asked) (map (λ x. x.question) asked) (Some given.answer) (Some given.answer) (unread course given.at) (unread course given.at) (sym parts) refl refl refl refl
comes-by first own course at (Closes part d) requests asked given (more, parts, h) =
    ap (with_part part) (comes-by first own course (record at { parts = more }) d requests asked given h)
    ∙ same (part ∷ more) at.parts (map (λ r. r.booking.parts) requests) (map (λ r. r.booking.parts) requests) (map (λ x. x.question) asked) (map (λ x. x.question) asked) (Some given.answer) (Some given.answer) (unread course given.at) (unread course given.at) (sym parts) refl refl refl refl
comes-by first own course at (Calls q next) requests [] given h = absurd h
comes-by {Q} {R} {A} first own course at (Calls q next) requests (a ∷ asked) given (turn, question, h) =
    ap (with_question q) (comes-by first own course at (next a.reply) requests asked given h)
    ∙ same at.parts at.parts (map (λ r. r.booking.parts) requests) (map (λ r. r.booking.parts) requests) (q ∷ map (λ x. x.question) asked) (a.question ∷ map (λ x. x.question) asked) (Some given.answer) (Some given.answer) (unread course given.at) (unread course given.at)
    refl refl (ap (λ (x : Q). x ∷ map (λ x. x.question) asked) (sym question)) refl refl

-- the same by the turns of a session
pub comes : {Q R A : Type 0} (course : Course Q R) (handle : ℕ) (at : Point) (d : Dialogue Q R A) (requests : List Request) (asked : List (Asked Q R)) (given : Given A) →
    Unfolds course handle at d requests asked given → ComesOfIt course at d requests asked given
comes course handle at d requests asked given h = comes-by (IsFirstTurn course.trace handle) (IsOwnTurn course.trace handle) course at d requests asked given h

-- ---- the answer alone

abbrev alone : {Q A E : Type 0} → Outcome Q (Ending A E) → Outcome Q A
alone o = record { parts = o.parts; requests = o.requests; asked = o.asked; answer = option_map (λ e. e.answer) o.answer; left = o.left }

pub alone-outcome : {Q R A E : Type 0} (d : Dialogue Q R (Ending A E)) (met : Met R) (left : List RawMessage) → outcome (answer_alone d) met left ≡ alone (outcome d met left)
alone-outcome (Answers a) met left = refl
alone-outcome (Asks copying part d) met left = ap (with_request part) (alone-outcome d (past_reply met) (first_reply met.replies))
alone-outcome (Sends part d) met left = ap (with_sent part) (alone-outcome d (past_reply met) left)
alone-outcome {Q} {R} {A} {E} (Reads decides next) met left = by (decided_after decides left) (λ n. alone-outcome (next (take n left)) met (drop n left))
  where
    by : (o : Option ℕ) → ((n : ℕ) → outcome (answer_alone (next (take n left))) met (drop n left) ≡ alone (outcome (next (take n left)) met (drop n left))) → ◌≡◌ {A = Outcome Q A}
        (elim o as (λ _. Outcome Q A) [ None ↦ nothing_yet | Some n ↦ outcome (answer_alone (next (take n left))) met (drop n left) ])
        (alone (elim o as (λ _. Outcome Q (Ending A E)) [ None ↦ nothing_yet | Some n ↦ outcome (next (take n left)) met (drop n left) ]))
    by None h = refl
    by (Some n) h = h n
alone-outcome (Puts part d) met left = ap (with_part part) (alone-outcome d met left)
alone-outcome (Closes part d) met left = ap (with_part part) (alone-outcome d met left)
alone-outcome {Q} {R} {A} {E} (Calls q next) met left = by met.told (λ r more. alone-outcome (next r) (record { replies = met.replies; told = more }) left)
  where
    by : (told : List R) → ((r : R) (more : List R) → outcome (answer_alone (next r)) (record { replies = met.replies; told = more }) left ≡ alone (outcome (next r) (record { replies = met.replies; told = more }) left)) → ◌≡◌ {A = Outcome Q A}
        (elim told as (λ _. Outcome Q A) [ [] ↦ nothing_yet | r ∷ more ↦ with_question q (outcome (answer_alone (next r)) (record { replies = met.replies; told = more }) left) ])
        (alone (elim told as (λ _. Outcome Q (Ending A E)) [ [] ↦ nothing_yet | r ∷ more ↦ with_question q (outcome (next r) (record { replies = met.replies; told = more }) left) ]))
    by [] h = refl
    by (r ∷ more) h = ap (with_question q) (h r more)

some-same : {A : Type 0} (a b : A) → ◌≡◌ {A = Option A} (Some a) (Some b) → a ≡ b
some-same {A} a b e = ap (λ (o : Option A). elim o as (λ _. A) [ None ↦ a | Some x ↦ x ]) e

pub same-by-names : {C A E Q R N : Type 0} (meaning : Meaning C A E Q R) (named : C → E → N) → IsByNames meaning named →
    (c : C) (a b : Course Q R) (x : DidSo meaning c a) (y : DidSo meaning c b) → named c y.own ≡ named c x.own →
    met_in b y.requests y.asked ≡ met_in a x.requests x.asked → unread b y.from ≡ unread a x.from → IsSame c a b x y
same-by-names {C} {A} {E} {Q} {R} {N} meaning named is c a b x y own met left =
    let one = alone-outcome (meaning.asks x.own c) (met_in a x.requests x.asked) (unread a x.from) ∙ ap alone (comes a x.handle x.from (meaning.asks x.own c) x.requests x.asked x.given x.unfolds) in
    let two = alone-outcome (meaning.asks y.own c) (met_in b y.requests y.asked) (unread b y.from) ∙ ap alone (comes b y.handle y.from (meaning.asks y.own c) y.requests y.asked y.given y.unfolds) in
    let both = sym two ∙ ap (λ (d : Dialogue Q R A). outcome d (met_in b y.requests y.asked) (unread b y.from)) (is y.own x.own c own)
    ∙ ap (λ (m : Met R). outcome (answer_alone (meaning.asks x.own c)) m (unread b y.from)) met
    ∙ ap (λ (ms : List RawMessage). outcome (answer_alone (meaning.asks x.own c)) (met_in a x.requests x.asked) ms) left ∙ one in
    record {
      answer = some-same y.given.answer.answer x.given.answer.answer (ap (λ (o : Outcome Q A). o.answer) both);
      requests = ap (λ (o : Outcome Q A). o.requests) both;
      asked = ap (λ (o : Outcome Q A). o.asked) both;
      left = ap (λ (o : Outcome Q A). o.left) both;
    }
