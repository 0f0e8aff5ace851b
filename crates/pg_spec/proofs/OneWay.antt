-- A command without parts that wait unfolds in one way only.
use Rattle.std.proofs.Common.{inl, inr, ◌⊎◌, zero, suc, ◌<◌, ◌≤◌, arith, ◌≡◌, ℕ, ◌+◌, List, [], ◌∷◌, take, Some, refl, sym, ap, subst, ◌∙◌}
use Rattle.std.proofs.lemmas.Option.{same_Some}
use Rattle.pg_spec.specs.RawMessages.{RawMessage}
use Rattle.pg_spec.specs.declared.stamps.TurnMark.{TurnMark}
use Rattle.pg_spec.specs.Turns.{IsFirstTurn}
use Rattle.pg_spec.specs.Dialogues.{Dialogue, Answers, Asks, Sends, Reads, Puts, Closes, Calls}
use Rattle.pg_spec.specs.Courses.{Asked, Course, Given, Point, Request, Unfolds, unread, delivered_to}
use Rattle.pg_spec.specs.Isolation.{NoPuts}

which : (p q : ℕ) → (p < q) ⊎ ((p ≡ q) ⊎ (q < p))
which zero zero = inr (inl refl)
which zero (suc q) = inl (omega arith)
which (suc p) zero = inr (inr (omega arith))
which (suc p) (suc q) = by (which p q)
  where
    by : (p < q) ⊎ ((p ≡ q) ⊎ (q < p)) → (suc p < suc q) ⊎ ((suc p ≡ suc q) ⊎ (suc q < suc p))
    by (inl lt) = inl (omega (arith, lt))
    by (inr (inl e)) = inr (inl (ap suc e))
    by (inr (inr lt)) = inr (inr (omega (arith, lt)))

rest-of : {X : Type 0} → List X → List X
rest-of [] = []
rest-of (x ∷ xs) = xs

same_tail : {X : Type 0} (x : X) (xs : List X) (y : X) (ys : List X) → x ∷ xs ≡ y ∷ ys → xs ≡ ys
unfolding rest-of
same_tail x xs y ys e = ap rest-of e

pub first-one : (trace : List TurnMark) (handle from : ℕ) (P : ℕ → Type 0) (p q : ℕ) → IsFirstTurn trace handle from P p → IsFirstTurn trace handle from P q → p ≡ q
first-one trace handle from P p q a b = by (which p q)
  where
    by : (p < q) ⊎ ((p ≡ q) ⊎ (q < p)) → p ≡ q
    by (inl lt) = absurd (b.first p a.no_sooner lt a.own a.holds)
    by (inr (inl e)) = e
    by (inr (inr lt)) = absurd (a.first q b.no_sooner lt b.own b.holds)

same-reads : {Q R A : Type 0} (course : Course Q R) (handle : ℕ) (at : Point) (next : List RawMessage → Dialogue Q R A) (requests : List Request) (asked : List (Asked Q R)) (y : Given A) (n m t u : ℕ) →
    m ≡ n → u ≡ t → Unfolds course handle (record at { turn = u; read = at.read + m }) (next (take m (unread course at))) requests asked y →
    Unfolds course handle (record at { turn = t; read = at.read + n }) (next (take n (unread course at))) requests asked y
same-reads course handle at next requests asked y n m t u e f h =
    subst (λ (k : ℕ). Unfolds course handle (record at { turn = t; read = at.read + k }) (next (take k (unread course at))) requests asked y) e
    (subst (λ (k : ℕ). Unfolds course handle (record at { turn = k; read = at.read + m }) (next (take m (unread course at))) requests asked y) f h)

pub one-way : {Q R A : Type 0} (course : Course Q R) (handle : ℕ) (at : Point) (d : Dialogue Q R A) (requests : List Request) (asked : List (Asked Q R)) (x y : Given A) → NoPuts d →
    Unfolds course handle at d requests asked x → Unfolds course handle at d requests asked y → x ≡ y
one-way course handle at (Answers a) requests asked x y puts (none, nothing, whole, is) (none', nothing', whole', is') = is ∙ sym is'
one-way course handle at (Asks copying part d) [] asked x y puts h k = absurd h
one-way {Q} {R} {A} course handle at (Asks copying part d) (r ∷ requests) asked x y puts (whole, turn, more, parts, h) (whole', turn', more', parts', k) =
    let e : more' ≡ more = same_tail part more' part more (sym parts' ∙ parts) in
    one-way course handle (record { turn = at.turn; request = Some r.number; read = 0; parts = more }) d requests asked x y puts h
    (subst (λ (m : List (List ℕ)). Unfolds course handle (record { turn = at.turn; request = Some r.number; read = 0; parts = m }) d requests asked y) e k)
one-way course handle at (Sends part d) [] asked x y puts h k = absurd h
one-way course handle at (Sends part d) (r ∷ requests) asked x y puts (turn, parts, h) (turn', parts', k) = one-way course handle at d requests asked x y puts h k
one-way course handle at (Reads decides next) requests asked x y puts (n, decided, turn, first, h) (m, decided', turn', first', k) =
    let e : m ≡ n = same_Some m n (sym decided' ∙ decided) in
    let f : turn' ≡ turn = first-one course.trace handle at.turn (λ place. at.read + n ≤ delivered_to course at.request place) turn' turn
    (subst (λ (c : ℕ). IsFirstTurn course.trace handle at.turn (λ place. at.read + c ≤ delivered_to course at.request place) turn') e first') first in
    one-way course handle (record at { turn = turn; read = at.read + n }) (next (take n (unread course at))) requests asked x y (puts (take n (unread course at))) h
    (same-reads course handle at next requests asked y n m turn turn' e f k)
one-way course handle at (Puts part d) requests asked x y puts h k = absurd puts
one-way {Q} {R} {A} course handle at (Closes part d) requests asked x y puts (more, parts, h) (more', parts', k) =
    let e : more' ≡ more = same_tail part more' part more (sym parts' ∙ parts) in
    one-way course handle (record at { parts = more }) d requests asked x y puts h
    (subst (λ (m : List (List ℕ)). Unfolds course handle (record at { parts = m }) d requests asked y) e k)
one-way course handle at (Calls q next) requests [] x y puts h k = absurd h
one-way course handle at (Calls q next) requests (a ∷ asked) x y puts (turn, question, h) (turn', question', k) = one-way course handle at (next a.reply) requests asked x y (puts a.reply) h k
