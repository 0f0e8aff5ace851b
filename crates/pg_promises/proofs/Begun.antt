-- Requests as far as they were booked.
use Rattle.std.proofs.Common.{◌≡◌, ℕ, ◌<◌, List, [], ◌∷◌, ◌++◌, length, take, drop, Bool, true, false, Option, Some, None, refl, sym, ap, ◌∙◌, subst, arith, append-nil}
use Rattle.pg_spec.specs.RawMessages.{RawMessage}
use Rattle.pg_spec.specs.Courses.{Met, Outcome, first_reply, nothing_yet, outcome, past_reply, with_question}
use Rattle.pg_spec.specs.Dialogues.{Dialogue, Answers, Asks, Sends, Reads, Puts, Closes, Calls, decided_after}
use Rattle.pg_promises.specs.Sent.{AllEnded, AreBegun, IsBegun, are_ended}

-- each has a part
abbrev pub HaveParts : List (List (List ℕ)) → Type 0
HaveParts [] = Unit {0}
HaveParts (x ∷ xs) = (0 < length x) × HaveParts xs

-- one that is whole
one-whole : (ended : Bool) (x : List (List ℕ)) → 0 < length x → IsBegun ended x x
one-whole true x some = refl
one-whole false [] some = absurd (omega (arith, some))
one-whole false (part ∷ x) some = ([], append-nil (part ∷ x))

whole : (xs more : List (List (List ℕ))) → HaveParts (xs ++ more) → AreBegun xs (xs ++ more)
whole [] more h = tt
whole (x ∷ xs) more h = (one-whole (are_ended x) x h.0, whole xs more h.1)

-- the first ones, each whole
pub begun-so : (xs more all : List (List (List ℕ))) → xs ++ more ≡ all → HaveParts all → AreBegun xs all
begun-so xs more all e h = subst (λ (ys : List (List (List ℕ))). AreBegun xs ys) e (whole xs more (subst HaveParts (sym e) h))

-- each request that comes of a command has a part
pub have-parts : {Q R A : Type 0} (d : Dialogue Q R A) (met : Met R) (left : List RawMessage) → HaveParts (outcome d met left).requests
have-parts (Answers a) met left = tt
have-parts (Asks copying part d) met left = (omega arith, have-parts d (past_reply met) (first_reply met.replies))
have-parts (Sends part d) met left = (omega arith, have-parts d (past_reply met) left)
have-parts {Q} {R} {A} (Reads decides next) met left = by (decided_after decides left) (λ k. have-parts (next (take k left)) met (drop k left))
  where
    so : Option ℕ → Outcome Q A
    so o = elim o as (λ _. Outcome Q A) [ None ↦ nothing_yet | Some k ↦ outcome (next (take k left)) met (drop k left) ]

    by : (o : Option ℕ) → ((k : ℕ) → HaveParts (outcome (next (take k left)) met (drop k left)).requests) → HaveParts (so o).requests
    by None h = tt
    by (Some k) h = h k
have-parts (Puts part d) met left = have-parts d met left
have-parts (Closes part d) met left = have-parts d met left
have-parts {Q} {R} {A} (Calls q next) met left = by met.told (λ r told. have-parts (next r) (record { replies = met.replies; told = told }) left)
  where
    so : List R → Outcome Q A
    so l = elim l as (λ _. Outcome Q A) [ [] ↦ nothing_yet | r ∷ told ↦ with_question q (outcome (next r) (record { replies = met.replies; told = told }) left) ]

    by : (l : List R) → ((r : R) (told : List R) → HaveParts (outcome (next r) (record { replies = met.replies; told = told }) left).requests) → HaveParts (so l).requests
    by [] h = tt
    by (r ∷ told) h = h r told

-- ---- where each is ended

pub ended-whole : (xs ys : List (List (List ℕ))) → AllEnded xs → AreBegun xs ys → (more : List (List (List ℕ))) × (xs ++ more ≡ ys)
ended-whole [] ys ended h = (ys, refl)
ended-whole (x ∷ xs) [] ended h = absurd h
ended-whole (x ∷ xs) (y ∷ ys) ended h =
    let more = ended-whole xs ys ended.1 h.1 in
    let same : x ≡ y = subst (λ (b : Bool). IsBegun b x y) ended.0 h.0 in
    (more.0, ap (λ (l : List (List (List ℕ))). x ∷ l) more.1 ∙ ap (λ (z : List (List ℕ)). z ∷ ys) same)

-- a request of one part is begun only as a whole
pub one-begun : (ended : Bool) (x : List (List ℕ)) (frame : List ℕ) → IsBegun ended x (frame ∷ []) → x ≡ frame ∷ []
one-begun true x frame h = h
one-begun false [] frame h = absurd h
one-begun false (part ∷ []) frame ([], e) = e
one-begun false (part ∷ []) frame (m ∷ more, e) = absurd (omega (arith, ap (λ (l : List (List ℕ)). length l) e))
one-begun false (part ∷ p ∷ begun) frame (more, e) = absurd (omega (arith, ap (λ (l : List (List ℕ)). length l) e))
