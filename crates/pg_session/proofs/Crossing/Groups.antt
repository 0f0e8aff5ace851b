-- The groups of a legal list of deliveries, where no request is open.
use Rattle.std.proofs.Common.{◌≡◌, ℕ, suc, List, [], ◌∷◌, ◌++◌, length, Bool, true, false, ◌&&◌, if◌then◌else◌, refl, sym, ap, subst, ◌∙◌, arith}
use Rattle.std.specs.List.{list_all, onto_first}
use Rattle.pg_spec.specs.Batches.{is_batch, is_nothing}
use Rattle.pg_spec.specs.RawMessages.{RawMessage, is_aside, is_ready, cut_after, is_whole_group}
use Rattle.pg_desk.specs.History.{Delivery, finished, received}
use Rattle.pg_desk.proofs.Soundness.{AllCut}
use Rattle.pg_session.proofs.Crossing.Hub.{ends_whole}

-- so many groups, each of them whole
pub record AreWhole (n : ℕ) (pieces : List (List RawMessage)) : Type 0 where
  pub count : length pieces ≡ n
  pub whole : list_all is_whole_group pieces ≡ true

pub both-true : (a b : Bool) → a && b ≡ true → (a ≡ true) × (b ≡ true)
both-true true true e = (refl, refl)
both-true true false e = absurd cc
both-true false b e = absurd cc

and-true : (a b : Bool) → a ≡ true → b ≡ true → a && b ≡ true
and-true a b e f = ap (λ (x : Bool). x && b) e ∙ f

longer-whole : (m : RawMessage) (group : List RawMessage) → is_whole_group group ≡ true → is_whole_group (m ∷ group) ≡ true
longer-whole m [] e = absurd cc
longer-whole m (x ∷ group) e = e

onto-whole : (m : RawMessage) (n : ℕ) (pieces : List (List RawMessage)) → AreWhole (suc n) pieces → AreWhole (suc n) (onto_first m pieces)
onto-whole m n [] h = absurd (let e : 0 ≡ suc n = h.count in omega (arith, e))
onto-whole m n (p ∷ ps) h =
    let w = both-true (is_whole_group p) (list_all is_whole_group ps) h.whole in
    record { count = h.count; whole = and-true (is_whole_group (m ∷ p)) (list_all is_whole_group ps) (longer-whole m p w.0) w.1 }

one-whole : (m : RawMessage) (n : ℕ) (pieces : List (List RawMessage)) → is_ready m ≡ true → AreWhole n pieces → AreWhole (suc n) ((m ∷ []) ∷ pieces)
one-whole m n pieces ready h = record { count = ap suc h.count; whole = and-true (is_ready m) (list_all is_whole_group pieces) ready h.whole }

-- what the first message of a batch is
pub data First (complete : Bool) (m : RawMessage) (ms : List RawMessage) : Type 0 where
  GoesOn : is_ready m ≡ false → is_batch complete ms ≡ true → First complete m ms
  Last : is_ready m ≡ true → complete ≡ true → ms ≡ [] → First complete m ms

pub first-of : (complete : Bool) (m : RawMessage) (ms : List RawMessage) → is_batch complete (m ∷ ms) ≡ true → First complete m ms
first-of complete m ms cut = by_tests (is_aside m) (is_ready m) refl cut
  where
    nothing-left : (l : List RawMessage) (b : Bool) → b && is_nothing l ≡ true → l ≡ []
    nothing-left [] b e = refl
    nothing-left (x ∷ l) true e = absurd cc
    nothing-left (x ∷ l) false e = absurd cc

    by_tests : (a b : Bool) → is_ready m ≡ b → (if a then false else (if b then complete && is_nothing ms else is_batch complete ms)) ≡ true → First complete m ms
    by_tests true b q e = absurd cc
    by_tests false true q e = Last q (both-true complete (is_nothing ms) e).0 (nothing-left ms complete e)
    by_tests false false q e = GoesOn q e

-- the groups with a message more in front
cut-on : (m : RawMessage) (rest : List RawMessage) → is_ready m ≡ false → cut_after is_ready (m ∷ rest) ≡ onto_first m (cut_after is_ready rest)
cut-on m rest e = ap (λ (b : Bool). if b then (m ∷ []) ∷ cut_after is_ready rest else onto_first m (cut_after is_ready rest)) e

cut-here : (m : RawMessage) (rest : List RawMessage) → is_ready m ≡ true → cut_after is_ready (m ∷ rest) ≡ (m ∷ []) ∷ cut_after is_ready rest
cut-here m rest e = ap (λ (b : Bool). if b then (m ∷ []) ∷ cut_after is_ready rest else onto_first m (cut_after is_ready rest)) e

batch-open : (ms rest : List RawMessage) (n : ℕ) → is_batch false ms ≡ true → AreWhole (suc n) (cut_after is_ready rest) → AreWhole (suc n) (cut_after is_ready (ms ++ rest))
batch-open [] rest n cut h = h
batch-open (m ∷ ms) rest n cut h = elim (first-of false m ms cut) [
  | GoesOn ready more ↦ subst (AreWhole (suc n)) (sym (cut-on m (ms ++ rest) ready)) (onto-whole m n (cut_after is_ready (ms ++ rest)) (batch-open ms rest n more h))
  | Last ready complete none ↦ absurd (let no : false ≡ true = complete in cc)
]

batch-last : (ms rest : List RawMessage) (n : ℕ) → is_batch true ms ≡ true → AreWhole n (cut_after is_ready rest) → AreWhole (suc n) (cut_after is_ready (ms ++ rest))
batch-last [] rest n cut h = absurd cc
batch-last (m ∷ ms) rest n cut h = elim (first-of true m ms cut) [
  | GoesOn ready more ↦ subst (AreWhole (suc n)) (sym (cut-on m (ms ++ rest) ready)) (onto-whole m n (cut_after is_ready (ms ++ rest)) (batch-last ms rest n more h))
  | Last ready complete none ↦ subst (AreWhole (suc n)) (sym (cut-here m (ms ++ rest) ready))
      (one-whole m n (cut_after is_ready (ms ++ rest)) ready (subst (λ (l : List RawMessage). AreWhole n (cut_after is_ready (l ++ rest))) (sym none) h))
]

-- a batch in front, where groups follow it unless it ends its own
batch-whole : (b : Bool) (ms rest : List RawMessage) (n : ℕ) → is_batch b ms ≡ true → (b ≡ false → (k : ℕ) × (n ≡ suc k)) → AreWhole n (cut_after is_ready rest) →
    AreWhole (if b then suc n else n) (cut_after is_ready (ms ++ rest))
batch-whole true ms rest n cut some h = batch-last ms rest n cut h
batch-whole false ms rest n cut some h =
    let k = some refl in
    subst (λ (i : ℕ). AreWhole i (cut_after is_ready (ms ++ rest))) (sym k.1)
    (batch-open ms rest k.0 cut (subst (λ (i : ℕ). AreWhole i (cut_after is_ready rest)) k.1 h))

one-more : (b : Bool) (n : ℕ) → (b ≡ false → (k : ℕ) × (n ≡ suc k)) → (k : ℕ) × ((if b then suc n else n) ≡ suc k)
one-more true n f = (n, refl)
one-more false n f = f refl

-- where the last batch ended its group, some group ended
some-ended : (d : Delivery) (ds : List Delivery) → ends_whole (d ∷ ds) ≡ true → (k : ℕ) × (finished (d ∷ ds) ≡ suc k)
some-ended d [] e = one-more d.complete 0 (λ f. absurd (let no : true ≡ false = sym e ∙ f in cc))
some-ended d (x ∷ ds) e = one-more d.complete (finished (x ∷ ds)) (λ f. some-ended x ds e)

-- each group that came is whole
pub all-whole : (ds : List Delivery) → AllCut ds → ends_whole ds ≡ true → AreWhole (finished ds) (cut_after is_ready (received ds))
all-whole [] cut e = record { count = refl; whole = refl }
all-whole (d ∷ []) cut e =
    batch-whole d.complete d.messages [] 0 cut.0 (λ f. absurd (let no : true ≡ false = sym e ∙ f in cc)) (record { count = refl; whole = refl })
all-whole (d ∷ x ∷ ds) cut e =
    batch-whole d.complete d.messages (received (x ∷ ds)) (finished (x ∷ ds)) cut.0 (λ f. some-ended x ds e) (all-whole (x ∷ ds) cut.1 e)
