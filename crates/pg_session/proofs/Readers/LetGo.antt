-- A reader that is done with its request has let it go: it hung up, or the request's group has ended. Each stays so.
use Rattle.std.proofs.Common.{◌≡◌, ℕ, zero, suc, ◌<◌, ◌==◌, nat_lt, List, [], ◌∷◌, ◌++◌, length, drop, Bool, true, false, not, ◌||◌, ◌&&◌, if◌then◌else◌, Some, Ok, Err, refl, sym, ap, ◌∙◌, subst, arith, inl, inr, ◌⊎◌, slice_get}
use Rattle.std.specs.List.{list_any}
use Rattle.std.proofs.lemmas.Bool.Decides.{nat_tests}
use Rattle.pg_spec.specs.Batches.{is_batch, is_nothing}
use Rattle.pg_spec.specs.RawMessages.{RawMessage, is_aside, is_ready}
use Rattle.pg_desk.proofs.Soundness.{AllCut, take-first}
use Rattle.pg_desk.specs.declared.event.Deliver.TheVariants as delivering
use Rattle.pg_desk.specs.declared.event.Put.TheVariants as putting
use Rattle.pg_desk.specs.declared.event.Event.{Event}
use Rattle.pg_desk.specs.declared.event.Event.TheVariants.{Book, Put as PutEvent, EndCopy, Take as TakeEvent, HangUp, NextStatement, NextPortal, Catalog as CatalogEvent, NextOut, Deliver as DeliverEvent, CloseRequests, Fail}
use Rattle.pg_desk.specs.declared.event.Out.TheVariants as out
use Rattle.pg_desk.specs.declared.event.Take.TheVariants as taking
use Rattle.pg_desk.specs.History.{State, Delivery, given, has_ended, next_owner, may_let_go, taken, is_in, is_hung_up, after, after_all, take_answer}

-- the reader of request k hung up, or its group has ended
abbrev pub IsLetGo : State → ℕ → Type 0
IsLetGo s k = (is_hung_up s k ≡ true) ⊎ (has_ended k s.deliveries ≡ true)

-- ---- each event leaves it so

-- what was let go stays so, and requests that are closed stay closed
pub record StaysLetGo (s t : State) : Type 0 where
  pub let_go : (k : ℕ) → IsLetGo s k → IsLetGo t k
  pub closed : s.closed ≡ true → t.closed ≡ true

stays-here : (s : State) → StaysLetGo s s
stays-here s = record { let_go = λ k h. h; closed = λ h. h }

in-more : (k x : ℕ) (xs : List ℕ) → is_in k xs ≡ true → is_in k (xs ++ x ∷ []) ≡ true
in-more k x [] h = absurd cc
in-more k x (y ∷ xs) h = by (y == k) h (in-more k x xs)
  where
    by : (b : Bool) → (b || is_in k xs) ≡ true → (is_in k xs ≡ true → is_in k (xs ++ x ∷ []) ≡ true) → (b || is_in k (xs ++ x ∷ [])) ≡ true
    by true h f = refl
    by false h f = f h

in-more-if : (b : Bool) (k x : ℕ) (xs : List ℕ) → is_in k xs ≡ true → is_in k (if b then xs ++ x ∷ [] else xs) ≡ true
in-more-if true k x xs h = in-more k x xs h
in-more-if false k x xs h = h

in-now : (k : ℕ) (xs : List ℕ) → is_in k (xs ++ k ∷ []) ≡ true
in-now k [] = grind (arith, nat_tests)
in-now k (x ∷ xs) = by (x == k) (in-now k xs)
  where
    by : (b : Bool) → is_in k (xs ++ k ∷ []) ≡ true → (b || is_in k (xs ++ k ∷ [])) ≡ true
    by true h = refl
    by false h = h

ended-more : (k : ℕ) (ds : List Delivery) (d : Delivery) → has_ended k ds ≡ true → has_ended k (ds ++ d ∷ []) ≡ true
ended-more k [] d h = absurd cc
ended-more k (x ∷ ds) d h = by (x.complete && (x.owner == k)) h (ended-more k ds d)
  where
    by : (b : Bool) → (b || has_ended k ds) ≡ true → (has_ended k ds ≡ true → has_ended k (ds ++ d ∷ []) ≡ true) → (b || has_ended k (ds ++ d ∷ [])) ≡ true
    by true h f = refl
    by false h f = f h

hung-stays : (s : State) (id k : ℕ) → IsLetGo s k → IsLetGo (after s (HangUp id (Ok tt))) k
hung-stays s id k (inl h) = inl (in-more-if (may_let_go s id) k id s.hung_up h)
hung-stays s id k (inr h) = inr h

came-stays : (s : State) (batch : List RawMessage) (complete : Bool) (k : ℕ) → IsLetGo s k → IsLetGo (after s (DeliverEvent batch complete delivering.Taken)) k
came-stays s batch complete k (inl h) = inl h
came-stays s batch complete k (inr h) = inr (ended-more k s.deliveries (record { owner = next_owner s; messages = batch; complete = complete }) h)

stays-one : (s : State) (e : Event) → StaysLetGo s (after s e)
stays-one s (Book stamp part copying (Ok id)) = record { let_go = λ k h. h; closed = λ h. h }
stays-one s (Book stamp part copying (Err e)) = stays-here s
stays-one s (TakeEvent id (Ok (taking.Batch ms))) = record { let_go = λ k h. h; closed = λ h. h }
stays-one s (TakeEvent id (Ok taking.Empty)) = stays-here s
stays-one s (TakeEvent id (Ok taking.Over)) = stays-here s
stays-one s (TakeEvent id (Ok taking.Gone)) = stays-here s
stays-one s (TakeEvent id (Err e)) = stays-here s
stays-one s (HangUp id (Ok x)) = record { let_go = λ k h. hung-stays s id k h; closed = λ h. h }
stays-one s (HangUp id (Err e)) = stays-here s
stays-one s (NextStatement (Ok n)) = record { let_go = λ k h. h; closed = λ h. h }
stays-one s (NextStatement (Err e)) = stays-here s
stays-one s (PutEvent id part putting.Took) = record { let_go = λ k h. h; closed = λ h. h }
stays-one s (PutEvent id part (putting.Full back)) = stays-here s
stays-one s (PutEvent id part (putting.Gone back)) = stays-here s
stays-one s (PutEvent id part (putting.OutOfMemory back)) = stays-here s
stays-one s (EndCopy id part putting.Took) = record { let_go = λ k h. h; closed = λ h. h }
stays-one s (EndCopy id part (putting.Full back)) = stays-here s
stays-one s (EndCopy id part (putting.Gone back)) = stays-here s
stays-one s (EndCopy id part (putting.OutOfMemory back)) = stays-here s
stays-one s (NextPortal (Ok n)) = record { let_go = λ k h. h; closed = λ h. h }
stays-one s (NextPortal (Err e)) = stays-here s
stays-one s (CatalogEvent call) = record { let_go = λ k h. h; closed = λ h. h }
stays-one s (NextOut (Ok (out.Part part))) = record { let_go = λ k h. h; closed = λ h. h }
stays-one s (NextOut (Ok out.CopyWaits)) = stays-here s
stays-one s (NextOut (Ok out.Nothing)) = stays-here s
stays-one s (NextOut (Ok out.NoMore)) = stays-here s
stays-one s (NextOut (Err e)) = stays-here s
stays-one s (DeliverEvent batch complete delivering.Taken) = record { let_go = λ k h. came-stays s batch complete k h; closed = λ h. h }
stays-one s (DeliverEvent batch complete (delivering.Full back)) = stays-here s
stays-one s (DeliverEvent batch complete (delivering.NoRequest back)) = stays-here s
stays-one s (DeliverEvent batch complete (delivering.OutOfMemory back)) = stays-here s
stays-one s (CloseRequests (Ok x)) = record { let_go = λ k h. h; closed = λ h. refl }
stays-one s (CloseRequests (Err e)) = stays-here s
stays-one s (Fail (Ok x)) = record { let_go = λ k h. h; closed = λ h. h }
stays-one s (Fail (Err e)) = stays-here s

pub stays-let-go : (s : State) (es : List Event) → StaysLetGo s (after_all s es)
stays-let-go s [] = stays-here s
stays-let-go s (e ∷ es) =
    let first = stays-one s e in
    let rest = stays-let-go (after s e) es in
    record { let_go = λ k h. rest.let_go k (first.let_go k h); closed = λ h. rest.closed (first.closed h) }

-- ---- when it lets go

-- it hangs up
pub hung-now : (s : State) (which k : ℕ) → which ≡ k → k < length s.book → is_hung_up (after s (HangUp which (Ok tt))) k ≡ true
hung-now s which k same lt = subst (λ (n : ℕ). is_in k (if may_let_go s n then s.hung_up ++ n ∷ [] else s.hung_up) ≡ true) (sym same)
    (by (nat_lt k (length s.book)) (is_hung_up s k) within refl)
  where
    within : nat_lt k (length s.book) ≡ true
    within = grind (arith, nat_tests, lt)

    by : (b c : Bool) → b ≡ true → is_hung_up s k ≡ c → is_in k (if b && not c then s.hung_up ++ k ∷ [] else s.hung_up) ≡ true
    by true true e hung = hung
    by true false e hung = in-now k s.hung_up
    by false c e hung = absurd cc

-- a batch with a ReadyForQuery among its messages is the last of its group
ready-complete : (b : Bool) (ms : List RawMessage) → is_batch b ms ≡ true → list_any is_ready ms ≡ true → b ≡ true
ready-complete b [] h r = absurd cc
ready-complete b (m ∷ ms) h r = by (is_aside m) (is_ready m) h r (ready-complete b ms)
  where
    first : (x y : Bool) → (x && y) ≡ true → x ≡ true
    first true y e = refl
    first false y e = e

    by : (x y : Bool) → (if x then false else (if y then b && is_nothing ms else is_batch b ms)) ≡ true → (y || list_any is_ready ms) ≡ true →
        (is_batch b ms ≡ true → list_any is_ready ms ≡ true → b ≡ true) → b ≡ true
    by true y h r f = absurd cc
    by false true h r f = first b (is_nothing ms) h
    by false false h r f = f h r

given-ready : (k : ℕ) (ds : List Delivery) (n : ℕ) (ms : List RawMessage) → AllCut ds → slice_get (given k ds) n ≡ Some ms → list_any is_ready ms ≡ true →
    has_ended k ds ≡ true
given-ready k [] n ms cut at ready = absurd cc
given-ready k (d ∷ ds) n ms cut at ready = by d.complete (d.owner == k) d.messages cut.0 n at (λ m. given-ready k ds m ms cut.1)
  where
    by : (b c : Bool) (xs : List RawMessage) → is_batch b xs ≡ true → (n : ℕ) → slice_get (if c then xs ∷ given k ds else given k ds) n ≡ Some ms →
        ((m : ℕ) → slice_get (given k ds) m ≡ Some ms → list_any is_ready ms ≡ true → has_ended k ds ≡ true) → ((b && c) || has_ended k ds) ≡ true
    by true true xs cut n at f = refl
    by true false xs cut n at f = f n at ready
    by false false xs cut n at f = f n at ready
    by false true xs cut zero at f =
        let same : ms ≡ xs = cc in
        let no_way : false ≡ true = ready-complete false xs cut (ap (λ (l : List RawMessage). list_any is_ready l) (sym same) ∙ ready) in
        absurd cc
    by false true xs cut (suc n) at f = f n at ready

drop-there : (n : ℕ) (xss : List (List RawMessage)) (ms : List RawMessage) (more : List (List RawMessage)) → drop n xss ≡ ms ∷ more → slice_get xss n ≡ Some ms
drop-there zero [] ms more h = absurd cc
drop-there (suc n) [] ms more h = absurd cc
drop-there zero (xs ∷ xss) ms more h = let same : xs ≡ ms = cc in ap (λ (l : List RawMessage). Some l) same
drop-there (suc n) (xs ∷ xss) ms more h = drop-there n xss ms more h

-- where it was taken, the group has ended
pub ready-ended : (s : State) (k : ℕ) (ms : List RawMessage) → AllCut s.deliveries → taking.Batch ms ≡ take_answer s k → list_any is_ready ms ≡ true →
    has_ended k s.deliveries ≡ true
ready-ended s k ms cut took ready =
    let front = take-first s k ms took in
    given-ready k s.deliveries (length (taken k s.takes)) ms cut (drop-there (length (taken k s.takes)) (given k s.deliveries) ms front.0 front.1) ready
