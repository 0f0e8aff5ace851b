-- Every legal list of events leads to a sound state.
use Rattle.std.proofs.Common.{◌≡◌, ◌≢◌, ◌<◌, ◌≤◌, ℕ, zero, suc, ◌+◌, ◌-◌, ◌==◌, List, [], ◌∷◌, ◌++◌, length, drop, Bool, true, false, if◌then◌else◌, Option, Some, None, is_some, refl, sym, ◌∙◌, ap, subst, arith, append_assoc, length-append, length-drop, nat_lt, ◌||◌, ◌&&◌, not, take, inl, inr, Ok, Err}
use Rattle.std.proofs.lemmas.Grind.{common_steps}
use Rattle.std.proofs.lemmas.Bool.Decides.{nat_tests, eqb_tells}
use Rattle.std.proofs.Math.Seq.{drop-append_seam}
use Rattle.std.proofs.lemmas.Bool.{false≢true}
use Rattle.pg_spec.specs.RawMessages.{RawMessage}
use Rattle.pg_spec.specs.Batches.{is_batch}
use Rattle.pg_spec.specs.declared.stamps.Stamp.{Stamp}
use Rattle.pg_desk.specs.declared.event.Booking.{Booking}
use Rattle.pg_desk.specs.declared.event.Take.TheVariants as taking
use Rattle.pg_desk.specs.declared.event.Put.{Put}
use Rattle.pg_desk.specs.declared.event.Put.TheVariants as putting
use Rattle.pg_desk.specs.declared.event.Out.TheVariants as out
use Rattle.pg_desk.specs.declared.event.Deliver.TheVariants as delivering
use Rattle.pg_desk.specs.declared.event.Event.{Event}
use Rattle.pg_desk.specs.declared.event.Event.TheVariants.{Book, Put as PutEvent, EndCopy, Take as TakeEvent, HangUp, NextStatement, NextPortal, Catalog as CatalogEvent, NextOut, Deliver as DeliverEvent, CloseRequests, Fail}
use Rattle.pg_desk.proofs.Pieces.{open-first, open-later, last-first, last-later, reply-none}
use Rattle.pg_desk.proofs.Owners.{given-own, given-other, finished-more, owners-more, given-between, ended-counted, open-less, owner-counted}
use Rattle.pg_desk.specs.Kept.{after-joined, legal-later}
use Rattle.pg_desk.specs.Order.{OneAfterAnother, AllParts, FewWait, InOrder}
use Rattle.pg_desk.proofs.Parts.{extended-length, wire-more, all-more, all-extended, order-more, order-extended, order-cleared, few-more, few-extended, few-ended, few-waits, few-up, take-extended, started-more, started-extended, started-up, GoesOut, goes-out}
use Rattle.std.specs.Prelude.{unwrap_or}
use Rattle.std.proofs.lemmas.List.{length_push, length-set, take-append-drop}
use Rattle.pg_desk.specs.History.{Change, Booked, Added, Ended, Took, LetGo, DrewStatement, DrewPortal, Catalogued, WentOut, Came, ClosedAll, FailedAll, Nothing, change_of, changed, Admits, GoesInOrder, State, Delivery, Taken, start, wire, is_copying, is_running, extended, parts_waiting, started, started_of, finished, given, between_ends, has_ended, may_let_go, is_open, first_from, oldest_open, has_open, next_owner, IsOldestOpen, BelongsToOldest, taken, waiting, is_in, is_hung_up, after, after_all, take_of_waiting, take_answer, last_out, out_answer, Allows, IsLegal, received, reply, joined, IsFrontOf, IsSound}

pub taken-own : (k : ℕ) (ts : List Taken) (t : Taken) → t.id ≡ k → taken k (ts ++ t ∷ []) ≡ taken k ts ++ t.messages ∷ []
taken-own k [] t e = grind (arith, nat_tests)
taken-own k (x ∷ ts) t e = let h = taken-own k ts t e in grind (arith, nat_tests)

pub taken-other : (k : ℕ) (ts : List Taken) (t : Taken) → t.id ≢ k → taken k (ts ++ t ∷ []) ≡ taken k ts
taken-other k [] t e = grind (arith, nat_tests)
taken-other k (x ∷ ts) t e = let h = taken-other k ts t e in grind (arith, nat_tests)

abbrev pub AllCut : List Delivery → Type 0
AllCut [] = Unit {0}
AllCut (d ∷ ds) = (is_batch d.complete d.messages ≡ true) × AllCut ds

group-step : (ms : List RawMessage) (b : Bool) (k : ℕ) (ds : List Delivery) →
    ((k : ℕ) → joined (between_ends k ds) ≡ reply k (received ds)) → is_batch b ms ≡ true →
    joined (between_ends k (record { owner = 0; messages = ms; complete = b } ∷ ds)) ≡ reply k (ms ++ received ds)
group-step ms true zero ds h cut = rw (last-first ms (received ds) cut) (grind (arith, common_steps))
group-step ms true (suc k) ds h cut = rw (last-later k ms (received ds) cut) (h k)
group-step ms false zero ds h cut = rw (open-first ms (received ds) cut) (ap (λ (l : List RawMessage). ms ++ l) (h zero))
group-step ms false (suc k) ds h cut = rw (open-later k ms (received ds) cut) (h (suc k))

-- what stands between the ends of two replies is a group, as far as it came
pub between-group : (ds : List Delivery) → AllCut ds → (k : ℕ) → joined (between_ends k ds) ≡ reply k (received ds)
between-group [] cut k = sym (reply-none k)
between-group (d ∷ ds) cut k = group-step d.messages d.complete k ds (between-group ds cut.1) cut.0

-- what a request was given is its group, as far as it came
pub given-group : (ds : List Delivery) → OneAfterAnother 0 ds → AllCut ds → (k : ℕ) → joined (given k ds) ≡ reply k (received ds)
given-group ds order cut k = ap joined (given-between ds order k) ∙ between-group ds cut k

-- what is kept from event to event
pub record Kept (s : State) : Type 0 where
  pub taken_is_front : (k : ℕ) → IsFrontOf (taken k s.takes) (given k s.deliveries)
  pub all_cut : AllCut s.deliveries
  pub order : InOrder s
  pub at_most_two : (k : ℕ) → is_hung_up s k ≡ false → length (given k s.deliveries) ≤ length (taken k s.takes) + 2
  pub out_is_front : IsFrontOf s.gone_out (wire s.book)
  pub few : FewWait (length s.gone_out) s.book s.copying

-- a list that goes on where another is its front
pub front-next : {A : Type 0} (xs ys : List A) (y : A) (more : List A) → IsFrontOf xs ys → drop (length xs) ys ≡ y ∷ more → IsFrontOf (xs ++ y ∷ []) ys
front-next {A} xs ys y more f e =
    let rest : f.0 ≡ y ∷ more = sym (drop-append_seam xs f.0) ∙ ap (λ (l : List A). drop (length xs) l) f.1 ∙ e in
    (more, append_assoc xs (y ∷ []) more ∙ ap (λ (l : List A). xs ++ l) (sym rest) ∙ f.1)

pub front-more : {A : Type 0} (xs ys more : List A) → IsFrontOf xs ys → IsFrontOf xs (ys ++ more)
front-more {A} xs ys more f = (f.0 ++ more, sym (append_assoc xs f.0 more) ∙ ap (λ (l : List A). l ++ more) f.1)

pub front-equal : {A : Type 0} (xs ys xs' ys' : List A) → xs ≡ xs' → ys ≡ ys' → IsFrontOf xs' ys' → IsFrontOf xs ys
front-equal xs ys xs' ys' e f h = (h.0, cc (h.1))

pub cut-more : (ds : List Delivery) (d : Delivery) → AllCut ds → is_batch d.complete d.messages ≡ true → AllCut (ds ++ d ∷ [])
cut-more [] d h c = (c, tt)
cut-more (x ∷ ds) d h c = (h.0, cut-more ds d h.1 c)

-- a take of a batch takes the first that waits
first-waits : (s : State) (id : ℕ) (messages : List RawMessage) (l : List (List RawMessage)) → taking.Batch messages ≡ take_of_waiting s id l → (more : List (List RawMessage)) × (l ≡ messages ∷ more)
first-waits s id messages (x ∷ l) e = (l, cc)
first-waits s id messages [] e = by_failed s.failed (has_ended id s.deliveries) e
  where
    by_failed : (a b : Bool) → taking.Batch messages ≡ (if a then taking.Gone else (if b then taking.Over else taking.Empty)) → (more : List (List RawMessage)) × ([] ≡ messages ∷ more)
    by_failed true b e = absurd cc
    by_failed false true e = absurd cc
    by_failed false false e = absurd cc

pub take-first : (s : State) (id : ℕ) (messages : List RawMessage) → taking.Batch messages ≡ take_answer s id → (more : List (List RawMessage)) × (waiting s id ≡ messages ∷ more)
take-first s id messages e = by_known (nat_lt id (length s.book)) (is_hung_up s id) e
  where
    by_known : (a b : Bool) → taking.Batch messages ≡ (if a then (if b then taking.Gone else take_of_waiting s id (waiting s id)) else taking.Gone) → (more : List (List RawMessage)) × (waiting s id ≡ messages ∷ more)
    by_known true true e = absurd cc
    by_known true false e = first-waits s id messages (waiting s id) e
    by_known false b e = absurd cc

-- a call that changes neither the book, nor what went out and came
pub order-same : (s t : State) → s.book ≡ t.book → s.copying ≡ t.copying → s.gone_out ≡ t.gone_out → s.deliveries ≡ t.deliveries → InOrder s → InOrder t
order-same s t a b c d h = record {
  owners = subst (OneAfterAnother 0) d h.owners;
  flags = rw (← a, ← b) h.flags;
  all = subst AllParts a h.all;
  out = rw (← a, ← b, ← c) h.out;
  ended = rw (← a, ← c, ← d) h.ended;
}

kept-take : (s : State) (id : ℕ) (messages : List RawMessage) → Kept s → taking.Batch messages ≡ take_answer s id → Kept (after s (TakeEvent id (Ok (taking.Batch messages))))
kept-take s id messages h e =
    let t : Taken = record { id = id; messages = messages } in
    let first : (more : List (List RawMessage)) × (waiting s id ≡ messages ∷ more) = take-first s id messages e in
    record {
      taken_is_front = λ k. elim (eqb_tells id k) [
        | inl same ↦ front-equal _ _ _ _ (taken-own k s.takes t same.1) refl
            (front-next (taken k s.takes) (given k s.deliveries) messages first.0 (h.taken_is_front k) (ap (λ (n : ℕ). waiting s n) (sym same.1) ∙ first.1))
        | inr apart ↦ front-equal _ _ _ _ (taken-other k s.takes t apart.1) refl (h.taken_is_front k)
      ];
      all_cut = h.all_cut;
      order = order-same s (after s (TakeEvent id (Ok (taking.Batch messages)))) refl refl refl refl h.order;
      at_most_two = λ k open_. elim (eqb_tells id k) [
        | inl same ↦ let a = taken-own k s.takes t same.1 in let b = h.at_most_two k open_ in simp (a, length-append) (omega arith)
        | inr apart ↦ simp (taken-other k s.takes t apart.1) (h.at_most_two k open_)
      ];
      out_is_front = h.out_is_front;
      few = h.few;
    }

-- a batch that is taken belongs to the oldest open request
pub order-deliver : (s : State) (batch : List RawMessage) (complete : Bool) → InOrder s → has_open s ≡ true → InOrder (after s (DeliverEvent batch complete delivering.Taken))
order-deliver s batch complete h open_ =
    let d : Delivery = record { owner = next_owner s; messages = batch; complete = complete } in
    record {
      owners = owners-more 0 s.deliveries d h.owners (let e = owner-counted s h open_ in omega arith);
      flags = h.flags;
      all = h.all;
      out = h.out;
      ended = few complete (finished-more s.deliveries d) (open-less s h open_);
    }
  where
    few : (b : Bool) {n : ℕ} → n ≡ (if b then 1 else 0) + finished s.deliveries → finished s.deliveries < started_of s → n ≤ started_of s
    few true e low = omega arith
    few false e low = omega arith

kept-deliver : (s : State) (batch : List RawMessage) (complete : Bool) → Kept s → Allows s (DeliverEvent batch complete delivering.Taken) → Kept (after s (DeliverEvent batch complete delivering.Taken))
kept-deliver s batch complete h a =
    let d : Delivery = record { owner = next_owner s; messages = batch; complete = complete } in
    record {
      taken_is_front = λ k. elim (eqb_tells (next_owner s) k) [
        | inl same ↦ front-equal _ _ _ _ refl (given-own k s.deliveries d same.1) (front-more (taken k s.takes) (given k s.deliveries) (batch ∷ []) (h.taken_is_front k))
        | inr apart ↦ front-equal _ _ _ _ refl (given-other k s.deliveries d apart.1) (h.taken_is_front k)
      ];
      all_cut = cut-more s.deliveries d h.all_cut a.0;
      order = order-deliver s batch complete h.order a.1;
      at_most_two = λ k open_. elim (eqb_tells (next_owner s) k) [
        | inl same ↦ elim a.2 [
          | inl gone ↦ absurd (false≢true (sym open_ ∙ ap (λ (n : ℕ). is_hung_up s n) (sym same.1) ∙ gone))
          | inr room ↦
              let own = given-own k s.deliveries d same.1 in
              let room_k : length (drop (length (taken k s.takes)) (given k s.deliveries)) < 2 = subst (λ (n : ℕ). length (waiting s n) < 2) same.1 room in
              let short : length (given k s.deliveries) - length (taken k s.takes) < 2 = simp length-drop at room_k in
              simp (own, length-append) (omega arith)
        ]
        | inr apart ↦ simp (given-other k s.deliveries d apart.1) (h.at_most_two k open_)
      ];
      out_is_front = h.out_is_front;
      few = h.few;
    }

pub last-is-no-part : (s : State) (p : List ℕ) → last_out s ≡ out.Part p → ⊥
last-is-no-part s p e = by_tests (has_open s) s.closed e
  where
    by_tests : (a b : Bool) → (if a then out.Nothing else (if b then out.NoMore else out.Nothing)) ≡ out.Part p → ⊥
    by_tests true b e = cc
    by_tests false true e = cc
    by_tests false false e = cc

-- the part that goes out is the next of the wire
pub part-goes-out : (s : State) (part : List ℕ) → out.Part part ≡ out_answer s → GoesOut (length s.gone_out) s.book s.copying part
part-goes-out s part e = goes-out (last_out s) (last-is-no-part s) (length s.gone_out) s.book s.copying part (sym e)

-- a part that goes out is of the next request
pub order-out : (s : State) (part : List ℕ) → InOrder s → out.Part part ≡ out_answer s → InOrder (after s (NextOut (Ok (out.Part part))))
order-out s part h e =
    let one : length s.gone_out + 1 ≡ length (s.gone_out ++ part ∷ []) = sym (length_push s.gone_out part) in
    record {
      owners = h.owners;
      flags = h.flags;
      all = h.all;
      out = subst (λ (n : ℕ). GoesInOrder n s.book s.copying) one ((part-goes-out s part e).order h.out);
      ended = let a = h.ended in let b = started-up (length s.gone_out) (length (s.gone_out ++ part ∷ [])) s.book (omega arith) in omega (arith, a, b);
    }

kept-out : (s : State) (part : List ℕ) → Kept s → out.Part part ≡ out_answer s → Kept (after s (NextOut (Ok (out.Part part))))
kept-out s part h e =
    let g = part-goes-out s part e in
    record {
      taken_is_front = h.taken_is_front;
      all_cut = h.all_cut;
      order = order-out s part h.order e;
      at_most_two = h.at_most_two;
      out_is_front = front-next s.gone_out (wire s.book) part g.more h.out_is_front g.next;
      few = few-up (length s.gone_out) (length (s.gone_out ++ part ∷ [])) s.book s.copying (let one = length_push s.gone_out part in omega arith) h.few;
    }

pub in-more : (k x : ℕ) (xs : List ℕ) → is_in k (xs ++ x ∷ []) ≡ false → is_in k xs ≡ false
in-more k x [] e = refl
in-more k x (y ∷ xs) e = by_first (y == k) e (in-more k x xs)
  where
    by_first : (b : Bool) → b || is_in k (xs ++ x ∷ []) ≡ false → (is_in k (xs ++ x ∷ []) ≡ false → is_in k xs ≡ false) → b || is_in k xs ≡ false
    by_first true e f = e
    by_first false e f = f e

pub in-more-if : (b : Bool) (k x : ℕ) (xs : List ℕ) → is_in k (if b then xs ++ x ∷ [] else xs) ≡ false → is_in k xs ≡ false
in-more-if true k x xs e = in-more k x xs e
in-more-if false k x xs e = e

-- who isn't booked, or hung up before, changes nothing
pub let-go-none : (s : State) (id : ℕ) → may_let_go s id ≡ false → after s (HangUp id (Ok tt)) ≡ s
let-go-none s id e = ap (λ (b : Bool). record s { hung_up = if b then s.hung_up ++ id ∷ [] else s.hung_up }) e

kept-hang-up : (s : State) (id : ℕ) → Kept s → Kept (after s (HangUp id (Ok tt)))
kept-hang-up s id h = record {
  taken_is_front = h.taken_is_front;
  all_cut = h.all_cut;
  order = order-same s (after s (HangUp id (Ok tt))) refl refl refl refl h.order;
  at_most_two = λ k open_. h.at_most_two k (in-more-if (may_let_go s id) k id s.hung_up open_);
  out_is_front = h.out_is_front;
  few = h.few;
}

pub order-book : (s : State) (stamp : Stamp) (part : List ℕ) (copying : Bool) (id : ℕ) → InOrder s → InOrder (after s (Book stamp part copying (Ok id)))
order-book s stamp part copying id h =
    let b : Booking = record { stamp = stamp; parts = part ∷ [] } in
    record {
      owners = h.owners;
      flags = length_push s.copying copying ∙ ap (λ (n : ℕ). n + 1) h.flags ∙ sym (length_push s.book b);
      all = all-more s.book b (omega arith) h.all;
      out = order-more (length s.gone_out) s.book s.copying b copying h.flags h.out;
      ended = subst (λ (n : ℕ). finished s.deliveries ≤ n) (sym (started-more (length s.gone_out) s.book s.copying b h.out)) h.ended;
    }

kept-book : (s : State) (stamp : Stamp) (part : List ℕ) (copying : Bool) (id : ℕ) → Kept s → Kept (after s (Book stamp part copying (Ok id)))
kept-book s stamp part copying id h =
    let b : Booking = record { stamp = stamp; parts = part ∷ [] } in
    record {
      taken_is_front = h.taken_is_front;
      all_cut = h.all_cut;
      order = order-book s stamp part copying id h.order;
      at_most_two = h.at_most_two;
      out_is_front = front-equal _ _ _ _ refl (wire-more s.book b) (front-more s.gone_out (wire s.book) (part ∷ []) h.out_is_front);
      few = few-more (length s.gone_out) s.book s.copying b copying h.order.flags (omega arith) h.few;
    }

pub running-copies : (s : State) (k : ℕ) → is_running s k ≡ true → is_copying k s.copying ≡ true
running-copies s k e = by_both (is_copying k s.copying) (is_hung_up s k) e
  where
    by_both : (a b : Bool) → a && not b ≡ true → a ≡ true
    by_both true b e = refl
    by_both false b e = e

-- what went out is a front still where as much of the new list is as of the old
same-front : {A : Type 0} (xs ys zs : List A) → take (length xs) zs ≡ take (length xs) ys → IsFrontOf xs ys → IsFrontOf xs zs
same-front {A} xs ys zs e f = (drop (length xs) zs, ap (λ (l : List A). l ++ drop (length xs) zs) (sym (e ∙ ap (λ (l : List A). take (length xs) l) (sym f.1) ∙ take-front xs f.0)) ∙ take-append-drop (length xs) zs)
  where
    take-front : (xs rest : List A) → take (length xs) (xs ++ rest) ≡ xs
    take-front [] rest = refl
    take-front (x ∷ xs) rest = ap (λ (l : List A). x ∷ l) (take-front xs rest)

-- a part more of a copy
pub order-put : (s : State) (id : ℕ) (part : List ℕ) → InOrder s → is_running s id ≡ true → InOrder (changed s (Added id part))
order-put s id part h runs =
    let copies = running-copies s id runs in
    record {
      owners = h.owners;
      flags = h.flags ∙ sym (extended-length id part s.book);
      all = all-extended id part s.book h.all;
      out = order-extended (length s.gone_out) id part s.book s.copying h.out copies;
      ended = subst (λ (n : ℕ). finished s.deliveries ≤ n) (sym (started-extended (length s.gone_out) id part s.book s.copying h.out copies)) h.ended;
    }

kept-put : (s : State) (id : ℕ) (part : List ℕ) → Kept s → is_running s id ≡ true → parts_waiting s id < 2 → Kept (changed s (Added id part))
kept-put s id part h runs room =
    let copies = running-copies s id runs in
    record {
      taken_is_front = h.taken_is_front;
      all_cut = h.all_cut;
      order = order-put s id part h.order runs;
      at_most_two = h.at_most_two;
      out_is_front = same-front s.gone_out (wire s.book) (wire (extended id part s.book)) (take-extended (length s.gone_out) id part s.book s.copying h.order.out copies) h.out_is_front;
      few = few-extended (length s.gone_out) id part s.book s.copying h.order.out copies room h.few;
    }

-- and its last one
pub order-end : (s : State) (id : ℕ) (part : List ℕ) → InOrder s → is_running s id ≡ true → InOrder (changed s (Ended id part))
order-end s id part h runs =
    let put = order-put s id part h runs in
    record {
      owners = h.owners;
      flags = length-set s.copying id false ∙ put.flags;
      all = put.all;
      out = order-cleared (length s.gone_out) id (extended id part s.book) s.copying put.out;
      ended = put.ended;
    }

kept-end : (s : State) (id : ℕ) (part : List ℕ) → Kept s → is_running s id ≡ true → Kept (changed s (Ended id part))
kept-end s id part h runs =
    let copies = running-copies s id runs in
    record {
      taken_is_front = h.taken_is_front;
      all_cut = h.all_cut;
      order = order-end s id part h.order runs;
      at_most_two = h.at_most_two;
      out_is_front = same-front s.gone_out (wire s.book) (wire (extended id part s.book)) (take-extended (length s.gone_out) id part s.book s.copying h.order.out copies) h.out_is_front;
      few = few-ended (length s.gone_out) id part s.book s.copying h.order.out copies h.few;
    }

same-kept : (s t : State) → s.book ≡ t.book → s.copying ≡ t.copying → s.gone_out ≡ t.gone_out → s.deliveries ≡ t.deliveries → s.takes ≡ t.takes → s.hung_up ≡ t.hung_up → Kept s → Kept t
same-kept s t a b c d e f h = record {
  taken_is_front = λ k. front-equal _ _ _ _ (ap (λ (l : List Taken). taken k l) (sym e)) (ap (λ (l : List Delivery). given k l) (sym d)) (h.taken_is_front k);
  all_cut = subst AllCut d h.all_cut;
  order = order-same s t a b c d h.order;
  at_most_two = λ k open_. rw (← d, ← e) (h.at_most_two k (ap (λ (l : List ℕ). is_in k l) f ∙ open_));
  out_is_front = front-equal _ _ _ _ (sym c) (ap wire (sym a)) h.out_is_front;
  few = rw (← a, ← b, ← c) h.few;
}

-- what legality says of what an event changes
pub admitted : (s : State) (e : Event) → Allows s e → Admits s (change_of e)
admitted s (Book stamp part copying (Ok id)) a = a.0
admitted s (Book stamp part copying (Err e)) a = tt
admitted s (PutEvent id part putting.Took) a = a
admitted s (PutEvent id part (putting.Full back)) a = tt
admitted s (PutEvent id part (putting.Gone back)) a = tt
admitted s (PutEvent id part (putting.OutOfMemory back)) a = tt
admitted s (EndCopy id part putting.Took) a = a
admitted s (EndCopy id part (putting.Full back)) a = tt
admitted s (EndCopy id part (putting.Gone back)) a = tt
admitted s (EndCopy id part (putting.OutOfMemory back)) a = tt
admitted s (TakeEvent id (Ok (taking.Batch messages))) a = a
admitted s (TakeEvent id (Ok taking.Empty)) a = tt
admitted s (TakeEvent id (Ok taking.Over)) a = tt
admitted s (TakeEvent id (Ok taking.Gone)) a = tt
admitted s (TakeEvent id (Err e)) a = tt
admitted s (HangUp id (Ok x)) a = tt
admitted s (HangUp id (Err e)) a = tt
admitted s (NextStatement (Ok n)) a = a.0
admitted s (NextStatement (Err e)) a = tt
admitted s (NextPortal (Ok n)) a = a.0
admitted s (NextPortal (Err e)) a = tt
admitted s (CatalogEvent call) a = tt
admitted s (NextOut (Ok (out.Part part))) a = a
admitted s (NextOut (Ok out.CopyWaits)) a = tt
admitted s (NextOut (Ok out.Nothing)) a = tt
admitted s (NextOut (Ok out.NoMore)) a = tt
admitted s (NextOut (Err e)) a = tt
admitted s (DeliverEvent batch complete delivering.Taken) a = a
admitted s (DeliverEvent batch complete (delivering.Full back)) a = tt
admitted s (DeliverEvent batch complete (delivering.NoRequest back)) a = tt
admitted s (DeliverEvent batch complete (delivering.OutOfMemory back)) a = tt
admitted s (CloseRequests (Ok x)) a = tt
admitted s (CloseRequests (Err e)) a = tt
admitted s (Fail (Ok x)) a = tt
admitted s (Fail (Err e)) a = tt

kept-by : (s : State) (c : Change) → Kept s → Admits s c → Kept (changed s c)
kept-by s (Booked stamp part copying) h a = kept-book s stamp part copying 0 h
kept-by s (Added id part) h a = kept-put s id part h a.1 a.2
kept-by s (Ended id part) h a = kept-end s id part h a.1
kept-by s (Took id messages) h a = kept-take s id messages h a
kept-by s (LetGo id) h a = kept-hang-up s id h
kept-by s (WentOut part) h a = kept-out s part h a.1
kept-by s (Came batch complete) h a = kept-deliver s batch complete h a
kept-by s DrewStatement h a = same-kept s (changed s DrewStatement) refl refl refl refl refl refl h
kept-by s DrewPortal h a = same-kept s (changed s DrewPortal) refl refl refl refl refl refl h
kept-by s (Catalogued call) h a = same-kept s (changed s (Catalogued call)) refl refl refl refl refl refl h
kept-by s ClosedAll h a = same-kept s (changed s ClosedAll) refl refl refl refl refl refl h
kept-by s FailedAll h a = same-kept s (changed s FailedAll) refl refl refl refl refl refl h
kept-by s Nothing h a = h

kept : (s : State) (e : Event) → Kept s → Allows s e → Kept (after s e)
kept s e h a = kept-by s (change_of e) h (admitted s e a)

kept-all : (s : State) (es : List Event) → Kept s → IsLegal s es → Kept (after_all s es)
kept-all s [] h l = h
kept-all s (e ∷ es) h l = kept-all (after s e) es (kept s e h l.0) l.1

kept-start : (n m : ℕ) → Kept (start n m)
kept-start n m = record {
  taken_is_front = λ k. ([], refl);
  all_cut = tt;
  order = record { owners = tt; flags = refl; all = tt; out = refl; ended = omega arith };
  at_most_two = λ k open_. omega arith;
  out_is_front = ([], refl);
  few = tt;
}

-- what is kept up to the end of a legal list
pub legal-kept : (n m : ℕ) (es : List Event) → IsLegal (start n m) es → Kept (after_all (start n m) es)
legal-kept n m es l = kept-all (start n m) es (kept-start n m) l

pub legal-sound : (n m : ℕ) (es : List Event) → IsLegal (start n m) es → IsSound (after_all (start n m) es)
legal-sound n m es l =
    let h = legal-kept n m es l in
    let ds = (after_all (start n m) es).deliveries in
    record {
      taken_is_front = h.taken_is_front;
      given_is_group = given-group ds h.order.owners h.all_cut;
      given_is_between = given-between ds h.order.owners;
      ended_in_order = ended-counted ds h.order.owners;
      at_most_two = λ k open_. let b = h.at_most_two k open_ in
          rw (length-drop (length (taken k (after_all (start n m) es).takes)) (given k ds)) (omega arith);
      out_is_front = h.out_is_front;
      none_behind = h.order.out;
      few_parts_wait = λ k. let s = after_all (start n m) es in few-waits (length s.gone_out) k s.book s.copying h.few;
    }

-- a batch that is taken belongs to the oldest open request, and to no other
pub given-more : (s : State) (batch : List RawMessage) (complete : Bool) (k : ℕ) →
    given k (after s (DeliverEvent batch complete delivering.Taken)).deliveries ≡ (if next_owner s == k then given k s.deliveries ++ batch ∷ [] else given k s.deliveries)
given-more s batch complete k =
    let d : Delivery = record { owner = next_owner s; messages = batch; complete = complete } in
    elim (eqb_tells (next_owner s) k) [
      | inl same ↦ given-own k s.deliveries d same.1 ∙ sym (ap (λ (b : Bool). if b then given k s.deliveries ++ batch ∷ [] else given k s.deliveries) same.0)
      | inr apart ↦ given-other k s.deliveries d apart.1 ∙ sym (ap (λ (b : Bool). if b then given k s.deliveries ++ batch ∷ [] else given k s.deliveries) apart.0)
    ]

-- the first of which it is true: of none before it, it is
pub record IsFirst (p : ℕ → Bool) (from n k : ℕ) : Type 0 where
  pub is : p k ≡ true
  pub high : from ≤ k
  pub low : k < from + n
  pub before : (j : ℕ) → from ≤ j → j < k → p j ≡ false

found-first : (p : ℕ → Bool) (from n k : ℕ) → first_from p from n ≡ Some k → IsFirst p from n k
found-first p from zero k e = absurd cc
found-first p from (suc n) k e = by_first (p from) refl e (found-first p (suc from) n k)
  where
    further : (a b : ℕ) → a ≢ b → a ≤ b → suc a ≤ b
    further a b f low = elim (eqb_tells a b) [ inl same ↦ absurd (f same.1) | inr apart ↦ omega arith ]

    by_first : (b : Bool) → p from ≡ b → (if b then Some from else first_from p (suc from) n) ≡ Some k → (first_from p (suc from) n ≡ Some k → IsFirst p (suc from) n k) → IsFirst p from (suc n) k
    by_first true is e later = let same : from ≡ k = cc in
        record { is = ap p (sym same) ∙ is; high = omega arith; low = omega arith; before = λ j low high. absurd (omega arith) }
    by_first false is e later =
        let h = later e in
        record {
          is = h.is;
          high = let a = h.high in omega arith;
          low = let a = h.low in omega arith;
          before = λ j low high. elim (eqb_tells from j) [
            | inl same ↦ ap p (sym same.1) ∙ is
            | inr apart ↦ h.before j (further from j apart.1 low) high
          ];
        }

-- the request that a batch belongs to is open, and no older one is
pub owner-is-oldest : (s : State) → has_open s ≡ true → IsOldestOpen s (next_owner s)
owner-is-oldest s e = by_oldest (oldest_open s) refl e
  where
    by_oldest : (o : Option ℕ) → oldest_open s ≡ o → is_some o ≡ true → IsOldestOpen s (unwrap_or o (length s.book))
    by_oldest None is e = absurd cc
    by_oldest (Some k) is e =
        let h = found-first (is_open s) 0 (length s.book) k is in
        record { booked = let b = h.low in omega arith; open_ = h.is; oldest = λ j low. h.before j (omega arith) low }

-- a delivery at the end of a legal list
pub legal-owner : (n m : ℕ) (es : List Event) (batch : List RawMessage) (complete : Bool) → IsLegal (start n m) (es ++ DeliverEvent batch complete delivering.Taken ∷ []) →
    BelongsToOldest (after_all (start n m) es) batch (after_all (start n m) (es ++ DeliverEvent batch complete delivering.Taken ∷ []))
legal-owner n m es batch complete l =
    let s = after_all (start n m) es in
    let e : Event = DeliverEvent batch complete delivering.Taken in
    subst (BelongsToOldest s batch) (sym (after-joined (start n m) es (e ∷ [])))
    (record { owner = next_owner s; is_oldest = owner-is-oldest s (legal-later (start n m) es (e ∷ []) l).0.1; given_is = given-more s batch complete })

-- to which request the next batch belongs, by how many are booked and have begun, and what came
abbrev owner_by : (booked begun : ℕ) → List Delivery → ℕ
owner_by booked begun ds = unwrap_or (first_from (λ k. nat_lt k begun && not (has_ended k ds)) 0 booked) booked

-- the same where a copy gets a part more
owner-put : (s : State) (id : ℕ) (part : List ℕ) → InOrder s → is_running s id ≡ true → next_owner (changed s (Added id part)) ≡ next_owner s
owner-put s id part h runs =
    let begun : ℕ = started (length s.gone_out) (extended id part s.book) in
    let same : begun ≡ started_of s = started-extended (length s.gone_out) id part s.book s.copying h.out (running-copies s id runs) in
    let more : owner_by (length (extended id part s.book)) begun s.deliveries ≡ owner_by (length s.book) begun s.deliveries =
    ap (λ (n : ℕ). owner_by n begun s.deliveries) (extended-length id part s.book) in
    let as_before : owner_by (length s.book) begun s.deliveries ≡ owner_by (length s.book) (started_of s) s.deliveries =
    ap (λ (n : ℕ). owner_by (length s.book) n s.deliveries) same in
    more ∙ as_before

-- the first part of a legal list
legal-front : (s : State) (es fs : List Event) → IsLegal s (es ++ fs) → IsLegal s es
legal-front s [] fs l = tt
legal-front s (e ∷ es) fs l = (l.0, legal-front (after s e) es fs l.1)

-- putting a part, and ending a copy, leaves the request that the next batch belongs to
pub legal-put : (n m : ℕ) (es : List Event) (id : ℕ) (part : List ℕ) (answer : Put) → IsLegal (start n m) (es ++ PutEvent id part answer ∷ []) →
    next_owner (after_all (start n m) (es ++ PutEvent id part answer ∷ [])) ≡ next_owner (after_all (start n m) es)
legal-put n m es id part answer l =
    ap next_owner (after-joined (start n m) es (PutEvent id part answer ∷ []))
    ∙ by answer (legal-later (start n m) es (PutEvent id part answer ∷ []) l).0
  where
    s : State
    s = after_all (start n m) es

    by : (a : Put) → Allows s (PutEvent id part a) → next_owner (after s (PutEvent id part a)) ≡ next_owner s
    by putting.Took a = owner-put s id part (legal-kept n m es (legal-front (start n m) es (PutEvent id part answer ∷ []) l)).order a.1
    by (putting.Full back) a = refl
    by (putting.Gone back) a = refl
    by (putting.OutOfMemory back) a = refl

pub legal-end : (n m : ℕ) (es : List Event) (id : ℕ) (part : List ℕ) (answer : Put) → IsLegal (start n m) (es ++ EndCopy id part answer ∷ []) →
    next_owner (after_all (start n m) (es ++ EndCopy id part answer ∷ [])) ≡ next_owner (after_all (start n m) es)
legal-end n m es id part answer l =
    ap next_owner (after-joined (start n m) es (EndCopy id part answer ∷ []))
    ∙ by answer (legal-later (start n m) es (EndCopy id part answer ∷ []) l).0
  where
    s : State
    s = after_all (start n m) es

    by : (a : Put) → Allows s (EndCopy id part a) → next_owner (after s (EndCopy id part a)) ≡ next_owner s
    by putting.Took a = owner-put s id part (legal-kept n m es (legal-front (start n m) es (EndCopy id part answer ∷ []) l)).order a.1
    by (putting.Full back) a = absurd a
    by (putting.Gone back) a = refl
    by (putting.OutOfMemory back) a = refl

-- hanging up changes what no request was given, and to whom the next batch belongs
pub hang-up-given : (s : State) (id k : ℕ) → given k (after s (HangUp id (Ok tt))).deliveries ≡ given k s.deliveries
hang-up-given s id k = refl
