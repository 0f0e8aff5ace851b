-- What the events of a hub deliver and let out, and what stays once nothing more can come.
use Rattle.std.proofs.Common.{◌≡◌, ◌<◌, ℕ, suc, List, [], ◌∷◌, ◌++◌, length, drop, Bool, true, false, ◌||◌, if◌then◌else◌, Ok, Err, refl, sym, ap, subst, ◌∙◌, arith, append_assoc, append-nil, slice_set}
use Rattle.std.proofs.lemmas.List.{length_push}
use Rattle.pg_spec.specs.RawMessages.{RawMessage}
use Rattle.pg_spec.specs.declared.stamps.Stamp.{Stamp}
use Rattle.pg_desk.specs.declared.event.Booking.{Booking}
use Rattle.pg_desk.specs.declared.event.Put.TheVariants as putting
use Rattle.pg_desk.specs.declared.event.Take.TheVariants as taking
use Rattle.pg_desk.specs.declared.event.Out.TheVariants as out
use Rattle.pg_desk.specs.declared.event.Deliver.TheVariants as delivering
use Rattle.pg_desk.specs.declared.event.Event.{Event}
use Rattle.pg_desk.specs.declared.event.Event.TheVariants.{Book, Put as PutEvent, EndCopy, Take as TakeEvent, HangUp, NextStatement, NextPortal, Catalog as CatalogEvent, NextOut, Deliver as DeliverEvent, CloseRequests, Fail}
use Rattle.pg_desk.specs.History.{State, Delivery, wire, started, started_of, finished, received, joined, has_open, is_running, next_owner, last_out, start, after, after_all, Allows, IsLegal}
use Rattle.pg_desk.specs.Order.{InOrder}
use Rattle.pg_desk.proofs.Owners.{open-less}
use Rattle.pg_desk.proofs.Soundness.{AllCut, cut-more, order-book, order-deliver, order-end, order-out, order-put, order-same, part-goes-out, running-copies}
use Rattle.pg_desk.proofs.Outs.{AllEnded, Stands, Whole, Waits, Part, ended-cleared, ended-extended, stands}
use Rattle.pg_desk.proofs.Parts.{started-extended, started-more, started-up}
use Rattle.pg_connect.specs.Ends.{last_is, has_no_more}
use Rattle.pg_connect.specs.Passed.{delivered_in, delivered_by, bytes_out_in, bytes_out_by}

-- ---- the kinds of events

-- the bookings, what went out and came, and whether requests are closed, are as before
pub record Same (s t : State) : Type 0 where
  pub book : t.book ≡ s.book
  pub copying : t.copying ≡ s.copying
  pub gone_out : t.gone_out ≡ s.gone_out
  pub deliveries : t.deliveries ≡ s.deliveries
  pub closed : t.closed ≡ s.closed

-- By this event nothing is booked, delivered, let out or closed.
pub record Plain (e : Event) : Type 0 where
  pub same : (s : State) → Same s (after s e)
  pub none_in : delivered_in e ≡ []
  pub none_out : bytes_out_in e ≡ []

-- an event books, adds a part to a copy or ends it, lets a part out, is a batch that was taken, closes requests, or is plain
pub by_kind : (P : Event → Type 0) → ((stamp : Stamp) (part : List ℕ) (copying : Bool) (id : ℕ) → P (Book stamp part copying (Ok id))) →
    ((part : List ℕ) → P (NextOut (Ok (out.Part part)))) → ((batch : List RawMessage) (complete : Bool) → P (DeliverEvent batch complete delivering.Taken)) →
    P (CloseRequests (Ok tt)) → ((id : ℕ) (part : List ℕ) → P (PutEvent id part putting.Took)) → ((id : ℕ) (part : List ℕ) → P (EndCopy id part putting.Took)) →
    ((e : Event) → Plain e → P e) → (e : Event) → P e
by_kind P books goes comes closes puts ends other (Book stamp part copying (Ok id)) = books stamp part copying id
by_kind P books goes comes closes puts ends other (NextOut (Ok (out.Part part))) = goes part
by_kind P books goes comes closes puts ends other (DeliverEvent batch complete delivering.Taken) = comes batch complete
by_kind P books goes comes closes puts ends other (CloseRequests (Ok x)) = closes
by_kind P books goes comes closes puts ends other (Book stamp part copying (Err e)) = other _ (record { same = λ s. record { book = refl; copying = refl; gone_out = refl; deliveries = refl; closed = refl }; none_in = refl; none_out = refl })
by_kind P books goes comes closes puts ends other (PutEvent id part putting.Took) = puts id part
by_kind P books goes comes closes puts ends other (PutEvent id part (putting.Full back)) = other _ (record { same = λ s. record { book = refl; copying = refl; gone_out = refl; deliveries = refl; closed = refl }; none_in = refl; none_out = refl })
by_kind P books goes comes closes puts ends other (PutEvent id part (putting.Gone back)) = other _ (record { same = λ s. record { book = refl; copying = refl; gone_out = refl; deliveries = refl; closed = refl }; none_in = refl; none_out = refl })
by_kind P books goes comes closes puts ends other (PutEvent id part (putting.OutOfMemory back)) = other _ (record { same = λ s. record { book = refl; copying = refl; gone_out = refl; deliveries = refl; closed = refl }; none_in = refl; none_out = refl })
by_kind P books goes comes closes puts ends other (EndCopy id part putting.Took) = ends id part
by_kind P books goes comes closes puts ends other (EndCopy id part (putting.Full back)) = other _ (record { same = λ s. record { book = refl; copying = refl; gone_out = refl; deliveries = refl; closed = refl }; none_in = refl; none_out = refl })
by_kind P books goes comes closes puts ends other (EndCopy id part (putting.Gone back)) = other _ (record { same = λ s. record { book = refl; copying = refl; gone_out = refl; deliveries = refl; closed = refl }; none_in = refl; none_out = refl })
by_kind P books goes comes closes puts ends other (EndCopy id part (putting.OutOfMemory back)) = other _ (record { same = λ s. record { book = refl; copying = refl; gone_out = refl; deliveries = refl; closed = refl }; none_in = refl; none_out = refl })
by_kind P books goes comes closes puts ends other (TakeEvent id (Ok (taking.Batch ms))) = other _ (record { same = λ s. record { book = refl; copying = refl; gone_out = refl; deliveries = refl; closed = refl }; none_in = refl; none_out = refl })
by_kind P books goes comes closes puts ends other (TakeEvent id (Ok x)) = other _ (record { same = λ s. record { book = refl; copying = refl; gone_out = refl; deliveries = refl; closed = refl }; none_in = refl; none_out = refl })
by_kind P books goes comes closes puts ends other (TakeEvent id (Err e)) = other _ (record { same = λ s. record { book = refl; copying = refl; gone_out = refl; deliveries = refl; closed = refl }; none_in = refl; none_out = refl })
by_kind P books goes comes closes puts ends other (HangUp id (Ok x)) = other _ (record { same = λ s. record { book = refl; copying = refl; gone_out = refl; deliveries = refl; closed = refl }; none_in = refl; none_out = refl })
by_kind P books goes comes closes puts ends other (HangUp id (Err e)) = other _ (record { same = λ s. record { book = refl; copying = refl; gone_out = refl; deliveries = refl; closed = refl }; none_in = refl; none_out = refl })
by_kind P books goes comes closes puts ends other (NextStatement (Ok n)) = other _ (record { same = λ s. record { book = refl; copying = refl; gone_out = refl; deliveries = refl; closed = refl }; none_in = refl; none_out = refl })
by_kind P books goes comes closes puts ends other (NextStatement (Err e)) = other _ (record { same = λ s. record { book = refl; copying = refl; gone_out = refl; deliveries = refl; closed = refl }; none_in = refl; none_out = refl })
by_kind P books goes comes closes puts ends other (NextPortal (Ok n)) = other _ (record { same = λ s. record { book = refl; copying = refl; gone_out = refl; deliveries = refl; closed = refl }; none_in = refl; none_out = refl })
by_kind P books goes comes closes puts ends other (NextPortal (Err e)) = other _ (record { same = λ s. record { book = refl; copying = refl; gone_out = refl; deliveries = refl; closed = refl }; none_in = refl; none_out = refl })
by_kind P books goes comes closes puts ends other (CatalogEvent call) = other _ (record { same = λ s. record { book = refl; copying = refl; gone_out = refl; deliveries = refl; closed = refl }; none_in = refl; none_out = refl })
by_kind P books goes comes closes puts ends other (NextOut (Ok x)) = other _ (record { same = λ s. record { book = refl; copying = refl; gone_out = refl; deliveries = refl; closed = refl }; none_in = refl; none_out = refl })
by_kind P books goes comes closes puts ends other (NextOut (Err e)) = other _ (record { same = λ s. record { book = refl; copying = refl; gone_out = refl; deliveries = refl; closed = refl }; none_in = refl; none_out = refl })
by_kind P books goes comes closes puts ends other (DeliverEvent batch complete x) = other _ (record { same = λ s. record { book = refl; copying = refl; gone_out = refl; deliveries = refl; closed = refl }; none_in = refl; none_out = refl })
by_kind P books goes comes closes puts ends other (CloseRequests (Err e)) = other _ (record { same = λ s. record { book = refl; copying = refl; gone_out = refl; deliveries = refl; closed = refl }; none_in = refl; none_out = refl })
by_kind P books goes comes closes puts ends other (Fail (Ok x)) = other _ (record { same = λ s. record { book = refl; copying = refl; gone_out = refl; deliveries = refl; closed = refl }; none_in = refl; none_out = refl })
by_kind P books goes comes closes puts ends other (Fail (Err e)) = other _ (record { same = λ s. record { book = refl; copying = refl; gone_out = refl; deliveries = refl; closed = refl }; none_in = refl; none_out = refl })

-- ---- what came and went out

received-push : (ds : List Delivery) (d : Delivery) → received (ds ++ d ∷ []) ≡ received ds ++ d.messages
received-push [] d = append-nil d.messages
received-push (x ∷ ds) d = ap (λ (l : List RawMessage). x.messages ++ l) (received-push ds d) ∙ sym (append_assoc x.messages (received ds) d.messages)

joined-push : {A : Type 0} (xss : List (List A)) (xs : List A) → joined (xss ++ xs ∷ []) ≡ joined xss ++ xs
joined-push [] xs = append-nil xs
joined-push {A} (x ∷ xss) xs = ap (λ (l : List A). x ++ l) (joined-push xss xs) ∙ sym (append_assoc x (joined xss) xs)

as_before : {A : Type 0} (a b c : List A) → b ≡ a → c ≡ [] → b ≡ a ++ c
as_before {A} a b c same none = same ∙ sym (append-nil a) ∙ ap (λ (l : List A). a ++ l) (sym none)

received-one : (s : State) (e : Event) → received (after s e).deliveries ≡ received s.deliveries ++ delivered_in e
received-one s e = by_kind (λ e. received (after s e).deliveries ≡ received s.deliveries ++ delivered_in e)
    (λ stamp part copying id. sym (append-nil (received s.deliveries)))
    (λ part. sym (append-nil (received s.deliveries)))
    (λ batch complete. received-push s.deliveries (record { owner = next_owner s; messages = batch; complete = complete }))
    (sym (append-nil (received s.deliveries)))
    (λ id part. sym (append-nil (received s.deliveries)))
    (λ id part. sym (append-nil (received s.deliveries)))
    (λ e plain. as_before (received s.deliveries) (received (after s e).deliveries) (delivered_in e) (ap received (plain.same s).deliveries) plain.none_in)
    e

-- what the hub received is what was delivered by its events
pub received-all : (s : State) (es : List Event) → received (after_all s es).deliveries ≡ received s.deliveries ++ delivered_by es
received-all s [] = sym (append-nil (received s.deliveries))
received-all s (e ∷ es) = received-all (after s e) es ∙ ap (λ (l : List RawMessage). l ++ delivered_by es) (received-one s e)
    ∙ append_assoc (received s.deliveries) (delivered_in e) (delivered_by es)

out-one : (s : State) (e : Event) → joined (after s e).gone_out ≡ joined s.gone_out ++ bytes_out_in e
out-one s e = by_kind (λ e. joined (after s e).gone_out ≡ joined s.gone_out ++ bytes_out_in e)
    (λ stamp part copying id. sym (append-nil (joined s.gone_out)))
    (λ part. joined-push s.gone_out part)
    (λ batch complete. sym (append-nil (joined s.gone_out)))
    (sym (append-nil (joined s.gone_out)))
    (λ id part. sym (append-nil (joined s.gone_out)))
    (λ id part. sym (append-nil (joined s.gone_out)))
    (λ e plain. as_before (joined s.gone_out) (joined (after s e).gone_out) (bytes_out_in e) (ap (λ (l : List (List ℕ)). joined l) (plain.same s).gone_out) plain.none_out)
    e

-- what went out of the hub went out by its events
pub out-all : (s : State) (es : List Event) → joined (after_all s es).gone_out ≡ joined s.gone_out ++ bytes_out_by es
out-all s [] = sym (append-nil (joined s.gone_out))
out-all s (e ∷ es) = out-all (after s e) es ∙ ap (λ (l : List ℕ). l ++ bytes_out_by es) (out-one s e)
    ∙ append_assoc (joined s.gone_out) (bytes_out_in e) (bytes_out_by es)

-- ---- once nothing more can come

-- Requests are closed, all parts went out, no copy may get more, and no request is open.
pub record Spent (s : State) : Type 0 where
  pub closed : s.closed ≡ true
  pub out : drop (length s.gone_out) (wire s.book) ≡ []
  pub ended : AllEnded s.book s.copying
  pub answered : has_open s ≡ false

not_open : (a b : Bool) → a ≡ true → a || b ≡ false → ⊥
not_open a b e f = let g : true || b ≡ false = subst (λ (x : Bool). x || b ≡ false) e f in let h : true ≡ false = g in cc

no_part : (l more : List (List ℕ)) (part : List ℕ) → l ≡ [] → l ≡ part ∷ more → ⊥
no_part l more part none e = let no : ◌≡◌ {A = List (List ℕ)} [] (part ∷ more) = sym none ∙ e in cc

spent-same : (s t : State) → Same s t → Spent s → Spent t
spent-same s t same h = record {
  closed = same.closed ∙ h.closed;
  out = ap (λ (l : List (List ℕ)). drop (length l) (wire t.book)) same.gone_out ∙ ap (λ (b : List Booking). drop (length s.gone_out) (wire b)) same.book ∙ h.out;
  ended = subst (λ (cs : List Bool). AllEnded t.book cs) (sym same.copying) (subst (λ (b : List Booking). AllEnded b s.copying) (sym same.book) h.ended);
  answered = ap (λ (b : List Booking). has_open (record t { book = b })) same.book
      ∙ ap (λ (g : List (List ℕ)). has_open (record t { book = s.book; gone_out = g })) same.gone_out
      ∙ ap (λ (ds : List Delivery). has_open (record t { book = s.book; gone_out = s.gone_out; deliveries = ds })) same.deliveries ∙ h.answered;
}

-- no part is added to a copy then
spent-put : (s : State) (id : ℕ) (part : List ℕ) → Spent s → is_running s id ≡ true → Spent (after s (PutEvent id part putting.Took))
spent-put s id part h runs = subst (λ (b : List Booking). Spent (record s { book = b })) (sym (ended-extended id part s.book s.copying h.ended (running-copies s id runs))) h

spent-end : (s : State) (id : ℕ) (part : List ℕ) → Spent s → is_running s id ≡ true → Spent (after s (EndCopy id part putting.Took))
spent-end s id part h runs =
    subst (λ (b : List Booking). Spent (record s { book = b; copying = slice_set s.copying id false })) (sym (ended-extended id part s.book s.copying h.ended (running-copies s id runs)))
    (record { closed = h.closed; out = h.out; ended = ended-cleared id s.book s.copying h.ended; answered = h.answered })

-- It stays so, whatever happens.
pub spent-one : (s : State) (e : Event) → Spent s → Allows s e → Spent (after s e)
spent-one s e h = by_kind (λ e. Allows s e → Spent (after s e))
    (λ stamp part copying id a. absurd (not_open s.closed s.failed h.closed a.0))
    (λ part a. let g = part-goes-out s part a.1 in absurd (no_part (drop (length s.gone_out) (wire s.book)) g.more part h.out g.next))
    (λ batch complete a. absurd (let no : true ≡ false = sym a.1 ∙ h.answered in cc))
    (λ a. record { closed = refl; out = h.out; ended = h.ended; answered = h.answered })
    (λ id part a. spent-put s id part h a.1)
    (λ id part a. spent-end s id part h a.1)
    (λ e plain a. spent-same s (after s e) (plain.same s) h)
    e

pub spent-all : (s : State) (es : List Event) → Spent s → IsLegal s es → Spent (after_all s es)
spent-all s [] h l = h
spent-all s (e ∷ es) h l = spent-all (after s e) es (spent-one s e h l.0) l.1

no-more-one : (s : State) (e : Event) → has_no_more e ≡ true → Allows s e → Spent (after s e)
no-more-one s (NextOut (Ok out.NoMore)) is a = by (stands (last_out s) out.NoMore (length s.gone_out) s.book s.copying a.1)
  where
    by_tests : (a b : Bool) → has_open s ≡ a → s.closed ≡ b → out.NoMore ≡ (if a then out.Nothing else (if b then out.NoMore else out.Nothing)) →
        (s.closed ≡ true) × (has_open s ≡ false)
    by_tests true b p q e = absurd cc
    by_tests false true p q e = (q, p)
    by_tests false false p q e = absurd cc

    by : Stands (last_out s) (length s.gone_out) s.book s.copying out.NoMore → Spent s
    by (Whole w) = let h = by_tests (has_open s) s.closed refl refl w.is in record { closed = h.0; out = w.parts; ended = w.ended; answered = h.1 }
    by (Waits is w) = absurd cc
    by (Part part is) = absurd cc
no-more-one s _ is a = absurd cc

-- It is so where the hub's last answer was that nothing more will come.
pub no-more-spent : (s : State) (es : List Event) → last_is has_no_more es ≡ true → IsLegal s es → Spent (after_all s es)
no-more-spent s [] is l = absurd cc
no-more-spent s (e ∷ []) is l = no-more-one s e is l.0
no-more-spent s (e ∷ f ∷ es) is l = no-more-spent (after s e) (f ∷ es) is l.1

-- ---- the deliveries of a legal list

-- the last batch ended its group, or none came
abbrev pub ends_whole : List Delivery → Bool
ends_whole [] = true
ends_whole (d ∷ []) = d.complete
ends_whole (d ∷ e ∷ ds) = ends_whole (e ∷ ds)

-- Each delivery was a batch, requests and replies are in order, and a group that isn't whole is of a request that is open.
pub record Ran (s : State) : Type 0 where
  pub cut : AllCut s.deliveries
  pub order : InOrder s
  pub tail : ends_whole s.deliveries ≡ false → finished s.deliveries < started_of s

ends-push : (ds : List Delivery) (d : Delivery) → ends_whole (ds ++ d ∷ []) ≡ d.complete
ends-push [] d = refl
ends-push (x ∷ []) d = refl
ends-push (x ∷ y ∷ ds) d = ends-push (y ∷ ds) d

finished-push : (ds : List Delivery) (owner : ℕ) (messages : List RawMessage) → finished (ds ++ record { owner = owner; messages = messages; complete = false } ∷ []) ≡ finished ds
finished-push [] owner messages = refl
finished-push (x ∷ ds) owner messages = ap (λ (n : ℕ). if x.complete then suc n else n) (finished-push ds owner messages)

ran-deliver : (s : State) (batch : List RawMessage) (complete : Bool) → Ran s → Allows s (DeliverEvent batch complete delivering.Taken) →
    Ran (after s (DeliverEvent batch complete delivering.Taken))
ran-deliver s batch true h a = record {
  cut = cut-more s.deliveries (record { owner = next_owner s; messages = batch; complete = true }) h.cut a.0;
  order = order-deliver s batch true h.order a.1;
  tail = λ e. let no : true ≡ false = sym (ends-push s.deliveries (record { owner = next_owner s; messages = batch; complete = true })) ∙ e in absurd cc;
}
ran-deliver s batch false h a = record {
  cut = cut-more s.deliveries (record { owner = next_owner s; messages = batch; complete = false }) h.cut a.0;
  order = order-deliver s batch false h.order a.1;
  tail = λ e. subst (λ (n : ℕ). n < started_of s) (sym (finished-push s.deliveries (next_owner s) batch)) (open-less s h.order a.1);
}

ran-same : (s t : State) → Same s t → Ran s → Ran t
ran-same s t same h = record {
  cut = subst AllCut (sym same.deliveries) h.cut;
  order = order-same s t (sym same.book) (sym same.copying) (sym same.gone_out) (sym same.deliveries) h.order;
  tail = λ e.
      let b : finished s.deliveries < started_of s = h.tail (sym (ap ends_whole same.deliveries) ∙ e) in
      let g : started_of t ≡ started_of s = ap (λ (l : List (List ℕ)). started (length l) t.book) same.gone_out ∙ ap (λ (l : List Booking). started (length s.gone_out) l) same.book in
      let d = ap finished same.deliveries in omega arith;
}

-- as many requests began where one is booked, and where a copy gets a part more
ran-began : (s : State) (n : ℕ) → n ≡ started_of s → (ends_whole s.deliveries ≡ false → finished s.deliveries < started_of s) → ends_whole s.deliveries ≡ false → finished s.deliveries < n
ran-began s n same tail e = subst (λ (m : ℕ). finished s.deliveries < m) (sym same) (tail e)

ran-one : (s : State) (e : Event) → Ran s → Allows s e → Ran (after s e)
ran-one s e h = by_kind (λ e. Allows s e → Ran (after s e))
    (λ stamp part copying id a. record {
      cut = h.cut;
      order = order-book s stamp part copying id h.order;
      tail = ran-began s _ (started-more (length s.gone_out) s.book s.copying (record { stamp = stamp; parts = part ∷ [] }) h.order.out) h.tail;
    })
    (λ part a. record {
      cut = h.cut;
      order = order-out s part h.order a.1;
      tail = λ e.
          let b : finished s.deliveries < started_of s = h.tail e in
          let one = length_push s.gone_out part in
          let more = started-up (length s.gone_out) (length (s.gone_out ++ part ∷ [])) s.book (omega (arith, one)) in omega (arith, b, more);
    })
    (λ batch complete a. ran-deliver s batch complete h a)
    (λ a. record { cut = h.cut; order = order-same s (after s (CloseRequests (Ok tt))) refl refl refl refl h.order; tail = h.tail })
    (λ id part a. record {
      cut = h.cut;
      order = order-put s id part h.order a.1;
      tail = ran-began s _ (started-extended (length s.gone_out) id part s.book s.copying h.order.out (running-copies s id a.1)) h.tail;
    })
    (λ id part a. record {
      cut = h.cut;
      order = order-end s id part h.order a.1;
      tail = ran-began s _ (started-extended (length s.gone_out) id part s.book s.copying h.order.out (running-copies s id a.1)) h.tail;
    })
    (λ e plain a. ran-same s (after s e) (plain.same s) h)
    e

pub ran-start : (n m : ℕ) → Ran (start n m)
ran-start n m = record {
  cut = tt;
  order = record { owners = tt; flags = refl; all = tt; out = refl; ended = omega arith };
  tail = λ e. absurd (let no : true ≡ false = e in cc);
}

pub ran-all : (s : State) (es : List Event) → Ran s → IsLegal s es → Ran (after_all s es)
ran-all s [] h l = h
ran-all s (e ∷ es) h l = ran-all (after s e) es (ran-one s e h l.0) l.1
