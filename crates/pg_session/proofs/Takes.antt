-- What a request was given and what its reader took.
use Rattle.std.proofs.Common.{◌≡◌, ◌≢◌, ℕ, zero, suc, ◌<◌, ◌==◌, nat_lt, List, [], ◌∷◌, ◌++◌, length, drop, Bool, true, false, ◌||◌, Ok, Err, refl, sym, ap, ◌∙◌, subst, arith, if◌then◌else◌, append_assoc}
use Rattle.std.proofs.lemmas.Bool.Decides.{nat_tests}
use Rattle.std.proofs.lemmas.List.{append-nil, drop_at}
use Rattle.pg_spec.specs.Batches.{is_batch}
use Rattle.pg_spec.specs.RawMessages.{RawMessage, is_ready, is_aside, ends_in}
use Rattle.pg_connect.specs.Passed.{delivered_by}
use Rattle.pg_desk.specs.declared.event.Deliver.TheVariants as delivering
use Rattle.pg_desk.specs.declared.event.Put.TheVariants as putting
use Rattle.pg_desk.specs.declared.event.Event.{Event}
use Rattle.pg_desk.specs.declared.event.Event.TheVariants.{Book, Put as PutEvent, EndCopy, Take as TakeEvent, HangUp, NextStatement, NextPortal, Catalog as CatalogEvent, NextOut, Deliver as DeliverEvent, CloseRequests, Fail}
use Rattle.pg_desk.specs.declared.event.Out.TheVariants as out
use Rattle.pg_spec.specs.declared.stamps.Stamp.{Stamp}
use Rattle.pg_desk.specs.declared.event.Take.TheVariants as taking
use Rattle.pg_desk.specs.History.{State, Delivery, finished, given, between_ends, has_ended, next_owner, may_let_go, taken, waiting, is_in, is_hung_up, after, after_all, take_answer, take_of_waiting, Allows, IsExact, IsFrontOf, IsSound, joined, received, reply}
use Rattle.pg_desk.proofs.Soundness.{AllCut, cut-more, taken-own, taken-other}
use Rattle.pg_query.specs.Lives.{IsOf, AllOf, messages_taken, taken_by}
use Rattle.pg_session.proofs.Books.{stamped}
use Rattle.pg_connect.specs.Passed.{IsEngineCall, AllEngineCalls}

-- the call hangs up
abbrev pub IsHangUp : Event → Type 0
IsHangUp (HangUp id answer) = Unit {0}
IsHangUp _ = ⊥

-- no call of these does
abbrev pub NoHangUp : List Event → Type 0
NoHangUp [] = Unit {0}
NoHangUp (e ∷ es) = (IsHangUp e → ⊥) × NoHangUp es

-- the reader of request k took no more, and hung up no later
pub record SameReader (k : ℕ) (s t : State) : Type 0 where
  pub taken : taken k t.takes ≡ taken k s.takes
  pub hung : is_hung_up t k ≡ is_hung_up s k

pub reader-here : (k : ℕ) (s : State) → SameReader k s s
reader-here k s = record { taken = refl; hung = refl }

pub reader-then : (k : ℕ) (s t u : State) → SameReader k s t → SameReader k t u → SameReader k s u
reader-then k s t u h g = record { taken = g.taken ∙ h.taken; hung = g.hung ∙ h.hung }

in-other : (j k : ℕ) (xs : List ℕ) → j ≢ k → is_in j (xs ++ k ∷ []) ≡ is_in j xs
in-other j k [] h = grind (arith, nat_tests)
in-other j k (x ∷ xs) h = ap (λ (b : Bool). (x == j) || b) (in-other j k xs h)

in-other-if : (b : Bool) (j k : ℕ) (xs : List ℕ) → j ≢ k → is_in j (if b then xs ++ k ∷ [] else xs) ≡ is_in j xs
in-other-if true j k xs h = in-other j k xs h
in-other-if false j k xs h = refl

-- ---- a command's calls

other-reader : (s : State) (j k : ℕ) (e : Event) → j ≢ k → IsOf k e → SameReader j s (after s e)
other-reader s j k (TakeEvent which (Ok (taking.Batch ms))) apart h =
    record { taken = taken-other j s.takes (record { id = which; messages = ms }) (λ e. apart (sym e ∙ h)); hung = refl }
other-reader s j k (TakeEvent which (Ok taking.Empty)) apart h = reader-here j s
other-reader s j k (TakeEvent which (Ok taking.Over)) apart h = reader-here j s
other-reader s j k (TakeEvent which (Ok taking.Gone)) apart h = reader-here j s
other-reader s j k (TakeEvent which (Err e)) apart h = reader-here j s
other-reader s j k (HangUp which (Ok x)) apart h = record { taken = refl; hung = in-other-if (may_let_go s which) j which s.hung_up (λ e. apart (e ∙ h)) }
other-reader s j k (HangUp which (Err e)) apart h = reader-here j s
other-reader s j k (Book stamp part copying r) apart h = absurd h
other-reader s j k (NextStatement r) apart h = absurd h
other-reader s j k (NextPortal r) apart h = absurd h
other-reader s j k (CatalogEvent call) apart h = absurd h
other-reader s j k (PutEvent which part r) apart h = absurd h
other-reader s j k (EndCopy which part r) apart h = absurd h
other-reader s j k (NextOut r) apart h = absurd h
other-reader s j k (DeliverEvent batch complete r) apart h = absurd h
other-reader s j k (CloseRequests r) apart h = absurd h
other-reader s j k (Fail r) apart h = absurd h

pub own-others : (s : State) (j k : ℕ) (stamp : Stamp) (es : List Event) → j ≢ k → AllOf k (stamped stamp es) → SameReader j s (after_all s es)
own-others s j k stamp [] apart h = reader-here j s
own-others s j k stamp (e ∷ es) apart h = reader-then j s (after s e) (after_all s (e ∷ es)) (other-reader s j k e apart h.0) (own-others (after s e) j k stamp es apart h.1)

own-delivery : (s : State) (k : ℕ) (e : Event) → IsOf k e → (after s e).deliveries ≡ s.deliveries
own-delivery s k (TakeEvent which (Ok (taking.Batch ms))) h = refl
own-delivery s k (TakeEvent which (Ok taking.Empty)) h = refl
own-delivery s k (TakeEvent which (Ok taking.Over)) h = refl
own-delivery s k (TakeEvent which (Ok taking.Gone)) h = refl
own-delivery s k (TakeEvent which (Err e)) h = refl
own-delivery s k (HangUp which (Ok x)) h = refl
own-delivery s k (HangUp which (Err e)) h = refl
own-delivery s k (Book stamp part copying r) h = absurd h
own-delivery s k (NextStatement r) h = absurd h
own-delivery s k (NextPortal r) h = absurd h
own-delivery s k (CatalogEvent call) h = absurd h
own-delivery s k (PutEvent which part r) h = absurd h
own-delivery s k (EndCopy which part r) h = absurd h
own-delivery s k (NextOut r) h = absurd h
own-delivery s k (DeliverEvent batch complete r) h = absurd h
own-delivery s k (CloseRequests r) h = absurd h
own-delivery s k (Fail r) h = absurd h

pub own-deliveries : (s : State) (k : ℕ) (stamp : Stamp) (es : List Event) → AllOf k (stamped stamp es) → (after_all s es).deliveries ≡ s.deliveries
own-deliveries s k stamp [] h = refl
own-deliveries s k stamp (e ∷ es) h = own-deliveries (after s e) k stamp es h.1 ∙ own-delivery s k e h.0

joined-more : {A : Type 0} (xss : List (List A)) (xs : List A) → joined (xss ++ xs ∷ []) ≡ joined xss ++ xs
joined-more [] xs = append-nil xs
joined-more (ys ∷ xss) xs = ap (λ l. ys ++ l) (joined-more xss xs) ∙ sym (append_assoc ys (joined xss) xs)

own-take : (s : State) (k : ℕ) (e : Event) → IsOf k e → joined (taken k (after s e).takes) ≡ joined (taken k s.takes) ++ taken_by e
own-take s k (TakeEvent which (Ok (taking.Batch ms))) h =
    ap (λ (l : List (List RawMessage)). joined l) (taken-own k s.takes (record { id = which; messages = ms }) h) ∙ joined-more (taken k s.takes) ms
own-take s k (TakeEvent which (Ok taking.Empty)) h = sym (append-nil (joined (taken k s.takes)))
own-take s k (TakeEvent which (Ok taking.Over)) h = sym (append-nil (joined (taken k s.takes)))
own-take s k (TakeEvent which (Ok taking.Gone)) h = sym (append-nil (joined (taken k s.takes)))
own-take s k (TakeEvent which (Err e)) h = sym (append-nil (joined (taken k s.takes)))
own-take s k (HangUp which (Ok x)) h = sym (append-nil (joined (taken k s.takes)))
own-take s k (HangUp which (Err e)) h = sym (append-nil (joined (taken k s.takes)))
own-take s k (Book stamp part copying r) h = absurd h
own-take s k (NextStatement r) h = absurd h
own-take s k (NextPortal r) h = absurd h
own-take s k (CatalogEvent call) h = absurd h
own-take s k (PutEvent which part r) h = absurd h
own-take s k (EndCopy which part r) h = absurd h
own-take s k (NextOut r) h = absurd h
own-take s k (DeliverEvent batch complete r) h = absurd h
own-take s k (CloseRequests r) h = absurd h
own-take s k (Fail r) h = absurd h

-- its reader's messages are those that its events took
pub own-takes : (s : State) (k : ℕ) (stamp : Stamp) (es : List Event) → AllOf k (stamped stamp es) →
    joined (taken k (after_all s es).takes) ≡ joined (taken k s.takes) ++ messages_taken (stamped stamp es)
own-takes s k stamp [] h = sym (append-nil (joined (taken k s.takes)))
own-takes s k stamp (e ∷ es) h =
    own-takes (after s e) k stamp es h.1 ∙ ap (λ (l : List RawMessage). l ++ messages_taken (stamped stamp es)) (own-take s k e h.0)
    ∙ append_assoc (joined (taken k s.takes)) (taken_by e) (messages_taken (stamped stamp es))

own-stay : (s : State) (j k : ℕ) (e : Event) → (IsHangUp e → ⊥) → IsOf k e → is_hung_up (after s e) j ≡ is_hung_up s j
own-stay s j k (TakeEvent which (Ok (taking.Batch ms))) none h = refl
own-stay s j k (TakeEvent which (Ok taking.Empty)) none h = refl
own-stay s j k (TakeEvent which (Ok taking.Over)) none h = refl
own-stay s j k (TakeEvent which (Ok taking.Gone)) none h = refl
own-stay s j k (TakeEvent which (Err e)) none h = refl
own-stay s j k (HangUp which r) none h = absurd (none tt)
own-stay s j k (Book stamp part copying r) none h = absurd h
own-stay s j k (NextStatement r) none h = absurd h
own-stay s j k (NextPortal r) none h = absurd h
own-stay s j k (CatalogEvent call) none h = absurd h
own-stay s j k (PutEvent which part r) none h = absurd h
own-stay s j k (EndCopy which part r) none h = absurd h
own-stay s j k (NextOut r) none h = absurd h
own-stay s j k (DeliverEvent batch complete r) none h = absurd h
own-stay s j k (CloseRequests r) none h = absurd h
own-stay s j k (Fail r) none h = absurd h

pub own-stays : (s : State) (j k : ℕ) (stamp : Stamp) (es : List Event) → NoHangUp es → AllOf k (stamped stamp es) →
    is_hung_up (after_all s es) j ≡ is_hung_up s j
own-stays s j k stamp [] none h = refl
own-stays s j k stamp (e ∷ es) none h = own-stays (after s e) j k stamp es none.1 h.1 ∙ own-stay s j k e none.0 h.0

-- ---- a connection's calls

received-more : (ds : List Delivery) (d : Delivery) → received (ds ++ d ∷ []) ≡ received ds ++ d.messages
received-more [] d = append-nil d.messages
received-more (x ∷ ds) d = ap (λ (l : List RawMessage). x.messages ++ l) (received-more ds d) ∙ sym (append_assoc x.messages (received ds) d.messages)

-- its readers took no more, and this came
record Came (s t : State) (ms : List RawMessage) : Type 0 where
  readers : (j : ℕ) → SameReader j s t
  received : received t.deliveries ≡ received s.deliveries ++ ms

none-came : (s : State) → Came s s []
none-came s = record { readers = λ j. reader-here j s; received = sym (append-nil (received s.deliveries)) }

engine-one : (s : State) (e : Event) → IsEngineCall e → Came s (after s e) (delivered_by (e ∷ []))
engine-one s (NextOut (Ok (out.Part part))) h = record { readers = λ j. record { taken = refl; hung = refl }; received = sym (append-nil (received s.deliveries)) }
engine-one s (NextOut (Ok out.CopyWaits)) h = none-came s
engine-one s (NextOut (Ok out.Nothing)) h = none-came s
engine-one s (NextOut (Ok out.NoMore)) h = none-came s
engine-one s (NextOut (Err e)) h = none-came s
engine-one s (DeliverEvent batch complete delivering.Taken) h = record {
  readers = λ j. record { taken = refl; hung = refl };
  received = received-more s.deliveries (record { owner = next_owner s; messages = batch; complete = complete }) ∙ ap (λ (l : List RawMessage). received s.deliveries ++ l) (sym (append-nil batch));
}
engine-one s (DeliverEvent batch complete (delivering.Full back)) h = none-came s
engine-one s (DeliverEvent batch complete (delivering.NoRequest back)) h = none-came s
engine-one s (DeliverEvent batch complete (delivering.OutOfMemory back)) h = none-came s
engine-one s (Book stamp part copying r) h = absurd h
engine-one s (TakeEvent id r) h = absurd h
engine-one s (HangUp id r) h = absurd h
engine-one s (NextStatement r) h = absurd h
engine-one s (NextPortal r) h = absurd h
engine-one s (CatalogEvent call) h = absurd h
engine-one s (PutEvent which part r) h = absurd h
engine-one s (EndCopy which part r) h = absurd h
engine-one s (CloseRequests r) h = absurd h
engine-one s (Fail r) h = absurd h

delivered-first : (e : Event) (es : List Event) → delivered_by (e ∷ es) ≡ delivered_by (e ∷ []) ++ delivered_by es
delivered-first e es = ap (λ (l : List RawMessage). l ++ delivered_by es) (sym (append-nil _))

pub engine-readers : (s : State) (j : ℕ) (es : List Event) → AllEngineCalls es → SameReader j s (after_all s es)
engine-readers s j [] h = reader-here j s
engine-readers s j (e ∷ es) h = reader-then j s (after s e) (after_all s (e ∷ es)) ((engine-one s e h.0).readers j) (engine-readers (after s e) j es h.1)

pub engine-received : (s : State) (es : List Event) → AllEngineCalls es →
    received (after_all s es).deliveries ≡ received s.deliveries ++ delivered_by es
engine-received s [] h = sym (append-nil (received s.deliveries))
engine-received s (e ∷ es) h =
    engine-received (after s e) es h.1 ∙ ap (λ (l : List RawMessage). l ++ delivered_by es) (engine-one s e h.0).received
    ∙ append_assoc (received s.deliveries) (delivered_by (e ∷ [])) (delivered_by es)
    ∙ ap (λ (l : List RawMessage). received s.deliveries ++ l) (sym (delivered-first e es))

-- ---- what a take tells

empty-waits : (s : State) (k : ℕ) (w : List (List RawMessage)) → taking.Empty ≡ take_of_waiting s k w → w ≡ []
empty-waits s k [] h = refl
empty-waits s k (ms ∷ w) h = absurd cc

pub took-empty : (s : State) (k : ℕ) → taking.Empty ≡ take_answer s k → waiting s k ≡ []
took-empty s k h = by (nat_lt k (length s.book)) (is_hung_up s k) h
  where
    by : (b c : Bool) → taking.Empty ≡ (if b then (if c then taking.Gone else take_of_waiting s k (waiting s k)) else taking.Gone) → waiting s k ≡ []
    by false c h = absurd cc
    by true true h = absurd cc
    by true false h = empty-waits s k (waiting s k) h

pub record IsOver (s : State) (k : ℕ) : Type 0 where
  pub none : waiting s k ≡ []
  pub ended : has_ended k s.deliveries ≡ true

over-waits : (s : State) (k : ℕ) (w : List (List RawMessage)) → taking.Over ≡ take_of_waiting s k w →
    (w ≡ []) × (has_ended k s.deliveries ≡ true)
over-waits s k (ms ∷ w) h = absurd cc
over-waits s k [] h = by s.failed (has_ended k s.deliveries) h
  where
    by : (b c : Bool) → taking.Over ≡ (if b then taking.Gone else (if c then taking.Over else taking.Empty)) → (◌≡◌ {A = List (List RawMessage)} [] []) × (c ≡ true)
    by true c h = absurd cc
    by false true h = (refl, refl)
    by false false h = absurd cc

pub took-over : (s : State) (k : ℕ) → taking.Over ≡ take_answer s k → IsOver s k
took-over s k h = by (nat_lt k (length s.book)) (is_hung_up s k) h
  where
    by : (b c : Bool) → taking.Over ≡ (if b then (if c then taking.Gone else take_of_waiting s k (waiting s k)) else taking.Gone) → IsOver s k
    by false c h = absurd cc
    by true true h = absurd cc
    by true false h = let o = over-waits s k (waiting s k) h in record { none = o.0; ended = o.1 }

gone-waits : (s : State) (k : ℕ) (w : List (List RawMessage)) → taking.Gone ≡ take_of_waiting s k w → s.failed ≡ true
gone-waits s k (ms ∷ w) h = absurd cc
gone-waits s k [] h = by s.failed (has_ended k s.deliveries) h
  where
    by : (b c : Bool) → taking.Gone ≡ (if b then taking.Gone else (if c then taking.Over else taking.Empty)) → b ≡ true
    by true c h = refl
    by false true h = absurd cc
    by false false h = absurd cc

pub never-gone : (s : State) (k : ℕ) → taking.Gone ≡ take_answer s k → k < length s.book → is_hung_up s k ≡ false → s.failed ≡ false → ⊥
never-gone s k h booked there whole = by (nat_lt k (length s.book)) refl (is_hung_up s k) there h
  where
    by : (b : Bool) → nat_lt k (length s.book) ≡ b → (c : Bool) → c ≡ false →
        taking.Gone ≡ (if b then (if c then taking.Gone else take_of_waiting s k (waiting s k)) else taking.Gone) → ⊥
    by false is c open_ h = grind (arith, nat_tests)
    by true is true open_ h = absurd cc
    by true is false open_ h = let e : true ≡ false = sym (gone-waits s k (waiting s k) h) ∙ whole in absurd cc

-- where nothing waits, all that came was taken
pub all-taken : (s : State) (k : ℕ) → IsSound s → waiting s k ≡ [] → joined (taken k s.takes) ≡ reply k (received s.deliveries)
all-taken s k sound none =
    let front = sound.taken_is_front k in
    let rest : front.0 ≡ [] = sym (drop_at (taken k s.takes) front.0 (length (taken k s.takes)) refl) ∙ ap (drop (length (taken k s.takes))) front.1 ∙ none in
    ap (λ (l : List (List RawMessage)). joined l)
    (sym (append-nil (taken k s.takes)) ∙ ap (λ (l : List (List RawMessage)). taken k s.takes ++ l) (sym rest) ∙ front.1)
    ∙ sound.given_is_group k

joined-front : {A : Type 0} (xs ys : List (List A)) → IsFrontOf xs ys → IsFrontOf (joined xs) (joined ys)
joined-front {A} xs ys (rest, e) = (joined rest, sym (joined-append xs rest) ∙ ap (λ (l : List (List A)). joined l) e)
  where
    joined-append : (xs zs : List (List A)) → joined (xs ++ zs) ≡ joined xs ++ joined zs
    joined-append [] zs = refl
    joined-append (x ∷ xs) zs = ap (λ l. x ++ l) (joined-append xs zs) ∙ sym (append_assoc x (joined xs) (joined zs))

-- what was taken is a front of what came
pub taken-front : (s : State) (k : ℕ) → IsSound s → IsFrontOf (joined (taken k s.takes)) (reply k (received s.deliveries))
taken-front s k sound =
    subst (λ (l : List RawMessage). IsFrontOf (joined (taken k s.takes)) l) (sound.given_is_group k) (joined-front (taken k s.takes) (given k s.deliveries) (sound.taken_is_front k))

-- ---- a group that ended

cut-one : (s : State) (e : Event) → Allows s e → AllCut s.deliveries → AllCut (after s e).deliveries
cut-one s (DeliverEvent batch complete delivering.Taken) a h = cut-more s.deliveries (record { owner = next_owner s; messages = batch; complete = complete }) h a.0
cut-one s (DeliverEvent batch complete (delivering.Full back)) a h = h
cut-one s (DeliverEvent batch complete (delivering.NoRequest back)) a h = h
cut-one s (DeliverEvent batch complete (delivering.OutOfMemory back)) a h = h
cut-one s (NextOut (Ok (out.Part part))) a h = h
cut-one s (NextOut (Ok out.CopyWaits)) a h = h
cut-one s (NextOut (Ok out.Nothing)) a h = h
cut-one s (NextOut (Ok out.NoMore)) a h = h
cut-one s (NextOut (Err e)) a h = h
cut-one s (Book stamp part copying (Ok id)) a h = h
cut-one s (Book stamp part copying (Err e)) a h = h
cut-one s (TakeEvent id (Ok (taking.Batch ms))) a h = h
cut-one s (TakeEvent id (Ok taking.Empty)) a h = h
cut-one s (TakeEvent id (Ok taking.Over)) a h = h
cut-one s (TakeEvent id (Ok taking.Gone)) a h = h
cut-one s (TakeEvent id (Err e)) a h = h
cut-one s (HangUp id (Ok x)) a h = h
cut-one s (HangUp id (Err e)) a h = h
cut-one s (NextStatement (Ok n)) a h = h
cut-one s (NextStatement (Err e)) a h = h
cut-one s (PutEvent id part putting.Took) a h = h
cut-one s (PutEvent id part (putting.Full back)) a h = h
cut-one s (PutEvent id part (putting.Gone back)) a h = h
cut-one s (PutEvent id part (putting.OutOfMemory back)) a h = h
cut-one s (EndCopy id part putting.Took) a h = h
cut-one s (EndCopy id part (putting.Full back)) a h = h
cut-one s (EndCopy id part (putting.Gone back)) a h = h
cut-one s (EndCopy id part (putting.OutOfMemory back)) a h = h
cut-one s (NextPortal (Ok n)) a h = h
cut-one s (NextPortal (Err e)) a h = h
cut-one s (CatalogEvent call) a h = h
cut-one s (CloseRequests (Ok x)) a h = h
cut-one s (CloseRequests (Err e)) a h = h
cut-one s (Fail (Ok x)) a h = h
cut-one s (Fail (Err e)) a h = h

pub all-cut : (s : State) (es : List Event) → IsExact s es → AllCut s.deliveries → AllCut (after_all s es).deliveries
all-cut s [] x h = h
all-cut s (e ∷ es) x h = all-cut (after s e) es x.2 (cut-one s e x.0 h)

batch-ends : (ms : List RawMessage) → is_batch true ms ≡ true → ends_in is_ready ms ≡ true
batch-ends [] h = absurd cc
batch-ends (m ∷ []) h = by (is_aside m) (is_ready m) h
  where
    by : (a b : Bool) → (if a then false else (if b then true else false)) ≡ true → b ≡ true
    by true b h = absurd cc
    by false true h = refl
    by false false h = absurd cc
batch-ends (m ∷ n ∷ ms) h = by (is_aside m) (is_ready m) h (batch-ends (n ∷ ms))
  where
    by : (a b : Bool) → (if a then false else (if b then false else is_batch true (n ∷ ms))) ≡ true →
        (is_batch true (n ∷ ms) ≡ true → ends_in is_ready (n ∷ ms) ≡ true) →
        ends_in is_ready (n ∷ ms) ≡ true
    by true b h f = absurd cc
    by false true h f = absurd cc
    by false false h f = f h

ends-behind : (xs ys : List RawMessage) → ends_in is_ready ys ≡ true → ends_in is_ready (xs ++ ys) ≡ true
ends-behind [] ys h = h
ends-behind (x ∷ []) [] h = absurd cc
ends-behind (x ∷ []) (y ∷ ys) h = h
ends-behind (x ∷ z ∷ xs) ys h = ends-behind (z ∷ xs) ys h

piece-ends : (k : ℕ) (ds : List Delivery) → AllCut ds → k < finished ds → ends_in is_ready (joined (between_ends k ds)) ≡ true
piece-ends k [] cut lt = absurd (omega (arith, lt))
piece-ends zero (d ∷ ds) cut lt = first d.complete d.messages cut.0 lt (piece-ends zero ds cut.1)
  where
    first : (b : Bool) (ms : List RawMessage) → is_batch b ms ≡ true → zero < (if b then suc (finished ds) else finished ds) →
        (zero < finished ds → ends_in is_ready (joined (between_ends zero ds)) ≡ true) → ends_in is_ready (ms ++ joined (if b then [] else between_ends zero ds)) ≡ true
    first true ms c lt f = subst (λ (l : List RawMessage). ends_in is_ready l ≡ true) (sym (append-nil ms)) (batch-ends ms c)
    first false ms c lt f = ends-behind ms (joined (between_ends zero ds)) (f lt)
piece-ends (suc k) (d ∷ ds) cut lt = later d.complete lt (piece-ends k ds cut.1) (piece-ends (suc k) ds cut.1)
  where
    later : (b : Bool) → suc k < (if b then suc (finished ds) else finished ds) → (k < finished ds → ends_in is_ready (joined (between_ends k ds)) ≡ true) →
        (suc k < finished ds → ends_in is_ready (joined (between_ends (suc k) ds)) ≡ true) → ends_in is_ready (joined (between_ends (if b then k else suc k) ds)) ≡ true
    later true lt f g = f (omega (arith, lt))
    later false lt f g = g lt

pub group-ends : (s : State) (k : ℕ) → IsSound s → AllCut s.deliveries → has_ended k s.deliveries ≡ true → ends_in is_ready (joined (given k s.deliveries)) ≡ true
group-ends s k sound cut over =
    let low : k < finished s.deliveries = less k (finished s.deliveries) (sym (sound.ended_in_order k) ∙ over) in
    ap (λ (l : List (List RawMessage)). ends_in is_ready (joined l)) (sound.given_is_between k) ∙ piece-ends k s.deliveries cut low
  where
    less : (a b : ℕ) → nat_lt a b ≡ true → a < b
    less a b e = grind (arith, nat_tests)
