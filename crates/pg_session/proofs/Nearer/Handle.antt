-- What the walk of a command leaves in the hub.
use Rattle.std.proofs.Common.{◌≡◌, inl, inr, ℕ, ◌+◌, ◌<◌, ◌≤◌, List, [], ◌∷◌, false, Result, Ok, Err, refl, sym, subst, arith}
use Rattle.pg_types.specs.declared.error.Error.{Error}
use Rattle.pg_desk.specs.Asking.{IsAsking}
use Rattle.pg_desk.specs.declared.event.Event.{Event}
use Rattle.pg_desk.specs.declared.event.Event.TheVariants.{Book, Put as PutEvent, EndCopy, Take as TakeEvent, HangUp as HangUpEvent, NextStatement, NextPortal, Catalog as CatalogEvent}
use Rattle.pg_spec.specs.declared.stamps.Stamp.{Stamp}
use Rattle.pg_desk.specs.declared.event.Put.TheVariants as putting
use Rattle.pg_desk.specs.declared.event.Take.TheVariants as taking
use Rattle.pg_desk.specs.History.{State, after, after_all, IsLegal}
use Rattle.pg_hub.specs.Fits.{moves}
use Rattle.pg_query.specs.Dialogue.{Dialogue, Answer, Ask, Send, Leave, Read, Put, Finish, Close, HangUp, Call, Hear, Steps, Walks}
use Rattle.pg_query.specs.Scripts.{IsPut, IsRead}
use Rattle.pg_core.specs.Runs.{MayWait}
use Rattle.pg_query.proofs.Questions.{told-asks}
use Rattle.pg_session.proofs.Nearer.Puts.{puts_in}
use Rattle.pg_session.proofs.Nearer.Hub.{batches_left, NoneGiven, IsHandleCall, AreHandleCalls, calls-add-none, take-left}

-- ---- a walk makes a handle's calls

asking-call : (e : Event) → IsAsking e → IsHandleCall e
asking-call (NextStatement answer) h = tt
asking-call (NextPortal answer) h = tt
asking-call (CatalogEvent call) h = tt
asking-call e h = absurd h

step-calls : {T : Type 0} (stamp : Stamp) (d : Dialogue T) (id : ℕ) (e : Event) (d' : Dialogue T) (id' : ℕ) → Steps stamp d id e d' id' → IsHandleCall e
step-calls stamp (Answer r) id e d' id' h = absurd h
step-calls stamp (Ask copying part d) id (Book stamp' part' copying' r) d' id' h = tt
step-calls stamp (Ask copying part d) id e d' id' h = absurd h
step-calls stamp (Send part refused d) id (Book stamp' part' copying' r) d' id' h = tt
step-calls stamp (Send part refused d) id e d' id' h = absurd h
step-calls stamp (Leave sent d) id (HangUpEvent which r) d' id' h = tt
step-calls stamp (Leave sent d) id e d' id' h = absurd h
step-calls stamp (Read cleanup decides next) id (TakeEvent which r) d' id' h = tt
step-calls stamp (Read cleanup decides next) id e d' id' h = absurd h
step-calls stamp (Put cleanup part d) id (PutEvent which part' r) d' id' h = tt
step-calls stamp (Put cleanup part d) id e d' id' h = absurd h
step-calls stamp (Finish part d) id (EndCopy which part' r) d' id' h = tt
step-calls stamp (Finish part d) id e d' id' h = absurd h
step-calls stamp (Close part d) id (EndCopy which part' r) d' id' h = tt
step-calls stamp (Close part d) id e d' id' h = absurd h
step-calls stamp (HangUp d) id (HangUpEvent which r) d' id' h = tt
step-calls stamp (HangUp d) id e d' id' h = absurd h
step-calls stamp (Call q refused next) id e d' id' h = asking-call e (told-asks q e h.0 h.1)
step-calls stamp (Hear next) id e d' id' h = absurd h

pub walk-calls : {T : Type 0} (stamp : Stamp) (d : Dialogue T) (id : ℕ) (es : List Event) (d' : Dialogue T) (id' : ℕ) → Walks stamp d id es d' id' → AreHandleCalls es
walk-calls stamp d id [] d' id' h = tt
walk-calls stamp d id (e ∷ es) d' id' h = (step-calls stamp d id e h.0 h.1 h.2, walk-calls stamp h.0 h.1 es d' id' h.3)

-- ---- from where it waits to where it waits

pub no-wait : {T : Type 0} (r : Result T Error) → MayWait (Answer r) → ⊥
no-wait r (inl reads) = reads
no-wait r (inr puts) = puts

-- behind an answer it waits for nothing
past-answer : {T : Type 0} (stamp : Stamp) (r : Result T Error) (id : ℕ) (es : List Event) (d' : Dialogue T) (id' : ℕ) → Walks stamp (Answer r) id es d' id' → MayWait d' → ⊥
past-answer {T} stamp r id [] d' id' h waits = no-wait r (subst (λ (x : Dialogue T). MayWait x) h.0 waits)
past-answer stamp r id (e ∷ es) d' id' h waits = h.2

past-answered : {T : Type 0} (stamp : Stamp) (d : Dialogue T) (r : Result T Error) (id : ℕ) (es : List Event) (d' : Dialogue T) (id' : ℕ) → d ≡ Answer r → Walks stamp d id es d' id' → MayWait d' → ⊥
past-answered {T} stamp d r id es d' id' same h waits = past-answer stamp r id es d' id' (subst (λ (x : Dialogue T). Walks stamp x id es d' id') same h) waits

-- nor where a request is gone: it is hung up, and that is the answer
past-gone : {T : Type 0} (stamp : Stamp) (r : Result T Error) (id : ℕ) (es : List Event) (d' : Dialogue T) (id' : ℕ) → Walks stamp (HangUp (Answer r)) id es d' id' → MayWait d' → ⊥
past-gone {T} stamp r id [] d' id' h (inl reads) = subst (λ (x : Dialogue T). IsRead x) h.0 reads
past-gone {T} stamp r id [] d' id' h (inr puts) = subst (λ (x : Dialogue T). IsPut x) h.0 puts
past-gone stamp r id (HangUpEvent which (Ok x) ∷ es) d' id' h waits = past-answered stamp h.0 _ h.1 es d' id' h.2.1 h.3 waits
past-gone stamp r id (HangUpEvent which (Err e) ∷ es) d' id' h waits = past-answered stamp h.0 _ h.1 es d' id' h.2.1 h.3 waits
past-gone stamp r id (_ ∷ es) d' id' h waits = absurd h.2

-- A walk from where a command waits to where it waits took a batch, or put a part, or found none and changed nothing.
pub data WaitOn (s : State) (es : List Event) : Type 0 where
  TookSome : batches_left (after_all s es) + 1 ≤ batches_left s → WaitOn s es
  PutSome : 0 < puts_in es → WaitOn s es
  FoundNone : after_all s es ≡ s → moves s es ≡ false → WaitOn s es

pub waits-on : {T : Type 0} (stamp : Stamp) (s : State) (d : Dialogue T) (id : ℕ) (es : List Event) (d' : Dialogue T) (id' : ℕ) → Walks stamp d id es d' id' → MayWait d → MayWait d' →
    IsLegal s es → NoneGiven s → WaitOn s es
waits-on stamp s d id [] d' id' h from to legal none = FoundNone refl refl
waits-on stamp s (Read cleanup decides next) id (TakeEvent which (Ok (taking.Batch ms)) ∷ es) d' id' h from to legal none =
    let e = TakeEvent which (Ok (taking.Batch ms)) in
    let one = take-left s which ms legal.0 in
    let more = calls-add-none (after s e) es (walk-calls stamp h.0 h.1 es d' id' h.3) legal.1 none in
    TookSome (omega (arith, one, more.left))
waits-on {T} stamp s (Read cleanup decides next) id (TakeEvent which (Ok taking.Empty) ∷ es) d' id' h from to legal none =
    by (waits-on stamp s h.0 h.1 es d' id' h.3 (subst (λ (x : Dialogue T). MayWait x) (sym h.2.1) (inl tt)) to legal.1 none)
  where
    by : WaitOn s es → WaitOn s (TakeEvent which (Ok taking.Empty) ∷ es)
    by (TookSome less) = TookSome less
    by (PutSome some) = PutSome (omega (arith, some))
    by (FoundNone same still) = FoundNone same still
waits-on stamp s (Read cleanup decides next) id (TakeEvent which (Ok taking.Over) ∷ es) d' id' h from to legal none = absurd (past-answered stamp h.0 _ h.1 es d' id' h.2.1 h.3 to)
waits-on {T} stamp s (Read cleanup decides next) id (TakeEvent which (Ok taking.Gone) ∷ es) d' id' h from to legal none =
    absurd (past-gone stamp _ h.1 es d' id' (subst (λ (x : Dialogue T). Walks stamp x h.1 es d' id') h.2.1 h.3) to)
waits-on stamp s (Read cleanup decides next) id (TakeEvent which (Err e) ∷ es) d' id' h from to legal none = absurd (past-answered stamp h.0 _ h.1 es d' id' h.2.1 h.3 to)
waits-on stamp s (Read cleanup decides next) id (_ ∷ es) d' id' h from to legal none = absurd h.2
waits-on stamp s (Put cleanup part d) id (PutEvent which part' putting.Took ∷ es) d' id' h from to legal none = PutSome (omega arith)
waits-on {T} stamp s (Put cleanup part d) id (PutEvent which part' (putting.Full back) ∷ es) d' id' h from to legal none =
    by (waits-on stamp s h.0 h.1 es d' id' h.3 (subst (λ (x : Dialogue T). MayWait x) (sym h.2.2) (inr tt)) to legal.1 none)
  where
    by : WaitOn s es → WaitOn s (PutEvent which part' (putting.Full back) ∷ es)
    by (TookSome less) = TookSome less
    by (PutSome some) = PutSome (omega (arith, some))
    by (FoundNone same still) = FoundNone same still
waits-on {T} stamp s (Put cleanup part d) id (PutEvent which part' (putting.Gone back) ∷ es) d' id' h from to legal none =
    absurd (past-gone stamp _ h.1 es d' id' (subst (λ (x : Dialogue T). Walks stamp x h.1 es d' id') h.2.2 h.3) to)
waits-on stamp s (Put cleanup part d) id (PutEvent which part' (putting.OutOfMemory back) ∷ es) d' id' h from to legal none = absurd (past-answered stamp h.0 _ h.1 es d' id' h.2.2 h.3 to)
waits-on stamp s (Put cleanup part d) id (_ ∷ es) d' id' h from to legal none = absurd h.2
waits-on stamp s _ id (e ∷ es) d' id' h (inl reads) to legal none = absurd reads
waits-on stamp s _ id (e ∷ es) d' id' h (inr puts) to legal none = absurd puts
