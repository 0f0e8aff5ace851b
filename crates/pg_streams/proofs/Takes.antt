-- What comes of a take, for each who reads the request.
use Rattle.std.proofs.Common.{◌≡◌, ℕ, List, [], ◌∷◌, ◌++◌, Bool, Option, Some, None, Result, Ok, Err, refl, sym, ap, subst, inl, inr}
use Rattle.pg_spec.specs.RawMessages.{RawMessage}
use Rattle.pg_spec.specs.declared.stamps.Stamp.{Stamp}
use Rattle.pg_desk.specs.declared.event.DeskFault.{DeskFault}
use Rattle.pg_desk.specs.declared.event.Event.{Event}
use Rattle.pg_desk.specs.declared.event.Event.TheVariants as call
use Rattle.pg_desk.specs.declared.event.Take.TheVariants as taking
use Rattle.pg_types.specs.declared.error.Error.{Error}
use Rattle.pg_types.specs.declared.error.Error.TheVariants.{Closed, OutOfMemory}
use Rattle.pg_query.specs.Dialogue.{Dialogue, Answer, HangUp, Read, feed, Walks}
use Rattle.pg_query.specs.Meaning.{ForMessage, Goes, GoesToAnswer, Leaves, left_by}
use Rattle.pg_query.specs.Faults.{of_fault}
use Rattle.pg_query.specs.Scripts.{IsRead}
use Rattle.pg_query.specs.declared.desk_call.Cleanup.{Cleanup}
use Rattle.pg_query.proofs.Walking.{answer-joined, walk-joined}
use Rattle.pg_streams.specs.Families.{Family, GoesFor, PausesFor}
use Rattle.pg_streams.specs.Handing.{alone}
use Rattle.pg_streams.specs.Hearing.{Brings, First, Takes, taken}
use Rattle.pg_streams.proofs.Going.{Joins, goes-joined, pauses-joined}
use Rattle.pg_streams.specs.Taking.{IsAnswered, StopsReading}

-- where one stands once these messages came too
abbrev pub fed : {P T : Type 0} → List RawMessage → Family P T (Unit {0}) (Unit {0}) → Family P T (Unit {0}) (Unit {0})
fed ms p = record {
  place = λ plan. record { dialogue = feed ms (p.place plan).dialogue; reads = (p.place plan).reads };
  first = λ more. p.first (ms ++ more);
}

took : {T : Type 0} (stamp : Stamp) (d : Dialogue T) (reads id : ℕ) (ms : List RawMessage) → IsRead d → reads ≡ id → Walks stamp d reads (call.Take id (Ok (taking.Batch ms)) ∷ []) (feed ms d) reads
took stamp (Read cleanup decides next) reads id ms s same = (_, reads, (sym same, refl, refl), (refl, refl))
took stamp _ reads id ms s same = absurd s

took-none : {T : Type 0} (stamp : Stamp) (d : Dialogue T) (reads id : ℕ) → IsRead d → reads ≡ id → Walks stamp d reads (call.Take id (Ok taking.Empty) ∷ []) d reads
took-none stamp (Read cleanup decides next) reads id s same = (_, reads, (sym same, refl, refl), (refl, refl))
took-none stamp _ reads id s same = absurd s

stopped : {T : Type 0} (stamp : Stamp) (d : Dialogue T) (reads id : ℕ) (events : List Event) (e : Error) → IsRead d → reads ≡ id → IsAnswered T id events e → Walks stamp d reads events (Answer (Err e)) id
stopped stamp (Read cleanup decides next) reads id events e r same all = subst (λ (n : ℕ). Walks stamp (Read cleanup decides next) n events (Answer (Err e)) id) (sym same) (all stamp cleanup decides next)
stopped stamp _ reads id events e r same all = absurd r

-- ---- by one plan

module _ {D P T : Type 0} {becomes : D → List Event → D → Type 0} {stamp : Stamp} {a b : D} {from p : Family P T (Unit {0}) (Unit {0})} (goes : GoesFor becomes stamp a from b p) (plan : P) where
  -- the events led there
  pub one-plan : Goes becomes stamp a (from.place plan) b (p.place plan)
  one-plan = record { events = goes.events; became = goes.became; walked = goes.walked plan }

  -- want of memory may be the answer there
  pub plan-lacks : (e : Error) → e ≡ OutOfMemory → GoesToAnswer becomes stamp a (from.place plan) b (Err e)
  plan-lacks e is = record { last = p.place plan; goes = record { events = goes.events; became = goes.became; walked = goes.walked plan }; answers = inr (ap (λ (x : Error). let r : Result T Error = Err x in r) is) }

  -- or what comes of it from there
  pub plan-answers : Joins becomes → (c : D) (r : Result T Error) → GoesToAnswer becomes stamp b (p.place plan) c r → GoesToAnswer becomes stamp a (from.place plan) c r
  plan-answers joins c r h = answer-joined becomes joins stamp a (from.place plan) b (p.place plan) c r (record { events = goes.events; became = goes.became; walked = goes.walked plan }) h

-- ---- a take

module _ {D P T : Type 0} {becomes : D → List Event → D → Type 0} (joins : Joins becomes) {stamp : Stamp} {a b : D} {from p : Family P T (Unit {0}) (Unit {0})} (goes : GoesFor becomes stamp a from b p) (id : ℕ)
    (read : (plan : P) → IsRead (p.place plan).dialogue) (reads-it : (plan : P) → (p.place plan).reads ≡ id) where
  -- a batch came
  pub batch-came : ((p.first []).told ≡ None) → (c : D) (ms : List RawMessage) → becomes b (call.Take id (Ok (taking.Batch ms)) ∷ []) c → GoesFor becomes stamp a from c (fed ms p)
  batch-came none c ms ev = goes-joined joins goes c (fed ms p) (record {
    events = call.Take id (Ok (taking.Batch ms)) ∷ [];
    became = ev;
    walked = λ plan. took stamp (p.place plan).dialogue (p.place plan).reads id ms (read plan) (reads-it plan);
    brought = (none, refl);
  })

  -- none came yet
  pub none-came : ((p.first []).told ≡ None) → (c : D) → becomes b (call.Take id (Ok taking.Empty) ∷ []) c → PausesFor becomes stamp a from c p
  none-came none c ev = pauses-joined joins goes c p (record {
    goes = record {
      events = call.Take id (Ok taking.Empty) ∷ [];
      became = ev;
      walked = λ plan. took-none stamp (p.place plan).dialogue (p.place plan).reads id (read plan) (reads-it plan);
      brought = (none, refl);
    };
    waits = λ plan. ForMessage (read plan) (record { before = []; are = ap (λ (n : ℕ). let es : List Event = call.Take n (Ok taking.Empty) ∷ [] in es) (sym (reads-it plan)) });
  })

  -- no more comes
  pub no-more : (c : D) (e : Error) (s : StopsReading becomes b id c e) → IsAnswered T id s.events e → (plan : P) → GoesToAnswer becomes stamp a (from.place plan) c (Err e)
  no-more c e s all plan = record {
    last = record { dialogue = Answer (Err e); reads = id };
    goes = record {
      events = goes.events ++ s.events;
      became = joins a b c goes.events s.events goes.became s.became;
      walked = walk-joined stamp (from.place plan).dialogue (from.place plan).reads goes.events s.events (p.place plan).dialogue (Answer (Err e)) (p.place plan).reads id (goes.walked plan)
          (stopped stamp (p.place plan).dialogue (p.place plan).reads id s.events e (read plan) (reads-it plan) all);
    };
    answers = inl refl;
  }

-- ---- what is told first, made of what is told first

module _ (W : First (Unit {0}) (Unit {0}) → First (Unit {0}) (Unit {0})) (silent : (f : First (Unit {0}) (Unit {0})) → f.told ≡ None → (W f).told ≡ None) where
  mapped-on : (o : Option (List RawMessage)) (first : List RawMessage → First (Unit {0}) (Unit {0})) (A B : (List RawMessage → First (Unit {0}) (Unit {0})) → Type 0) →
      ((x : List RawMessage → First (Unit {0}) (Unit {0})) → A x → B (λ more. W (x more))) → Takes o first A → Takes o (λ more. W (first more)) B
  mapped-on (Some ms) first A B go h = (silent (first []) h.0, go (λ more. first (ms ++ more)) h.1)
  mapped-on None first A B go h = go first h

  brings-mapped : (first last : List RawMessage → First (Unit {0}) (Unit {0})) (es : List Event) → Brings first es last → Brings (λ more. W (first more)) es (λ more. W (last more))
  brings-mapped first last [] h = λ i. λ more. W (h i more)
  brings-mapped first last (e ∷ es) h =
      mapped-on (taken e) first (λ later. Brings later es last) (λ later. Brings later es (λ more. W (last more))) (λ later l. brings-mapped later last es l) h

  -- by one plan
  pub goes-mapped : {D P T : Type 0} {becomes : D → List Event → D → Type 0} {stamp : Stamp} {a b : D} {from p : Family P T (Unit {0}) (Unit {0})} → GoesFor becomes stamp a from b p → (plan : P) →
      GoesFor becomes stamp a (alone (from.place plan) (λ more. W (from.first more))) b (alone (p.place plan) (λ more. W (p.first more)))
  goes-mapped {from = from} {p = p} goes plan = record {
    events = goes.events;
    became = goes.became;
    walked = λ u. goes.walked plan;
    brought = brings-mapped from.first p.first goes.events goes.brought;
  }

  pub pauses-mapped : {D P T : Type 0} {becomes : D → List Event → D → Type 0} {stamp : Stamp} {a b : D} {from p : Family P T (Unit {0}) (Unit {0})} → PausesFor becomes stamp a from b p → (plan : P) →
      PausesFor becomes stamp a (alone (from.place plan) (λ more. W (from.first more))) b (alone (p.place plan) (λ more. W (p.first more)))
  unfolding goes-mapped
  pauses-mapped h plan = record { goes = goes-mapped h.goes plan; waits = λ u. h.waits plan }

-- ---- what the desk answers

-- none will come any more
pub over-stops : {D : Type 0} {becomes : D → List Event → D → Type 0} {b c : D} (id : ℕ) → becomes b (call.Take id (Ok taking.Over) ∷ []) c → StopsReading becomes b id c Closed
over-stops id ev = record { events = call.Take id (Ok taking.Over) ∷ []; became = ev; walked = λ rows stamp cleanup decides next. (Answer (Err Closed), id, (refl, refl, refl), (refl, refl)) }

-- the request is gone, and was hung up
gone : {T : Type 0} (answer : Result (Unit {0}) DeskFault) (stamp : Stamp) (id : ℕ) (cleanup : List Cleanup) (decides : List RawMessage → Bool) (next : List RawMessage → Dialogue T) →
    Walks stamp (Read cleanup decides next) id (call.Take id (Ok taking.Gone) ∷ call.HangUp id answer ∷ []) (Answer (Err (left_by answer))) id
gone (Ok x) stamp id cleanup decides next = (HangUp (Answer (Err Closed)), id, (refl, refl, refl), (Answer (Err Closed), id, (refl, refl, refl), (refl, refl)))
gone (Err e) stamp id cleanup decides next = (HangUp (Answer (Err Closed)), id, (refl, refl, refl), (Answer (Err (of_fault e)), id, (refl, refl, refl), (refl, refl)))

pub gone-stops : {D : Type 0} {becomes : D → List Event → D → Type 0} → Joins becomes → {b c d : D} (id : ℕ) (e : Error) → becomes b (call.Take id (Ok taking.Gone) ∷ []) c → Leaves becomes c id d e → StopsReading becomes b id d e
gone-stops {becomes = becomes} joins {b} {c} {d} id e ev left =
    subst (λ (x : Error). StopsReading becomes b id d x) (sym left.says) (record {
      events = call.Take id (Ok taking.Gone) ∷ call.HangUp id left.answer ∷ [];
      became = joins b c d (call.Take id (Ok taking.Gone) ∷ []) (call.HangUp id left.answer ∷ []) ev left.became;
      walked = λ rows stamp cleanup decides next. gone left.answer stamp id cleanup decides next;
    })

-- the desk refused the take
pub refused-stops : {D : Type 0} {becomes : D → List Event → D → Type 0} {b c : D} (id : ℕ) (fault : DeskFault) (e : Error) → becomes b (call.Take id (Err fault) ∷ []) c → e ≡ of_fault fault → StopsReading becomes b id c e
refused-stops {becomes = becomes} {b} {c} id fault e ev is =
    subst (λ (x : Error). StopsReading becomes b id c x) (sym is) (record { events = call.Take id (Err fault) ∷ []; became = ev; walked = λ rows stamp cleanup decides next. (Answer (Err (of_fault fault)), id, (refl, refl, refl), (refl, refl)) })

-- ---- a request that is hung up

pub hung-up : {D T : Type 0} {becomes : D → List Event → D → Type 0} {a b : D} (stamp : Stamp) (id : ℕ) (r : Result T Error) → becomes a (call.HangUp id (Ok tt) ∷ []) b → GoesToAnswer becomes stamp a (record { dialogue = HangUp (Answer r); reads = id }) b r
hung-up stamp id r ev = record {
  last = record { dialogue = Answer r; reads = id };
  goes = record { events = call.HangUp id (Ok tt) ∷ []; became = ev; walked = (Answer r, id, (refl, refl, refl), (refl, refl)) };
  answers = inl refl;
}

pub hang-up-refused : {D T : Type 0} {becomes : D → List Event → D → Type 0} {a b : D} (stamp : Stamp) (id : ℕ) (r : Result T Error) (fault : DeskFault) (e : Error) → becomes a (call.HangUp id (Err fault) ∷ []) b → e ≡ of_fault fault →
    GoesToAnswer becomes stamp a (record { dialogue = HangUp (Answer r); reads = id }) b (Err e)
hang-up-refused {T = T} stamp id r fault e ev is = record {
  last = record { dialogue = Answer (Err (of_fault fault)); reads = id };
  goes = record { events = call.HangUp id (Err fault) ∷ []; became = ev; walked = (Answer (Err (of_fault fault)), id, (refl, refl, refl), (refl, refl)) };
  answers = inl (ap (λ (x : Error). let d : Dialogue T = Answer (Err x) in d) (sym is));
}
