-- A command that waits lacks what it waits for.
use Rattle.std.proofs.Common.{◌≡◌, ℕ, ◌<◌, ◌≤◌, nat_lt, List, [], ◌∷◌, ◌++◌, length, Bool, true, false, if◌then◌else◌, Option, IfSome, Ok, refl, sym, ap, ◌∙◌, subst, arith}
use Rattle.std.proofs.lemmas.Bool.Decides.{nat_tests}
use Rattle.pg_spec.specs.declared.stamps.Stamp.{Stamp}
use Rattle.pg_desk.proofs.Soundness.{running-copies}
use Rattle.pg_desk.specs.declared.event.Event.{Event}
use Rattle.pg_desk.specs.declared.event.Event.TheVariants as call
use Rattle.pg_desk.specs.declared.event.Put.TheVariants as putting
use Rattle.pg_desk.specs.declared.event.Take.TheVariants as taking
use Rattle.pg_desk.specs.History.{State, after_all, is_hung_up, is_running, parts_waiting, take_answer, take_of_waiting, waiting, IsExact}
use Rattle.pg_hub.proofs.Simulation.{copying-is, waiting-is}
use Rattle.pg_hub.specs.Becomes.{after-joined, fits-touched}
use Rattle.pg_hub.specs.Fits.{Fits, HubBecomes}
use Rattle.pg_hub.specs.Standing.{Standing}
use Rattle.pg_query.specs.Meaning.{ForMessage, ForRoom, Place, WaitsAt}
use Rattle.pg_session.proofs.Takes.{took-empty}
use Rattle.pg_session.specs.declared.handle_turn.Polling.{Polling}
use Rattle.pg_session.specs.declared.handle_turn.Polling.TheVariants as polling
use Rattle.pg_session.specs.Handles.{HandleState}
use Rattle.pg_session.specs.HandleTurns.{Waits}
use Rattle.pg_session.specs.Speeches.{Speech}
use Rattle.pg_session.specs.States.{SessionState}
use Rattle.pg_session.specs.Turns.{ClosesBehind, HandleMade, HandleTurns, untouched}
use Rattle.pg_session.proofs.Readers.HubStates.{exact-back}
use Rattle.pg_session.specs.HeldUp.{ByMessage, ByRoom, IsHeldUp, LacksMessage, LacksRoom}

-- ---- the last event

-- what is told where there is no room
record IsFull (s : State) (k : ℕ) : Type 0 where
  runs : is_running s k ≡ true
  full : 2 ≤ parts_waiting s k

last-full : (s : State) (k : ℕ) (part : List ℕ) (es before : List Event) → IsExact s es → es ≡ before ++ call.Put k part (putting.Full part) ∷ [] → IsFull (after_all s es) k
last-full s k part es before exact is =
    let last = call.Put k part (putting.Full part) ∷ [] in
    let told = (exact-back s before last (subst (λ (l : List Event). IsExact s l) is exact)).0 in
    let same : after_all s before ≡ after_all s es = sym (after-joined s before last) ∙ ap (after_all s) (sym is) in
    subst (λ (x : State). IsFull x k) same (record { runs = told.2; full = told.3 })

last-empty : (s : State) (k : ℕ) (es before : List Event) → IsExact s es → es ≡ before ++ call.Take k (Ok taking.Empty) ∷ [] → taking.Empty ≡ take_answer (after_all s es) k
last-empty s k es before exact is =
    let last = call.Take k (Ok taking.Empty) ∷ [] in
    let told : taking.Empty ≡ take_answer (after_all s before) k = (exact-back s before last (subst (λ (l : List Event). IsExact s l) is exact)).0 in
    let same : after_all s before ≡ after_all s es = sym (after-joined s before last) ∙ ap (after_all s) (sym is) in
    subst (λ (x : State). taking.Empty ≡ take_answer x k) same told

-- ---- what the hub holds

lacks-room : (s : State) (h : Standing) (k : ℕ) → Fits s h → IsFull s k → LacksRoom h k
lacks-room s h k fits full =
    let most = full.full in
    record { copying = copying-is s h k fits ∙ running-copies s k full.runs; full = omega (arith, most, waiting-is s h k fits) }

-- nothing is told of a request that is booked and that its reader reads
record IsReader (s : State) (k : ℕ) : Type 0 where
  booked : k < length s.book
  reads : is_hung_up s k ≡ false

is-reader : (s : State) (k : ℕ) → taking.Empty ≡ take_answer s k → IsReader s k
is-reader s k h = by (nat_lt k (length s.book)) (is_hung_up s k) refl refl h
  where
    by : (b c : Bool) → nat_lt k (length s.book) ≡ b → is_hung_up s k ≡ c →
        taking.Empty ≡ (if b then (if c then taking.Gone else take_of_waiting s k (waiting s k)) else taking.Gone) → IsReader s k
    by false c p q h = absurd cc
    by true true p q h = absurd cc
    by true false p q h = record { booked = grind (arith, nat_tests); reads = q }

lacks-message : (s : State) (h : Standing) (k : ℕ) → Fits s h → taking.Empty ≡ take_answer s k → LacksMessage h k
lacks-message s h k fits empty = let reader = is-reader s k empty in (fits.mail k reader.booked).waits reader.reads ∙ took-empty s k empty

held-at : {T : Type 0} (s : State) (h : Standing) (to : Place T) (es : List Event) → IsExact s es → Fits (after_all s es) h → WaitsAt to es → IsHeldUp h to
held-at s h to es exact fits (ForMessage reads none) = ByMessage reads (lacks-message (after_all s es) h to.reads fits (last-empty s to.reads es none.before exact none.are))
held-at s h to es exact fits (ForRoom puts part full) = ByRoom puts (lacks-room (after_all s es) h to.reads fits (last-full s to.reads part es full.before exact full.are))

-- ---- a turn

module _ {C T A E : Type 0} (speech : Speech C T A E) where
  waits-held : (script : List C) (stamp : Stamp) (st : State) (a b c : Standing) (old new : HandleState T A E) (begins : Bool) → Fits st a →
      Waits HubBecomes speech script stamp a old b new begins → ((s : State) → Fits s b → Fits s c) → IfSome new.running (IsHeldUp c)
  waits-held script stamp st a b c old new begins fits h keeps =
      let next = h.pauses.goes.became.stands st fits in
      subst (λ (g : HandleState T A E). IfSome g.running (IsHeldUp c)) (sym h.handle)
      (held-at st c h.to h.pauses.goes.events next.0 (keeps (after_all st h.pauses.goes.events) next.1) h.pauses.waits)

  turn-held : (did : Polling) (script : List C) (stamp : Stamp) (left : ℕ) (st : State) (a b c : Standing) (old new : HandleState T A E) → Fits st a →
      HandleTurns HubBecomes speech script stamp a old b new did → ClosesBehind did left b c → IfSome new.running (IsHeldUp c)
  turn-held polling.Idle script stamp left st a b c old new fits turns behind =
      subst (λ (o : Option (Place T)). IfSome o (IsHeldUp c)) (sym (ap (λ (g : HandleState T A E). g.running) turns.handle ∙ turns.none_runs)) tt
  turn-held polling.Began script stamp left st a b c old new fits turns behind =
      waits-held script stamp st a b c old new true fits turns (λ s f. subst (λ (x : Standing). Fits s x) (sym behind) f)
  turn-held polling.Waits script stamp left st a b c old new fits turns behind =
      waits-held script stamp st a b c old new false fits turns (λ s f. subst (λ (x : Standing). Fits s x) (sym behind) (fits-touched s b false f))
  turn-held polling.Answered script stamp left st a b c old new fits turns behind = subst (λ (g : HandleState T A E). IfSome g.running (IsHeldUp c)) (sym turns.handle) tt

  pub made-held : (scripts : List (List C)) (turn : ℕ) (s t : SessionState T A E) (did : Polling) (st : State) → (made : HandleMade speech scripts turn s t did) → Fits st s.hub →
      IfSome made.new.running (IsHeldUp t.hub)
  made-held scripts turn s t did st made fits =
      turn-held did made.script _ s.unanswered st (untouched s.hub) made.hub t.hub made.old made.new (fits-touched st s.hub false fits) made.turns made.closes
