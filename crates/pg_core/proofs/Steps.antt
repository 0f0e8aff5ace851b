-- The equations of a command are kept by the turns of a legal list.
use Rattle.std.proofs.Common.{◌≡◌, ◌⊎◌, ℕ, ◌==◌, nat_lt, List, [], ◌∷◌, ◌++◌, length, filter, drop, Bool, true, false, if◌then◌else◌, Option, Some, None, Result, Ok, Err, refl, sym, ap, subst, ◌∙◌, arith}
use Rattle.std.proofs.lemmas.Bool.Decides.{nat_tests}
use Rattle.std.proofs.lemmas.List.{append-nil, drop_at}
use Rattle.pg_spec.specs.RawMessages.{RawMessage}
use Rattle.pg_desk.specs.declared.event.Take.TheVariants as taking
use Rattle.pg_desk.specs.declared.event.Event.{Event}
use Rattle.pg_desk.specs.declared.event.Event.TheVariants as call
use Rattle.pg_desk.specs.History.{State, start, taken, waiting, is_hung_up, after, after_all, take_answer, take_of_waiting, IsLegal, IsFrontOf, IsSound, joined, kept, received, reply}
use Rattle.pg_desk.specs.Kept.{after-joined, kept-joined, legal-joined, legal-later}
use Rattle.pg_desk.proofs.Soundness.{legal-sound}
use Rattle.pg_types.specs.declared.error.Error.{Error}
use Rattle.pg_query.specs.Dialogue as code
use Rattle.pg_types.specs.declared.error.Error.TheVariants.{OutOfMemory}
use Rattle.pg_query.specs.Lives.{Deed, Turn, Leads, Lives, deeds}
use Rattle.pg_query.specs.Meaning.{Place}
use Rattle.pg_core.specs.Deeds.{Serves, got_after}
use Rattle.pg_core.specs.Lists.{events_of, came_of, got_of, Owns, IsApart, state_behind, EndsEmpty, IsReached, SparesAll}
use Rattle.pg_core.specs.Outcomes.{LivesSo}
use Rattle.pg_core.specs.Runs as walks
use Rattle.pg_core.specs.Runs.{of_request, At, IsTidy, ReadsNothing, Answered, Waits}
use Rattle.pg_core.specs.Trails.{Moment, ran_by, IsRunning, moment_of, LedTo, Waiting, Answering, Refusing, PollsOn, Turned, RunsOn, HasAnswered, WasRefused, PollEnds, Gave, Pauses, HoldsBack, OwnTurn}
use Rattle.pg_core.proofs.Lists.{IsFirm, NoneAhead, list-serves, grows, ahead-one}
use Rattle.pg_core.proofs.Outcome.{life}
use Rattle.pg_core.proofs.Trail.{polled, others}

-- ---- states that a legal list led to

legal-front : (s : State) (es fs : List Event) → IsLegal s (es ++ fs) → IsLegal s es
legal-front s [] fs l = tt
legal-front s (e ∷ es) fs l = (l.0, legal-front (after s e) es fs l.1)

pub reached-start : (n m : ℕ) → IsReached (start n m)
reached-start n m = record { statements = n; portals = m; before = []; legal = tt; is = refl }

pub reached-on : (s : State) (es : List Event) → IsReached s → IsLegal s es → IsReached (after_all s es)
reached-on s es h l =
    let t = start h.statements h.portals in record {
      statements = h.statements;
      portals = h.portals;
      before = h.before ++ es;
      legal = legal-joined t h.before es h.legal (subst (λ (x : State). IsLegal x es) h.is l);
      is = ap (λ (x : State). after_all x es) h.is ∙ sym (after-joined t h.before es);
    }

-- every legal list from there leads to a sound state
pub firm : (s : State) → IsReached s → IsFirm s
firm s h es l =
    let r = reached-on s es h l in
    subst IsSound (sym r.is) (legal-sound r.statements r.portals r.before r.legal)

ahead-all : (s : State) (es : List Event) → IsLegal s es → NoneAhead s → NoneAhead (after_all s es)
ahead-all s [] l h = h
ahead-all s (e ∷ es) l h = ahead-all (after s e) es l.1 (ahead-one s e l.0 h)

-- of no request ahead was anything taken
pub none-ahead : (s : State) → IsReached s → NoneAhead s
none-ahead s h = subst NoneAhead (sym h.is) (ahead-all (start h.statements h.portals) h.before h.legal (λ k le. refl))

-- ---- a take that gave nothing

empty-waits : (s : State) (k : ℕ) (w : List (List RawMessage)) → taking.Empty ≡ take_of_waiting s k w → w ≡ []
empty-waits s k [] h = refl
empty-waits s k (ms ∷ w) h = absurd cc

pub took-empty : (s : State) (k : ℕ) → taking.Empty ≡ take_answer s k → waiting s k ≡ []
took-empty s k h = by (nat_lt k (length s.book)) (is_hung_up s k) h
  where
    by : (b c : Bool) → taking.Empty ≡ (if b then (if c then taking.Gone else take_of_waiting s k (waiting s k)) else taking.Gone) → waiting s k ≡ []
    by false c h = absurd cc
    by true true h = absurd cc
    by true false h = empty-waits s k (waiting s k) h

pub all-taken : (s : State) (k : ℕ) → IsSound s → waiting s k ≡ [] → got_of s k ≡ came_of s k
all-taken s k sound none =
    let front = sound.taken_is_front k in
    let rest : front.0 ≡ [] = sym (drop_at (taken k s.takes) front.0 (length (taken k s.takes)) refl) ∙ ap (drop (length (taken k s.takes))) front.1 ∙ none in
    ap (λ (l : List (List RawMessage)). joined l)
    (sym (append-nil (taken k s.takes)) ∙ ap (λ (l : List (List RawMessage)). taken k s.takes ++ l) (sym rest) ∙ front.1)

-- where the last take gave nothing, all that came was taken
emptied : (s : State) (L : List Deed) (id : ℕ) → IsReached s → IsLegal s (kept (events_of L)) → EndsEmpty L id → got_of (state_behind s L) id ≡ came_of (state_behind s L) id
emptied s L id h legal ends =
    let last : Event = call.Take id (Ok taking.Empty) in
    let split : kept (events_of L) ≡ kept ends.before ++ last ∷ [] = ap kept ends.last ∙ kept-joined ends.before (last ∷ []) in
    let mid = after_all s (kept ends.before) in
    let whole : IsLegal s (kept ends.before ++ last ∷ []) = subst (IsLegal s) split legal in
    let none : waiting mid id ≡ [] = took-empty mid id (legal-later s (kept ends.before) (last ∷ []) whole).0 in
    let all = all-taken mid id (firm mid (reached-on s (kept ends.before) h (legal-front s (kept ends.before) (last ∷ []) whole)) [] tt) none in
    let there : state_behind s L ≡ mid = ap (after_all s) split ∙ after-joined s (kept ends.before) (last ∷ []) in
    subst (λ (t : State). got_of t id ≡ came_of t id) (sym there) all

-- ---- turns

all-own : (L : List Deed) → IsApart (λ k. true) (λ a. true) L
all-own [] = tt
all-own (a ∷ L) = (λ e. owns a.event, λ e. absurd cc, all-own L)
  where
    owns : (e : Event) → Owns (λ k. true) e
    owns (call.Take which (Ok (taking.Batch ms))) = refl
    owns (call.Book stamp part copying (Ok id)) = refl
    owns e = tt

all-of-them : (L : List Deed) → filter (λ a. true) L ≡ L
all-of-them [] = refl
all-of-them (a ∷ L) = ap (λ (l : List Deed). a ∷ l) (all-of-them L)

front-at : (s t : State) (at : Option ℕ) → ((k : ℕ) → IsFrontOf (got_of s k) (came_of t k)) → IsFrontOf (of_request (got_of s) at) (of_request (came_of t) at)
front-at s t None h = ([], refl)
front-at s t (Some k) h = h k

joined-front-of : {A : Type 0} (xs ys : List A) (zs : List A) → IsFrontOf xs ys → IsFrontOf ys zs → IsFrontOf xs zs
joined-front-of {A} xs ys zs (r, e) (t, f) = (r ++ t, sym (assoc xs r t) ∙ ap (λ (l : List A). l ++ t) e ∙ f)
  where
    assoc : (a b c : List A) → (a ++ b) ++ c ≡ a ++ (b ++ c)
    assoc [] b c = refl
    assoc (x ∷ a) b c = ap (λ (l : List A). x ∷ l) (assoc a b c)

joined-append : {A : Type 0} (xs zs : List (List A)) → joined (xs ++ zs) ≡ joined xs ++ joined zs
joined-append [] zs = refl
joined-append {A} (x ∷ xs) zs = ap (λ l. x ++ l) (joined-append xs zs) ∙ sym (assoc x (joined xs) (joined zs))
  where
    assoc : (a b c : List A) → (a ++ b) ++ c ≡ a ++ (b ++ c)
    assoc [] b c = refl
    assoc (x ∷ a) b c = ap (λ (l : List A). x ∷ l) (assoc a b c)

taken-front : (s : State) (k : ℕ) → IsSound s → IsFrontOf (got_of s k) (came_of s k)
taken-front s k sound = let f = sound.taken_is_front k in (joined f.0, sym (joined-append (taken k s.takes) f.0) ∙ ap (λ (l : List (List RawMessage)). joined l) f.1)

-- what a poll takes is served, and is what was taken
pub poll-served : (s : State) (ds : List Deed) → IsReached s → IsLegal s (kept (events_of ds)) → Serves (came_of (state_behind s ds)) (got_of s) ds × ((k : ℕ) → got_after (got_of s) ds k ≡ got_of (state_behind s ds) k)
poll-served s ds reached legal =
    let h = list-serves (λ k. true) (λ a. true) ds s (got_of s) (firm s reached) (none-ahead s reached) legal (all-own ds) (λ k e. refl) in
    (subst (Serves (came_of (state_behind s ds)) (got_of s)) (all-of-them ds) h.0, λ k. subst (λ (L : List Deed). got_after (got_of s) L k ≡ got_of (state_behind s ds) k) (all-of-them ds) (h.1 k refl))

-- what was taken is a front of what comes
pub taken-within : (s : State) (es : List Event) (at : Option ℕ) → IsReached s → IsFrontOf (of_request (got_of s) at) (of_request (came_of (after_all s es)) at)
taken-within s es at reached = front-at s (after_all s es) at (λ k. joined-front-of (got_of s k) (came_of s k) (came_of (after_all s es) k) (taken-front s k (firm s reached [] tt)) (grows s es k))

pub own-turn : {T : Type 0} (d : code.Dialogue T) (place : ℕ) (trail : List Moment) (s : State) (p : Place T) (ds : List Deed) (q : Place T) → IsReached s → IsRunning d trail (got_of s) p →
    Leads p.dialogue p.reads ds q.dialogue q.reads → IsLegal s (kept (events_of ds)) → PollEnds ds q → OwnTurn d place trail s ds q
own-turn {T} d place trail s p ds q reached runs l legal ends = record { met = c.met; within = c.within; turned = by ends }
  where
    t : State
    t = state_behind s ds

    served : Serves (came_of t) (got_of s) ds × ((k : ℕ) → got_after (got_of s) ds k ≡ got_of t k)
    served =
        let h = list-serves (λ k. true) (λ a. true) ds s (got_of s) (firm s reached) (none-ahead s reached) legal (all-own ds) (λ k e. refl) in
        (subst (Serves (came_of t) (got_of s)) (all-of-them ds) h.0, λ k. subst (λ (L : List Deed). got_after (got_of s) L k ≡ got_of t k) (all-of-them ds) (h.1 k refl))

    front : (k : ℕ) → IsFrontOf (got_of s k) (came_of t k)
    front k = joined-front-of (got_of s k) (came_of s k) (came_of t k) (taken-front s k (firm s reached [] tt)) (grows s (kept (events_of ds)) k)

    c : PollsOn d (moment_of place (came_of t) ds) trail (got_of s) ds q
    c = polled d trail (came_of t) (got_of s) p place ds q runs (front-at s t (ran_by d trail).at front) l served.0

    same-at : (at : Option ℕ) → of_request (got_of t) at ≡ of_request (got_after (got_of s) ds) at
    same-at None = refl
    same-at (Some k) = sym (served.1 k)

    led : LedTo d (moment_of place (came_of t) ds ∷ trail) (got_of s) ds q → Turned d (moment_of place (came_of t) ds ∷ trail) t ds q
    led (Waiting h reads) = RunsOn (others d (moment_of place (came_of t) ds ∷ trail) (got_after (got_of s) ds) (got_of t) q (same-at (ran_by d (moment_of place (came_of t) ds ∷ trail)).at) h) reads
    led (Answering r e is) = HasAnswered r e is
    led (Refusing h) = WasRefused h

    by : PollEnds ds q → Turned d (moment_of place (came_of t) ds ∷ trail) t ds q
    by (Gave r e) = led (c.leads (Answered r e))
    by (Pauses reads empty) = led (c.leads (Waits reads (served.1 q.reads ∙ emptied s ds q.reads reached legal empty)))
    by (HoldsBack puts full) = led (c.leads (walks.HoldsBack puts))

-- ---- turns of others

other-apart : (k : ℕ) (L : List Deed) → SparesAll k L → IsApart (λ j. j == k) (λ a. false) L
other-apart k [] h = tt
other-apart k (a ∷ L) h = (λ e. absurd cc, λ e. h.0, other-apart k L h.1)

none-of-them : (L : List Deed) → filter (λ a. false) L ≡ []
none-of-them [] = refl
none-of-them (a ∷ L) = none-of-them L

same-as-itself : (k : ℕ) → (k == k) ≡ true
same-as-itself k = grind (arith, nat_tests)

pub spared : (s : State) (L : List Deed) (k : ℕ) → IsReached s → IsLegal s (kept (events_of L)) → SparesAll k L → got_of (state_behind s L) k ≡ got_of s k
spared s L k reached legal h =
    let r = list-serves (λ j. j == k) (λ a. false) L s (got_of s) (firm s reached) (none-ahead s reached) legal (other-apart k L h) (λ j e. refl) in
    sym (ap (λ (l : List Deed). got_after (got_of s) l k) (sym (none-of-them L)) ∙ r.1 k (same-as-itself k))

pub others-turn : {T : Type 0} (d : code.Dialogue T) (trail : List Moment) (s : State) (p : Place T) (L : List Deed) → IsReached s → IsRunning d trail (got_of s) p → IsLegal s (kept (events_of L)) → SparesAll p.reads L →
    IsRunning d trail (got_of (state_behind s L)) p
others-turn {T} d trail s p L reached runs legal h = others d trail (got_of s) (got_of (state_behind s L)) p (by (ran_by d trail).at runs.at) runs
  where
    by : (at : Option ℕ) → At at p.reads (ran_by d trail).left → of_request (got_of (state_behind s L)) at ≡ of_request (got_of s) at
    by None a = refl
    by (Some k) a = spared s L k reached legal (subst (λ (j : ℕ). SparesAll j L) (sym a) h)

-- ---- a life in one legal list

pub list-life : {T : Type 0} (mine : ℕ → Bool) (own : Deed → Bool) (n m : ℕ) (L : List Deed) (p : Place T) (ts : List Turn) (q : Place T) (r : Result T Error) → IsLegal (start n m) (kept (events_of L)) → IsApart mine own L →
    IsTidy p.dialogue → ReadsNothing p.dialogue → Lives p ts q → deeds ts ≡ filter own L → (q.dialogue ≡ code.Answer r) ⊎ (r ≡ Err OutOfMemory) →
    LivesSo (λ k. reply k (received (state_behind (start n m) L).deliveries)) p.dialogue (deeds ts) q.dialogue r
list-life {T} mine own n m L p ts q r legal apart tidy nothing l same answers =
    let s = start n m in
    let h = reached-start n m in
    let served = list-serves mine own L s (λ k. []) (firm s h) (none-ahead s h) legal apart (λ k e. refl) in
    let sound = firm s h (kept (events_of L)) legal in
    let groups : came_of (state_behind s L) ≡ (λ k. reply k (received (state_behind s L).deliveries)) = λ i k. sound.given_is_group k i in
    subst (λ (came : ℕ → List RawMessage). LivesSo came p.dialogue (deeds ts) q.dialogue r) groups
    (life (came_of (state_behind s L)) p ts q r tidy nothing l (subst (Serves (came_of (state_behind s L)) (λ k. [])) (sym same) served.0) answers)

pub from-start : (mine : ℕ → Bool) (own : Deed → Bool) (n m : ℕ) (L : List Deed) → IsLegal (start n m) (kept (events_of L)) → IsApart mine own L → Serves (came_of (state_behind (start n m) L)) (λ k. []) (filter own L)
from-start mine own n m L legal apart = let s = start n m in let h = reached-start n m in (list-serves mine own L s (λ k. []) (firm s h) (none-ahead s h) legal apart (λ k e. refl)).0
