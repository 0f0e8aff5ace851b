-- One legal list gives each reader of it what comes next.
use Rattle.std.proofs.Common.{◌≡◌, ℕ, ◌<◌, ◌≤◌, ◌==◌, nat_lt, List, [], ◌∷◌, ◌++◌, length, filter, Bool, true, false, if◌then◌else◌, inl, inr, Ok, refl, sym, ap, subst, ◌∙◌, arith, append_assoc}
use Rattle.std.proofs.lemmas.Bool.Decides.{nat_tests, eqb_tells}
use Rattle.std.proofs.lemmas.List.{append-nil, length-append}
use Rattle.pg_spec.specs.RawMessages.{RawMessage}
use Rattle.pg_desk.specs.declared.event.Put.TheVariants as putting
use Rattle.pg_desk.specs.declared.event.Take.TheVariants as taking
use Rattle.pg_desk.specs.declared.event.Out.TheVariants as out
use Rattle.pg_desk.specs.declared.event.Deliver.TheVariants as delivering
use Rattle.pg_desk.specs.declared.event.Event.{Event}
use Rattle.pg_desk.specs.declared.event.Event.TheVariants.{Book, Put as PutEvent, EndCopy, Take as TakeEvent, HangUp, NextStatement, NextPortal, Catalog as CatalogEvent, NextOut, Deliver as DeliverEvent, CloseRequests, Fail}
use Rattle.pg_desk.specs.History.{State, Change, Booked, Added, Ended, Took, Came, change_of, changed, Admits, next_owner, given, taken, waiting, is_hung_up, after, after_all, take_answer, take_of_waiting, Allows, IsLegal, IsFrontOf, IsSound, joined, leaves_event, kept}
use Rattle.pg_desk.proofs.Parts.{extended-length}
use Rattle.pg_desk.proofs.Soundness.{admitted, given-more, taken-own, taken-other}
use Rattle.pg_query.specs.Lives.{Deed}
use Rattle.pg_core.specs.Deeds.{Serves, ServedBy, got_after, taken_from}
use Rattle.pg_core.specs.Lists.{events_of, came_of, got_of, Owns, Spares, IsApart, state_behind}

-- of a request that isn't booked nothing was taken
abbrev pub NoneAhead : State → Type 0
NoneAhead s = (k : ℕ) → length s.book ≤ k → taken k s.takes ≡ []

-- ---- lists of lists

joined-more : {A : Type 0} (xss : List (List A)) (xs : List A) → joined (xss ++ xs ∷ []) ≡ joined xss ++ xs
joined-more [] xs = append-nil xs
joined-more (ys ∷ xss) xs = ap (λ l. ys ++ l) (joined-more xss xs) ∙ sym (append_assoc ys (joined xss) xs)

joined-append : {A : Type 0} (xs zs : List (List A)) → joined (xs ++ zs) ≡ joined xs ++ joined zs
joined-append [] zs = refl
joined-append (x ∷ xs) zs = ap (λ l. x ++ l) (joined-append xs zs) ∙ sym (append_assoc x (joined xs) (joined zs))

joined-front : {A : Type 0} (xs ys : List (List A)) → IsFrontOf xs ys → IsFrontOf (joined xs) (joined ys)
joined-front {A} xs ys (rest, e) = (joined rest, sym (joined-append xs rest) ∙ ap (λ (l : List (List A)). joined l) e)

front-here : {A : Type 0} (xs : List A) → IsFrontOf xs xs
front-here xs = ([], append-nil xs)

front-then : {A : Type 0} (xs ys zs : List A) → IsFrontOf xs ys → IsFrontOf ys zs → IsFrontOf xs zs
front-then {A} xs ys zs (r, e) (t, f) = (r ++ t, sym (append_assoc xs r t) ∙ ap (λ (l : List A). l ++ t) e ∙ f)

-- ---- one event

takes-own : (s : State) (id : ℕ) (ms : List RawMessage) (k : ℕ) → got_of (after s (TakeEvent id (Ok (taking.Batch ms)))) k ≡ got_of s k ++ (if id == k then ms else [])
takes-own s id ms k = elim (eqb_tells id k) [
  | inl same ↦ ap (λ (l : List (List RawMessage)). joined l) (taken-own k s.takes (record { id = id; messages = ms }) same.1) ∙ joined-more (taken k s.takes) ms
      ∙ sym (ap (λ (b : Bool). got_of s k ++ (if b then ms else [])) same.0)
  | inr apart ↦ ap (λ (l : List (List RawMessage)). joined l) (taken-other k s.takes (record { id = id; messages = ms }) apart.1) ∙ sym (append-nil (got_of s k))
      ∙ sym (ap (λ (b : Bool). got_of s k ++ (if b then ms else [])) apart.0)
]

-- what was taken by it
pub takes-one : (s : State) (e : Event) (k : ℕ) → got_of (after s e) k ≡ got_of s k ++ taken_from k e
takes-one s (TakeEvent id (Ok (taking.Batch ms))) k = takes-own s id ms k
takes-one s (Book stamp part copying (Ok id)) k = sym (append-nil (got_of s k))
takes-one s (PutEvent id part putting.Took) k = sym (append-nil (got_of s k))
takes-one s (EndCopy id part putting.Took) k = sym (append-nil (got_of s k))
takes-one s (HangUp id (Ok x)) k = sym (append-nil (got_of s k))
takes-one s (NextStatement (Ok n)) k = sym (append-nil (got_of s k))
takes-one s (NextPortal (Ok n)) k = sym (append-nil (got_of s k))
takes-one s (CatalogEvent call) k = sym (append-nil (got_of s k))
takes-one s (NextOut (Ok (out.Part part))) k = sym (append-nil (got_of s k))
takes-one s (DeliverEvent batch complete delivering.Taken) k = sym (append-nil (got_of s k))
takes-one s (CloseRequests (Ok x)) k = sym (append-nil (got_of s k))
takes-one s (Fail (Ok x)) k = sym (append-nil (got_of s k))
takes-one s e k = sym (append-nil (got_of s k))

grows-own : (s : State) (ms : List RawMessage) (complete : Bool) (k : ℕ) → IsFrontOf (came_of s k) (came_of (changed s (Came ms complete)) k)
grows-own s ms complete k = by (next_owner s == k) (given-more s ms complete k)
  where
    by : (b : Bool) → given k (changed s (Came ms complete)).deliveries ≡ (if b then given k s.deliveries ++ ms ∷ [] else given k s.deliveries) → IsFrontOf (came_of s k) (came_of (changed s (Came ms complete)) k)
    by true e = (ms, sym (joined-more (given k s.deliveries) ms) ∙ ap (λ (l : List (List RawMessage)). joined l) (sym e))
    by false e = ([], append-nil (came_of s k) ∙ ap (λ (l : List (List RawMessage)). joined l) (sym e))

grows-by : (s : State) (c : Change) (k : ℕ) → IsFrontOf (came_of s k) (came_of (changed s c) k)
grows-by s (Came ms complete) k = grows-own s ms complete k
grows-by s c k = front-here (came_of s k)

-- what came is a front of what comes
grows-one : (s : State) (e : Event) (k : ℕ) → IsFrontOf (came_of s k) (came_of (after s e) k)
grows-one s e k = grows-by s (change_of e) k

pub grows : (s : State) (es : List Event) (k : ℕ) → IsFrontOf (came_of s k) (came_of (after_all s es) k)
grows s [] k = front-here (came_of s k)
grows s (e ∷ es) k = front-then (came_of s k) (came_of (after s e) k) (came_of (after_all s (e ∷ es)) k) (grows-one s e k) (grows (after s e) es k)

-- a take that gave a batch is of a request that is booked
gave-booked : (s : State) (id : ℕ) (ms : List RawMessage) → taking.Batch ms ≡ take_answer s id → id < length s.book
gave-booked s id ms h = by (nat_lt id (length s.book)) refl (is_hung_up s id) h
  where
    by : (b : Bool) → nat_lt id (length s.book) ≡ b → (c : Bool) → taking.Batch ms ≡ (if b then (if c then taking.Gone else take_of_waiting s id (waiting s id)) else taking.Gone) → id < length s.book
    by false e c h = absurd cc
    by true e c h = grind (arith, nat_tests, e)

ahead-take : (s : State) (id : ℕ) (ms : List RawMessage) → id < length s.book → NoneAhead s → NoneAhead (after s (TakeEvent id (Ok (taking.Batch ms))))
ahead-take s id ms lt h k le = taken-other k s.takes (record { id = id; messages = ms }) (λ e. (let same : id ≡ k = e in omega (arith, same, lt, le))) ∙ h k le

ahead-by : (s : State) (c : Change) → Admits s c → NoneAhead s → NoneAhead (changed s c)
ahead-by s (Booked stamp part copying) a h = λ k le. h k (let e = length-append s.book (record { stamp = stamp; parts = part ∷ [] } ∷ []) in omega (arith, le, e))
ahead-by s (Added id part) a h = λ k le. h k (let e = extended-length id part s.book in omega (arith, le, e))
ahead-by s (Ended id part) a h = λ k le. h k (let e = extended-length id part s.book in omega (arith, le, e))
ahead-by s (Took id ms) a h = ahead-take s id ms (gave-booked s id ms a) h
ahead-by s c a h = h

pub ahead-one : (s : State) (e : Event) → Allows s e → NoneAhead s → NoneAhead (after s e)
ahead-one s e a h = ahead-by s (change_of e) (admitted s e a) h

served-take : (s : State) (id : ℕ) (ms : List RawMessage) (mine : ℕ → Bool) (came got : ℕ → List RawMessage) → mine id ≡ true → ((k : ℕ) → mine k ≡ true → got k ≡ got_of s k) →
    ((k : ℕ) → IsFrontOf (came_of (after s (TakeEvent id (Ok (taking.Batch ms)))) k) (came k)) → IsSound (after s (TakeEvent id (Ok (taking.Batch ms)))) → IsFrontOf (got id ++ ms) (came id)
served-take s id ms mine came got own is more sound =
    let t = after s (TakeEvent id (Ok (taking.Batch ms))) in
    let all : got_of t id ≡ got id ++ ms = ap (λ (l : List (List RawMessage)). joined l) (taken-own id s.takes (record { id = id; messages = ms }) refl) ∙ joined-more (taken id s.takes) ms
    ∙ ap (λ (l : List RawMessage). l ++ ms) (sym (is id own)) in
    subst (λ (l : List RawMessage). IsFrontOf l (came id)) all
    (front-then (got_of t id) (came_of t id) (came id) (joined-front (taken id t.takes) (given id t.deliveries) (sound.taken_is_front id)) (more id))

-- an own event is served
served-one : (s : State) (e : Event) (mine : ℕ → Bool) (came got : ℕ → List RawMessage) → Owns mine e → ((k : ℕ) → mine k ≡ true → got k ≡ got_of s k) → Allows s e → NoneAhead s →
    ((k : ℕ) → IsFrontOf (came_of (after s e) k) (came k)) → IsSound (after s e) → ServedBy came got e
served-one s (Book stamp part copying (Ok id)) mine came got own is a ahead more sound = is id own ∙ ap (λ (l : List (List RawMessage)). joined l) (ahead id (let e : id ≡ length s.book = a.1 in omega (arith, e)))
served-one s (TakeEvent id (Ok (taking.Batch ms))) mine came got own is a ahead more sound = served-take s id ms mine came got own is more sound
served-one s e mine came got own is a ahead more sound = tt

-- another's event takes nothing of it
spared-take : (id k : ℕ) (ms : List RawMessage) (mine : ℕ → Bool) → mine id ≡ false → mine k ≡ true → (if id == k then ms else []) ≡ []
spared-take id k ms mine foreign own = elim (eqb_tells id k) [
  | inl same ↦ absurd (let e : false ≡ true = sym foreign ∙ ap mine same.1 ∙ own in cc)
  | inr apart ↦ ap (λ (b : Bool). if b then ms else []) apart.0
]

pub spared-one : (e : Event) (mine : ℕ → Bool) (k : ℕ) → Spares mine e → mine k ≡ true → taken_from k e ≡ []
spared-one (TakeEvent id (Ok (taking.Batch ms))) mine k foreign own = spared-take id k ms mine foreign own
spared-one e mine k foreign own = refl

-- an event that a stored list leaves out takes nothing, and nothing is asked of it
record Left-out (e : Event) : Type 0 where
  takes : (k : ℕ) → taken_from k e ≡ []
  served : (came got : ℕ → List RawMessage) → ServedBy came got e

left-out : (e : Event) → leaves_event e ≡ false → Left-out e
left-out (Book stamp part copying (Ok id)) h = absurd cc
left-out (TakeEvent id (Ok (taking.Batch ms))) h = absurd cc
left-out e h = record { takes = λ k. refl; served = λ came got. tt }

-- ---- the list

-- those of one are served, and what they took is what was taken of its requests
pub record Served (mine : ℕ → Bool) (own : Deed → Bool) (s : State) (L : List Deed) (got : ℕ → List RawMessage) : Type 0 where
  pub serves : Serves (came_of (state_behind s L)) got (filter own L)
  pub took : (k : ℕ) → mine k ≡ true → got_after got (filter own L) k ≡ got_of (state_behind s L) k

-- every legal list leads to a sound state
abbrev pub IsFirm : State → Type 0
IsFirm s = (es : List Event) → IsLegal s es → IsSound (after_all s es)

firm-on : (s : State) (e : Event) → Allows s e → IsFirm s → IsFirm (after s e)
firm-on s e a firm es legal = firm (e ∷ es) (a, legal)

-- one event more in front, from `s` to `t`
record Stepped (mine : ℕ → Bool) (s t : State) (e : Event) : Type 0 where
  takes : (k : ℕ) → got_of t k ≡ got_of s k ++ taken_from k e
  served : (came got : ℕ → List RawMessage) → Owns mine e → ((k : ℕ) → mine k ≡ true → got k ≡ got_of s k) → ((k : ℕ) → IsFrontOf (came_of t k) (came k)) → ServedBy came got e

stepped-on : (mine : ℕ → Bool) (s : State) (e : Event) → IsFirm s → NoneAhead s → Allows s e → Stepped mine s (after s e) e
stepped-on mine s e firm ahead a = record {
  takes = takes-one s e;
  served = λ came got own is more. served-one s e mine came got own is a ahead more (firm (e ∷ []) (a, tt));
}

stepped-out : (mine : ℕ → Bool) (s : State) (e : Event) → leaves_event e ≡ false → Stepped mine s s e
stepped-out mine s e out_of = let l = left-out e out_of in record {
  takes = λ k. sym (ap (λ (x : List RawMessage). got_of s k ++ x) (l.takes k) ∙ append-nil (got_of s k));
  served = λ came got own is more. l.served came got;
}

-- an own deed in front, or another's
with-one : (mine : ℕ → Bool) (own : Deed → Bool) (s t : State) (a : Deed) (L : List Deed) (got : ℕ → List RawMessage) (final : State) → Stepped mine s t a.event →
    (own a ≡ true → Owns mine a.event) → (own a ≡ false → Spares mine a.event) → ((k : ℕ) → mine k ≡ true → got k ≡ got_of s k) → ((k : ℕ) → IsFrontOf (came_of t k) (came_of final k)) →
    ((got' : ℕ → List RawMessage) → ((k : ℕ) → mine k ≡ true → got' k ≡ got_of t k) → Serves (came_of final) got' (filter own L) × ((k : ℕ) → mine k ≡ true → got_after got' (filter own L) k ≡ got_of final k)) →
    Serves (came_of final) got (filter own (a ∷ L)) × ((k : ℕ) → mine k ≡ true → got_after got (filter own (a ∷ L)) k ≡ got_of final k)
with-one mine own s t a L got final step owns spares is more rest = by (own a) refl
  where
    by : (b : Bool) → own a ≡ b → Serves (came_of final) got (if b then a ∷ filter own L else filter own L) × ((k : ℕ) → mine k ≡ true → got_after got (if b then a ∷ filter own L else filter own L) k ≡ got_of final k)
    by true e =
        let r = rest (λ j. got j ++ taken_from j a.event) (λ k my. ap (λ (x : List RawMessage). x ++ taken_from k a.event) (is k my) ∙ sym (step.takes k)) in
        ((step.served (came_of final) got (owns e) is more, r.0), r.1)
    by false e = rest got (λ k my. is k my ∙ sym (step.takes k ∙ ap (λ (x : List RawMessage). got_of s k ++ x) (spared-one a.event mine k (spares e) my) ∙ append-nil (got_of s k)))

pub list-serves : (mine : ℕ → Bool) (own : Deed → Bool) (L : List Deed) (s : State) (got : ℕ → List RawMessage) → IsFirm s → NoneAhead s → IsLegal s (kept (events_of L)) → IsApart mine own L →
    ((k : ℕ) → mine k ≡ true → got k ≡ got_of s k) → Serves (came_of (state_behind s L)) got (filter own L) × ((k : ℕ) → mine k ≡ true → got_after got (filter own L) k ≡ got_of (state_behind s L) k)
list-serves mine own [] s got firm ahead legal apart is = (tt, is)
list-serves mine own (a ∷ L) s got firm ahead legal apart is = by (leaves_event a.event) refl legal (λ t got' firm' ahead' legal' is'. list-serves mine own L t got' firm' ahead' legal' apart.2 is')
  where
    by : (b : Bool) → leaves_event a.event ≡ b → IsLegal s (if b then a.event ∷ kept (events_of L) else kept (events_of L)) →
        ((t : State) (got' : ℕ → List RawMessage) → IsFirm t → NoneAhead t → IsLegal t (kept (events_of L)) → ((k : ℕ) → mine k ≡ true → got' k ≡ got_of t k) →
        Serves (came_of (state_behind t L)) got' (filter own L) × ((k : ℕ) → mine k ≡ true → got_after got' (filter own L) k ≡ got_of (state_behind t L) k)) →
        Serves (came_of (after_all s (if b then a.event ∷ kept (events_of L) else kept (events_of L)))) got (filter own (a ∷ L))
        × ((k : ℕ) → mine k ≡ true → got_after got (filter own (a ∷ L)) k ≡ got_of (after_all s (if b then a.event ∷ kept (events_of L) else kept (events_of L))) k)
    by true e (allows, legal) ih =
        with-one mine own s (after s a.event) a L got (after_all (after s a.event) (kept (events_of L))) (stepped-on mine s a.event firm ahead allows) apart.0 apart.1 is
        (λ k. grows (after s a.event) (kept (events_of L)) k)
        (λ got' is'. ih (after s a.event) got' (firm-on s a.event allows firm) (ahead-one s a.event allows ahead) legal is')
    by false e legal ih =
        with-one mine own s s a L got (after_all s (kept (events_of L))) (stepped-out mine s a.event e) apart.0 apart.1 is
        (λ k. grows s (kept (events_of L)) k)
        (λ got' is'. ih s got' firm ahead legal is')
