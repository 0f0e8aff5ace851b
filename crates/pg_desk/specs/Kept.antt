-- Want of memory in lists of events.
use Rattle.std.proofs.Common.{◌≡◌, List, [], ◌∷◌, ◌++◌, Bool, true, false, if◌then◌else◌, Ok, Err, refl, ap, subst}
use Rattle.pg_desk.specs.declared.event.Put.TheVariants as putting
use Rattle.pg_desk.specs.declared.event.Deliver.TheVariants as delivering
use Rattle.pg_desk.specs.declared.event.Event.{Event}
use Rattle.pg_desk.specs.declared.event.Event.TheVariants.{Book, Put as PutEvent, EndCopy, Take as TakeEvent, HangUp, NextStatement, NextPortal, Catalog as CatalogEvent, NextOut, Deliver as DeliverEvent, CloseRequests, Fail}
use Rattle.pg_desk.specs.declared.event.CatalogCall.{CatalogCall}
use Rattle.pg_desk.specs.declared.event.CatalogCall.TheVariants.{TypeOf, SetType, ClearTypes, LookupOf, SetLookup}
use Rattle.pg_desk.specs.Catalog.{Catalog, after_catalog, leaves_catalog}
use Rattle.pg_desk.specs.History.{State, after, after_all, IsLegal, IsExact, leaves_event, kept}

-- one event more in front
kept-step : (b : Bool) (e : Event) (xs ys zs : List Event) → xs ≡ ys ++ zs → (if b then e ∷ xs else xs) ≡ (if b then e ∷ ys else ys) ++ zs
kept-step true e xs ys zs h = ap (λ (l : List Event). e ∷ l) h
kept-step false e xs ys zs h = h

-- the stored part of joined lists is the stored parts, joined
pub kept-joined : (es fs : List Event) → kept (es ++ fs) ≡ kept es ++ kept fs
kept-joined [] fs = refl
kept-joined (e ∷ es) fs = kept-step (leaves_event e) e (kept (es ++ fs)) (kept es) (kept fs) (kept-joined es fs)

-- a call on the catalog that leaves no event changes nothing of it
catalog-unchanged : (k : Catalog) (call : CatalogCall) → leaves_catalog call ≡ false → after_catalog k call ≡ k
catalog-unchanged k (TypeOf oid r) h = refl
catalog-unchanged k (SetType oid ty (Ok x)) h = absurd cc
catalog-unchanged k (SetType oid ty (Err e)) h = refl
catalog-unchanged k (ClearTypes (Ok x)) h = absurd cc
catalog-unchanged k (ClearTypes (Err e)) h = refl
catalog-unchanged k (LookupOf which r) h = refl
catalog-unchanged k (SetLookup which s (Ok x)) h = absurd cc
catalog-unchanged k (SetLookup which s (Err e)) h = refl

-- a call that leaves no event changes nothing
pub unchanged : (s : State) (e : Event) → leaves_event e ≡ false → after s e ≡ s
unchanged s (Book stamp part copying (Ok id)) h = absurd cc
unchanged s (Book stamp part copying (Err e)) h = refl
unchanged s (PutEvent id part putting.Took) h = absurd cc
unchanged s (PutEvent id part (putting.Full back)) h = refl
unchanged s (PutEvent id part (putting.Gone back)) h = refl
unchanged s (PutEvent id part (putting.OutOfMemory back)) h = refl
unchanged s (EndCopy id part putting.Took) h = absurd cc
unchanged s (EndCopy id part (putting.Full back)) h = refl
unchanged s (EndCopy id part (putting.Gone back)) h = refl
unchanged s (EndCopy id part (putting.OutOfMemory back)) h = refl
unchanged s (TakeEvent id (Ok t)) h = absurd cc
unchanged s (TakeEvent id (Err e)) h = refl
unchanged s (HangUp id (Ok x)) h = absurd cc
unchanged s (HangUp id (Err e)) h = refl
unchanged s (NextStatement (Ok n)) h = absurd cc
unchanged s (NextStatement (Err e)) h = refl
unchanged s (NextPortal (Ok n)) h = absurd cc
unchanged s (NextPortal (Err e)) h = refl
unchanged s (CatalogEvent call) h = ap (λ (k : Catalog). record s { catalog = k }) (catalog-unchanged s.catalog call h)
unchanged s (NextOut (Ok o)) h = absurd cc
unchanged s (NextOut (Err e)) h = refl
unchanged s (DeliverEvent batch complete delivering.Taken) h = absurd cc
unchanged s (DeliverEvent batch complete (delivering.Full back)) h = refl
unchanged s (DeliverEvent batch complete (delivering.NoRequest back)) h = refl
unchanged s (DeliverEvent batch complete (delivering.OutOfMemory back)) h = refl
unchanged s (CloseRequests (Ok x)) h = absurd cc
unchanged s (CloseRequests (Err e)) h = refl
unchanged s (Fail (Ok x)) h = absurd cc
unchanged s (Fail (Err e)) h = refl

-- the stored part of a list stands for the same state, and is legal where the list is
pub record StoredPart (s : State) (es : List Event) : Type 0 where
  pub state : after_all s (kept es) ≡ after_all s es
  pub legal : IsLegal s es → IsLegal s (kept es)

-- one event more in front
stored-step : (s : State) (e : Event) (es : List Event) (b : Bool) → leaves_event e ≡ b → StoredPart (after s e) es →
    (after_all s (if b then e ∷ kept es else kept es) ≡ after_all (after s e) es) × (IsLegal s (e ∷ es) → IsLegal s (if b then e ∷ kept es else kept es))
stored-step s e es true is h = (h.state, λ l. (l.0, h.legal l.1))
stored-step s e es false is h = (
  subst (λ (t : State). after_all t (kept es) ≡ after_all (after s e) es) (unchanged s e is) h.state,
  λ l. subst (λ (t : State). IsLegal t (kept es)) (unchanged s e is) (h.legal l.1),
)

pub stored-part : (s : State) (es : List Event) → StoredPart s es
stored-part s [] = record { state = refl; legal = λ l. l }
stored-part s (e ∷ es) = let p = stored-step s e es (leaves_event e) refl (stored-part (after s e) es) in record { state = p.0; legal = p.1 }

-- what is exact is legal
pub legal-if-exact : (s : State) (es : List Event) → IsExact s es → IsLegal s es
legal-if-exact s [] h = tt
legal-if-exact s (e ∷ es) h = (h.0, legal-if-exact (after s e) es h.2)

-- legal lists of events are joined
pub legal-joined : (s : State) (es fs : List Event) → IsLegal s es → IsLegal (after_all s es) fs → IsLegal s (es ++ fs)
legal-joined s [] fs h k = k
legal-joined s (e ∷ es) fs h k = (h.0, legal-joined (after s e) es fs h.1 k)

-- the state after joined lists
pub after-joined : (s : State) (es fs : List Event) → after_all s (es ++ fs) ≡ after_all (after_all s es) fs
after-joined s [] fs = refl
after-joined s (e ∷ es) fs = after-joined (after s e) es fs

-- the later part of a legal list
pub legal-later : (s : State) (es fs : List Event) → IsLegal s (es ++ fs) → IsLegal (after_all s es) fs
legal-later s [] fs h = h
legal-later s (e ∷ es) fs h = legal-later (after s e) es fs h.1
