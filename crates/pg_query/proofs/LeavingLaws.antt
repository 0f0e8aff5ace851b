-- A command whose dialogue lets its requests go leaves none open.
use Rattle.std.proofs.Common.{◌≡◌, ◌⊎◌, inl, inr, ℕ, ◌==◌, ◌&&◌, ◌||◌, List, [], ◌∷◌, Bool, true, false, if◌then◌else◌, Some, Result, Ok, Err, refl, sym, ◌∙◌, ap, subst, arith}
use Rattle.std.specs.List.{list_any}
use Rattle.std.proofs.lemmas.Bool.Decides.{nat_tests}
use Rattle.pg_spec.specs.RawMessages.{RawMessage, is_ready}
use Rattle.pg_desk.specs.declared.event.DeskFault.{DeskFault}
use Rattle.pg_desk.specs.declared.event.DeskFault.TheVariants as fault
use Rattle.pg_spec.specs.declared.stamps.Stamp.{Stamp}
use Rattle.pg_desk.specs.declared.event.Put.TheVariants as putting
use Rattle.pg_desk.specs.declared.event.Take.TheVariants as taking
use Rattle.pg_desk.specs.declared.event.Event.{Event}
use Rattle.pg_desk.specs.declared.event.Event.TheVariants as call
use Rattle.pg_desk.specs.declared.event.CatalogCall.{CatalogCall}
use Rattle.pg_desk.specs.declared.event.CatalogCall.TheVariants as catalog
use Rattle.pg_types.specs.declared.error.Error.{Error}
use Rattle.pg_types.specs.declared.error.Error.TheVariants.{Closed, OutOfMemory}
use Rattle.pg_query.specs.declared.desk_call.DeskCall.{DeskCall}
use Rattle.pg_query.specs.declared.desk_call.DeskCall.TheVariants as desk_call
use Rattle.pg_query.specs.declared.desk_call.Reply.{Reply}
use Rattle.pg_query.specs.declared.desk_call.Reply.TheVariants as reply
use Rattle.pg_query.specs.Faults.{of_fault}
use Rattle.pg_query.specs.Dialogue.{Dialogue, Answer, Ask, Send, Leave, Read, Put, Finish, Close, HangUp, Call, Hear, feed, feed_one, question_of, reply_of, fits, after_reply, Told}
use Rattle.pg_query.specs.Meaning.{Place}
use Rattle.pg_query.specs.Lives.{Deed, Turn, Leads, Lives, deeds}
use Rattle.pg_query.specs.Leaving.{Holds, Nothing, Request, IsLetGo, IsHeld, request_behind, after_reading, LetsGo, IsLetGoIn, LetsGoBehind, AllLetGo, IsOwed, AllOwed}
use Rattle.pg_query.proofs.RequestLaws.{lives-lead, moved, stays-answered}

-- ---- messages that came

after-none : (h : Holds) → after_reading h [] ≡ h
after-none Nothing = refl
after-none Request = refl

after-more : (h : Holds) (m : RawMessage) (ms : List RawMessage) → after_reading (after_reading h (m ∷ [])) ms ≡ after_reading h (m ∷ ms)
after-more Nothing m ms = refl
after-more Request m ms = by (is_ready m)
  where
    by : (b : Bool) → after_reading (request_behind (b || false)) ms ≡ request_behind (b || list_any is_ready ms)
    by true = refl
    by false = refl

still-gone : (h : Holds) (m : RawMessage) → IsLetGo h → IsLetGo (after_reading h (m ∷ []))
still-gone Nothing m k = tt
still-gone Request m k = absurd k

-- it lets them go with one message more
fed-one : {T : Type 0} (h : Holds) (m : RawMessage) (d : Dialogue T) → LetsGo h d → LetsGo (after_reading h (m ∷ [])) (feed_one m d)
fed-one h m (Answer r) k = still-gone h m k
fed-one h m (Ask copying part d) k = (still-gone h m k.0, k.1)
fed-one h m (Send part refused d) k = (λ e. fed-one h m (refused e) (k.0 e), fed-one h m d k.1)
fed-one h m (Leave id d) k = fed-one h m d k
fed-one {T} h m (Read cleanup decides next) k = by (decides (m ∷ [])) refl
  where
    by : (b : Bool) → decides (m ∷ []) ≡ b → LetsGo (after_reading h (m ∷ [])) (if b then next (m ∷ []) else Read cleanup (λ ms. decides (m ∷ ms)) (λ ms. next (m ∷ ms)))
    by true e = k (m ∷ []) e
    by false e = λ ms f. subst (λ (x : Holds). LetsGo x (next (m ∷ ms))) (sym (after-more h m ms)) (k (m ∷ ms) f)
fed-one h m (Put cleanup part d) k = fed-one h m d k
fed-one h m (Finish part d) k = fed-one h m d k
fed-one h m (Close part d) k = fed-one h m d k
fed-one h m (HangUp d) k = k
fed-one h m (Call q refused next) k = (λ e. fed-one h m (refused e) (k.0 e), λ r f. fed-one h m (next r) (k.1 r f))
fed-one h m (Hear next) k = λ r. fed-one h m (next r) (k r)

-- and with several
pub fed-all : {T : Type 0} (h : Holds) (ms : List RawMessage) (d : Dialogue T) → LetsGo h d → LetsGo (after_reading h ms) (feed ms d)
fed-all {T} h [] d k = subst (λ (x : Holds). LetsGo x d) (sym (after-none h)) k
fed-all {T} h (m ∷ ms) d k = subst (λ (x : Holds). LetsGo x (feed ms (feed_one m d))) (after-more h m ms) (fed-all (after_reading h (m ∷ [])) ms (feed_one m d) (fed-one h m d k))

-- ---- events

-- a request that was sent is hung up behind
abbrev IsLeft : {T : Type 0} → Dialogue T → List Deed → Type 0
IsLeft (Leave sent d) ds = IsLetGoIn sent ds
IsLeft _ ds = Unit {0}

-- what is let go from here on
record Goes-free {T : Type 0} (h : Holds) (d : Dialogue T) (id : ℕ) (ds : List Deed) : Type 0 where
  own : IsHeld h → IsLetGoIn id ds
  sent : IsLeft d ds
  all : AllLetGo ds

free-here : {T : Type 0} (h : Holds) (id : ℕ) (r : Result T Error) → IsLetGo h → Goes-free h (Answer r) id []
free-here Nothing id r k = record { own = λ no. absurd no; sent = tt; all = tt }
free-here Request id r k = absurd k

not-held : (h : Holds) (A : Type 0) → IsLetGo h → IsHeld h → A
not-held Nothing A k f = absurd f
not-held Request A k f = absurd k

same-id : (which id : ℕ) → which ≡ id → which == id ≡ true
same-id which id e = grind (arith, nat_tests)

-- a batch that is taken
taken-free : (h : Holds) (which id : ℕ) (ms : List RawMessage) (ds : List Deed) → which ≡ id → (IsHeld (after_reading h ms) → IsLetGoIn id ds) → IsHeld h →
    ((which == id) && list_any is_ready ms ≡ true) ⊎ IsLetGoIn id ds
taken-free Nothing which id ms ds e later f = absurd f
taken-free Request which id ms ds e later f = by (which == id) (list_any is_ready ms) (same-id which id e) later
  where
    by : (b c : Bool) → b ≡ true → (IsHeld (request_behind c) → IsLetGoIn id ds) → (b && c ≡ true) ⊎ IsLetGoIn id ds
    by true true e later = inl refl
    by true false e later = inr (later tt)
    by false c e later = absurd cc

told-books-none : (q : DeskCall) (e : Event) (r : Result Reply DeskFault) (ds : List Deed) → Told q e r → LetsGoBehind e ds
told-books-none desk_call.NextStatement (call.NextStatement (Ok n)) r ds t = tt
told-books-none desk_call.NextStatement (call.NextStatement (Err fault.Encode)) r ds t = tt
told-books-none desk_call.NextStatement (call.NextStatement (Err fault.Closed)) r ds t = tt
told-books-none desk_call.NextStatement (call.NextStatement (Err fault.OutOfMemory)) r ds t = tt
told-books-none desk_call.NextPortal (call.NextPortal (Ok n)) r ds t = tt
told-books-none desk_call.NextPortal (call.NextPortal (Err fault.Encode)) r ds t = tt
told-books-none desk_call.NextPortal (call.NextPortal (Err fault.Closed)) r ds t = tt
told-books-none desk_call.NextPortal (call.NextPortal (Err fault.OutOfMemory)) r ds t = tt
told-books-none q (call.Catalog c) r ds t = tt
told-books-none q e r ds t = absurd t

-- a reply fits where that one does which it is
fits-as : (q : DeskCall) (r x : Reply) → r ≡ x → fits q x ≡ true → fits q r ≡ true
fits-as q r x same f = ap (fits q) same ∙ f

catalog-fits : (c : CatalogCall) (r : Reply) → Ok r ≡ reply_of c → fits (question_of c) r ≡ true
catalog-fits (catalog.TypeOf oid (Ok found)) r t = let same : r ≡ reply.Type found = cc in fits-as (desk_call.TypeOf oid) r (reply.Type found) same refl
catalog-fits (catalog.TypeOf oid (Err e)) r t = absurd cc
catalog-fits (catalog.SetType oid ty (Ok x)) r t = let same : r ≡ reply.Type (Some ty) = cc in fits-as (desk_call.SetType oid ty) r (reply.Type (Some ty)) same refl
catalog-fits (catalog.SetType oid ty (Err e)) r t = absurd cc
catalog-fits (catalog.ClearTypes (Ok x)) r t = let same : r ≡ reply.Cleared = cc in fits-as desk_call.ClearTypes r reply.Cleared same refl
catalog-fits (catalog.ClearTypes (Err e)) r t = absurd cc
catalog-fits (catalog.LookupOf which (Ok found)) r t = let same : r ≡ reply.Statement found = cc in fits-as (desk_call.LookupOf which) r (reply.Statement found) same refl
catalog-fits (catalog.LookupOf which (Err e)) r t = absurd cc
catalog-fits (catalog.SetLookup which s (Ok x)) r t = let same : r ≡ reply.Statement (Some s) = cc in fits-as (desk_call.SetLookup which s) r (reply.Statement (Some s)) same refl
catalog-fits (catalog.SetLookup which s (Err e)) r t = absurd cc

-- a desk tells what may be told of that
pub told-fits : (q : DeskCall) (e : Event) (r : Reply) → Told q e (Ok r) → fits q r ≡ true
told-fits desk_call.NextStatement (call.NextStatement (Ok n)) r t = let same : r ≡ reply.Number n = cc in fits-as desk_call.NextStatement r (reply.Number n) same refl
told-fits desk_call.NextStatement (call.NextStatement (Err fault.Encode)) r t = let same : r ≡ reply.Spent = cc in fits-as desk_call.NextStatement r reply.Spent same refl
told-fits desk_call.NextStatement (call.NextStatement (Err fault.Closed)) r t = absurd cc
told-fits desk_call.NextStatement (call.NextStatement (Err fault.OutOfMemory)) r t = absurd cc
told-fits desk_call.NextPortal (call.NextPortal (Ok n)) r t = let same : r ≡ reply.Number n = cc in fits-as desk_call.NextPortal r (reply.Number n) same refl
told-fits desk_call.NextPortal (call.NextPortal (Err fault.Encode)) r t = let same : r ≡ reply.Spent = cc in fits-as desk_call.NextPortal r reply.Spent same refl
told-fits desk_call.NextPortal (call.NextPortal (Err fault.Closed)) r t = absurd cc
told-fits desk_call.NextPortal (call.NextPortal (Err fault.OutOfMemory)) r t = absurd cc
told-fits q (call.Catalog c) r t = ap (λ (x : DeskCall). fits x r) t.0 ∙ catalog-fits c r t.1
told-fits q e r t = absurd t

after-free : {T : Type 0} (h : Holds) (q : DeskCall) (e : Event) (r : Result Reply DeskFault) (refused : Error → Dialogue T) (next : Reply → Dialogue T) → Told q e r →
    ((e : Error) → LetsGo h (refused e)) → ((r : Reply) → fits q r ≡ true → LetsGo h (next r)) → LetsGo h (after_reply r refused next)
after-free h q e (Ok x) refused next t k f = f x (told-fits q e x t)
after-free h q e (Err fault) refused next t k f = k (of_fault fault)

-- the life goes on from a dialogue behind an event
abbrev Later : {T : Type 0} → List Deed → Dialogue T → ℕ → Type 0
Later {T} ds q end = (h : Holds) (d : Dialogue T) (id : ℕ) → LetsGo h d → Leads d id ds q end → Goes-free h d id ds

-- where want of memory isn't the answer, it wasn't answered here
memory-not : {T : Type 0} (e : DeskFault) (id : ℕ) (ds : List Deed) (q : Dialogue T) (end : ℕ) (r : Result T Error) → e ≡ fault.OutOfMemory → q ≡ Answer r → (r ≡ Err OutOfMemory → ⊥) →
    Leads (Answer (Err (of_fault e))) id ds q end → ⊥
memory-not {T} e id ds q end r lacks is none l =
    let k = stays-answered (Err (of_fault e)) id ds q end l in
    let same : Answer r ≡ Answer (Err (of_fault e)) = sym is ∙ k.1 in
    let that : r ≡ Err (of_fault e) = cc in
    none (that ∙ ap (λ (x : DeskFault). let y : Result T Error = Err (of_fault x) in y) lacks)

step : {T : Type 0} (h : Holds) (d : Dialogue T) (id : ℕ) (stamp : Stamp) (e : Event) (ds : List Deed) (q : Dialogue T) (end : ℕ) (r : Result T Error) →
    q ≡ Answer r → (r ≡ Err OutOfMemory → ⊥) → IsOwed e → Later ds q end → LetsGo h d → Leads d id (record { stamp = stamp; event = e } ∷ ds) q end →
    Goes-free h d id (record { stamp = stamp; event = e } ∷ ds)
step h (Ask copying part d) id stamp (call.Book stamp' part' copying' (Ok new)) ds q end r is none owed later k (mid, n, s, l) =
    let f = later Request d new k.1 (moved _ mid new n ds q end s.3 s.4 l) in
    record { own = λ held. not-held h _ k.0 held; sent = tt; all = (f.own tt, f.all) }
step {T} h (Ask copying part d) id stamp (call.Book stamp' part' copying' (Err fault)) ds q end r is none owed later k (mid, n, s, l) =
    let f = later h (Answer (Err (of_fault fault))) id k.0 (moved _ mid id n ds q end s.3 s.4 l) in
    record { own = λ held. not-held h _ k.0 held; sent = tt; all = (tt, f.all) }
step h (Send part refused d) id stamp (call.Book stamp' part' copying (Ok new)) ds q end r is none owed later k (mid, n, s, l) =
    let f = later h (Leave new d) id k.1 (moved _ mid id n ds q end s.3 s.4 l) in
    record { own = λ held. inr (f.own held); sent = tt; all = (f.sent, f.all) }
step h (Send part refused d) id stamp (call.Book stamp' part' copying (Err fault)) ds q end r is none owed later k (mid, n, s, l) =
    let f = later h (refused (of_fault fault)) id (k.0 (of_fault fault)) (moved _ mid id n ds q end s.3 s.4 l) in
    record { own = λ held. inr (f.own held); sent = tt; all = (tt, f.all) }
step h (Leave sent d) id stamp (call.HangUp which (Ok x)) ds q end r is none owed later k (mid, n, s, l) =
    let f = later h d id k (moved _ mid id n ds q end s.1 s.2 l) in
    record { own = λ held. inr (f.own held); sent = inl (same-id which sent s.0); all = (tt, f.all) }
step h (Leave sent d) id stamp (call.HangUp which (Err fault)) ds q end r is none owed later k (mid, n, s, l) =
    absurd (memory-not fault id ds q end r owed is none (moved _ mid id n ds q end s.1 s.2 l))
step h (Read cleanup decides next) id stamp (call.Take which (Ok (taking.Batch ms))) ds q end r is none owed later k (mid, n, s, l) =
    let f = later (after_reading h ms) (feed ms (Read cleanup decides next)) id (fed-all h ms (Read cleanup decides next) k) (moved _ mid id n ds q end s.1 s.2 l) in
    record { own = taken-free h which id ms ds s.0 f.own; sent = tt; all = (tt, f.all) }
step h (Read cleanup decides next) id stamp (call.Take which (Ok taking.Empty)) ds q end r is none owed later k (mid, n, s, l) =
    let f = later h (Read cleanup decides next) id k (moved _ mid id n ds q end s.1 s.2 l) in
    record { own = λ held. inr (f.own held); sent = tt; all = (tt, f.all) }
step h (Read cleanup decides next) id stamp (call.Take which (Ok taking.Over)) ds q end r is none owed later k (mid, n, s, l) =
    let f = later Nothing (Answer (Err Closed)) id tt (moved _ mid id n ds q end s.1 s.2 l) in
    record { own = λ held. inl (same-id which id s.0); sent = tt; all = (tt, f.all) }
step h (Read cleanup decides next) id stamp (call.Take which (Ok taking.Gone)) ds q end r is none owed later k (mid, n, s, l) =
    let f = later Request (HangUp (Answer (Err Closed))) id tt (moved _ mid id n ds q end s.1 s.2 l) in
    record { own = λ held. inr (f.own tt); sent = tt; all = (tt, f.all) }
step h (Read cleanup decides next) id stamp (call.Take which (Err fault)) ds q end r is none owed later k (mid, n, s, l) =
    absurd (memory-not fault id ds q end r owed is none (moved _ mid id n ds q end s.1 s.2 l))
step h (Put cleanup part d) id stamp (call.Put which part' putting.Took) ds q end r is none owed later k (mid, n, s, l) =
    let f = later h d id k (moved _ mid id n ds q end s.2 s.3 l) in
    record { own = λ held. inr (f.own held); sent = tt; all = (tt, f.all) }
step h (Put cleanup part d) id stamp (call.Put which part' (putting.Full back)) ds q end r is none owed later k (mid, n, s, l) =
    let f = later h (Put cleanup part d) id k (moved _ mid id n ds q end s.2 s.3 l) in
    record { own = λ held. inr (f.own held); sent = tt; all = (tt, f.all) }
step h (Put cleanup part d) id stamp (call.Put which part' (putting.Gone back)) ds q end r is none owed later k (mid, n, s, l) =
    let f = later Request (HangUp (Answer (Err Closed))) id tt (moved _ mid id n ds q end s.2 s.3 l) in
    record { own = λ held. inr (f.own tt); sent = tt; all = (tt, f.all) }
step h (Put cleanup part d) id stamp (call.Put which part' (putting.OutOfMemory back)) ds q end r is none owed later k (mid, n, s, l) =
    absurd (memory-not fault.OutOfMemory id ds q end r refl is none (moved _ mid id n ds q end s.2 s.3 l))
step h (Finish part d) id stamp (call.EndCopy which part' putting.Took) ds q end r is none owed later k (mid, n, s, l) =
    let f = later h d id k (moved _ mid id n ds q end s.2 s.3 l) in
    record { own = λ held. inr (f.own held); sent = tt; all = (tt, f.all) }
step h (Finish part d) id stamp (call.EndCopy which part' (putting.Gone back)) ds q end r is none owed later k (mid, n, s, l) =
    let f = later Request (HangUp (Answer (Err Closed))) id tt (moved _ mid id n ds q end s.2 s.3 l) in
    record { own = λ held. inr (f.own tt); sent = tt; all = (tt, f.all) }
step h (Finish part d) id stamp (call.EndCopy which part' (putting.OutOfMemory back)) ds q end r is none owed later k (mid, n, s, l) =
    absurd (memory-not fault.OutOfMemory id ds q end r refl is none (moved _ mid id n ds q end s.2 s.3 l))
step h (Close part d) id stamp (call.EndCopy which part' putting.Took) ds q end r is none owed later k (mid, n, s, l) =
    let f = later h d id k (moved _ mid id n ds q end s.2 s.3 l) in
    record { own = λ held. inr (f.own held); sent = tt; all = (tt, f.all) }
step h (Close part d) id stamp (call.EndCopy which part' (putting.Gone back)) ds q end r is none owed later k (mid, n, s, l) =
    let f = later h d id k (moved _ mid id n ds q end s.2 s.3 l) in
    record { own = λ held. inr (f.own held); sent = tt; all = (tt, f.all) }
step h (Close part d) id stamp (call.EndCopy which part' (putting.OutOfMemory back)) ds q end r is none owed later k (mid, n, s, l) =
    absurd (memory-not fault.OutOfMemory id ds q end r refl is none (moved _ mid id n ds q end s.2 s.3 l))
step h (HangUp d) id stamp (call.HangUp which (Ok x)) ds q end r is none owed later k (mid, n, s, l) =
    let f = later Nothing d id k (moved _ mid id n ds q end s.1 s.2 l) in
    record { own = λ held. inl (same-id which id s.0); sent = tt; all = (tt, f.all) }
step h (HangUp d) id stamp (call.HangUp which (Err fault)) ds q end r is none owed later k (mid, n, s, l) =
    absurd (memory-not fault id ds q end r owed is none (moved _ mid id n ds q end s.1 s.2 l))
step h (Call q' refused next) id stamp e ds q end r is none owed later k (mid, n, s, l) =
    let f = later h (after_reply s.0 refused next) id (after-free h q' e s.0 refused next s.1 k.0 k.1) (moved _ mid id n ds q end s.2 s.3 l) in
    record { own = λ held. inr (f.own held); sent = tt; all = (told-books-none q' e s.0 ds s.1, f.all) }
step h d id stamp e ds q end r is none owed later k l = absurd l.2

leads-free : {T : Type 0} (ds : List Deed) (q : Dialogue T) (end : ℕ) (r : Result T Error) → q ≡ Answer r → (r ≡ Err OutOfMemory → ⊥) → AllOwed ds → Later ds q end
leads-free {T} [] q end r is none owed h d id k l =
    let same : Answer r ≡ d = sym is ∙ l.0 in
    subst (λ (x : Dialogue T). Goes-free h x id []) same (free-here h id r (subst (λ (x : Dialogue T). LetsGo h x) (sym same) k))
leads-free (a ∷ ds) q end r is none owed h d id k l =
    step h d id a.stamp a.event ds q end r is none owed.0 (leads-free ds q end r is none owed.1) k l

-- A life that ended in an answer other than want of memory.
pub life-lets-go : {T : Type 0} (p : Place T) (ts : List Turn) (q : Place T) (r : Result T Error) → LetsGo Nothing p.dialogue → Lives p ts q → q.dialogue ≡ Answer r →
    (r ≡ Err OutOfMemory → ⊥) → AllOwed (deeds ts) → AllLetGo (deeds ts)
life-lets-go p ts q r k l is none owed =
    (leads-free (deeds ts) q.dialogue q.reads r is none owed Nothing p.dialogue p.reads k (lives-lead p ts q l)).all
