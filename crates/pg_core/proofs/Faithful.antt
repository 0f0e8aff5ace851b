-- Where an open hub refuses a command a booking or a question, memory lacked, and a faithful command answers that.
use Rattle.std.proofs.Common.{◌≡◌, ◌⊎◌, inl, inr, ℕ, ◌||◌, List, [], ◌∷◌, Bool, true, false, if◌then◌else◌, Option, Some, Result, Ok, Err, refl, sym, ap, subst, ◌∙◌}
use Rattle.pg_spec.specs.RawMessages.{RawMessage}
use Rattle.pg_spec.specs.declared.stamps.Stamp.{Stamp}
use Rattle.pg_desk.specs.declared.event.DeskFault.{DeskFault}
use Rattle.pg_desk.specs.declared.event.DeskFault.TheVariants as fault
use Rattle.pg_desk.specs.declared.event.Put.TheVariants as putting
use Rattle.pg_desk.specs.declared.event.Take.TheVariants as taking
use Rattle.pg_desk.specs.declared.event.Event.{Event}
use Rattle.pg_desk.specs.declared.event.Event.TheVariants.{Book, Put as PutEvent, EndCopy, Take as TakeEvent, HangUp, NextStatement, NextPortal, Catalog as CatalogEvent}
use Rattle.pg_desk.specs.declared.event.CatalogCall.{CatalogCall}
use Rattle.pg_desk.specs.declared.event.CatalogCall.TheVariants as catalog
use Rattle.pg_desk.specs.Catalog.{type_kept, statement_kept, AllowsUnlessFailed, AllowsCatalog}
use Rattle.pg_types.specs.declared.pg_type.PgType.{PgType}
use Rattle.pg_desk.specs.declared.statement.Described.{Described as Statement}
use Rattle.pg_desk.specs.History.{State, Change, ClosedAll, FailedAll, change_of, changed, after, after_all, ended, Allows, IsLegal}
use Rattle.pg_types.specs.declared.error.Error.{Error}
use Rattle.pg_types.specs.declared.error.Error.TheVariants.{OutOfMemory}
use Rattle.pg_query.specs.Faults.{of_fault}
use Rattle.pg_query.proofs.LeavingLaws.{told-fits}
use Rattle.pg_query.specs.Dialogue as code
use Rattle.pg_query.specs.Dialogue.{Dialogue, Answer, feed, feed_one, after_reply, question_of, as_reply, reply_of, Told, Steps}
use Rattle.pg_query.specs.Lives.{Deed, Leads}
use Rattle.pg_query.specs.Meaning.{Place}
use Rattle.pg_query.specs.Scripts.{IsRead, IsPut}
use Rattle.pg_query.specs.declared.desk_call.DeskCall.{DeskCall}
use Rattle.pg_query.specs.declared.desk_call.DeskCall.TheVariants as desk_call
use Rattle.pg_query.specs.declared.desk_call.Reply.{Reply}
use Rattle.pg_query.specs.declared.desk_call.Reply.TheVariants as reply
use Rattle.pg_core.specs.Deeds.{booked_by, bookings_in, added_by, additions_in, told_as, told_by, answers_in, AreGranted}
use Rattle.pg_core.specs.Lists.{events_of}
use Rattle.pg_core.specs.Times.{LacksMemory, IsFaithful}
use Rattle.pg_core.specs.Trails.{PollEnds, Gave, Pauses, HoldsBack}
use Rattle.pg_core.proofs.Gone.{IsNotGone, NoneGone}
use Rattle.pg_core.proofs.Granted.{granted-joined}

-- ---- messages

lacks-one : {T : Type 0} (m : RawMessage) (d : Dialogue T) → LacksMemory d → LacksMemory (feed_one m d)
lacks-one m (Answer r) h = h
lacks-one m (code.Send p refused d) h = (lacks-one m (refused OutOfMemory) h.0, lacks-one m d h.1)
lacks-one m (code.Leave k d) h = lacks-one m d h
lacks-one m (code.HangUp d) h = h
lacks-one m (code.Ask c p d) h = absurd h
lacks-one m (code.Read cleanup decides next) h = absurd h
lacks-one m (code.Put cleanup p d) h = absurd h
lacks-one m (code.Finish p d) h = absurd h
lacks-one m (code.Close p d) h = lacks-one m d h
lacks-one m (code.Call q refused next) h = absurd h
lacks-one m (code.Hear next) h = absurd h

faithful-one : {T : Type 0} (m : RawMessage) (d : Dialogue T) → IsFaithful d → IsFaithful (feed_one m d)
faithful-one m (Answer r) h = tt
faithful-one m (code.Ask c p d) h = h
faithful-one m (code.Send p refused d) h = (lacks-one m (refused OutOfMemory) h.0, faithful-one m d h.1)
faithful-one m (code.Leave k d) h = faithful-one m d h
faithful-one {T} m (code.Read cleanup decides next) h = by (decides (m ∷ []))
  where
    by : (b : Bool) → IsFaithful (if b then next (m ∷ []) else code.Read cleanup (λ ms. decides (m ∷ ms)) (λ ms. next (m ∷ ms)))
    by true = h (m ∷ [])
    by false = λ ms. h (m ∷ ms)
faithful-one m (code.Put cleanup p d) h = faithful-one m d h
faithful-one m (code.Finish p d) h = faithful-one m d h
faithful-one m (code.Close p d) h = faithful-one m d h
faithful-one m (code.HangUp d) h = h
faithful-one m (code.Call q refused next) h = (lacks-one m (refused OutOfMemory) h.0, λ r fit. faithful-one m (next r) (h.1 r fit))
faithful-one m (code.Hear next) h = tt

faithful-fed : {T : Type 0} (ms : List RawMessage) (d : Dialogue T) → IsFaithful d → IsFaithful (feed ms d)
faithful-fed [] d h = h
faithful-fed (m ∷ ms) d h = faithful-fed ms (feed_one m d) (faithful-one m d h)

-- ---- a hub that ended stays so

stays-by : (s : State) (c : Change) → ended s ≡ true → ended (changed s c) ≡ true
stays-by s ClosedAll h = refl
stays-by s FailedAll h = or-true s.closed
  where
    or-true : (b : Bool) → (b || true) ≡ true
    or-true true = refl
    or-true false = refl
stays-by s c h = h

stays-ended : (s : State) (es : List Event) → ended s ≡ true → ended (after_all s es) ≡ true
stays-ended s [] h = h
stays-ended s (e ∷ es) h = stays-ended (after s e) es (stays-by s (change_of e) h)

-- so one that is open at last was open
not-ended : (s : State) (es : List Event) → ended (after_all s es) ≡ false → ended s ≡ true → ⊥
not-ended s es open_ h = let no_way : true ≡ false = sym (stays-ended s es h) ∙ open_ in absurd cc

failed-ends : (s : State) → s.failed ≡ true → ended s ≡ true
failed-ends s h = ap (λ (b : Bool). s.closed || b) h ∙ or-true s.closed
  where
    or-true : (b : Bool) → (b || true) ≡ true
    or-true true = refl
    or-true false = refl

-- nor had it failed before
pub was-whole : (s : State) (es : List Event) → ended (after_all s es) ≡ false → s.failed ≡ false
was-whole s es open_ = by s.failed refl
  where
    by : (b : Bool) → s.failed ≡ b → s.failed ≡ false
    by true e = absurd (not-ended s es open_ (failed-ends s e))
    by false e = e

-- ---- one event

-- a booking that an open hub refused
booking-why : (s : State) (stamp : Stamp) (part : List ℕ) (copying : Bool) (f : DeskFault) (es : List Event) → Allows s (Book stamp part copying (Err f)) → ended (after_all s es) ≡ false → of_fault f ≡ OutOfMemory
booking-why s stamp part copying fault.Closed es a open_ = absurd (not-ended s es open_ a)
booking-why s stamp part copying fault.Encode es a open_ = absurd a
booking-why s stamp part copying fault.OutOfMemory es a open_ = refl

-- a call on the catalog that it refused
unless-why : {A : Type 0} (s : State) (P : A → Type 0) (tells : A → Reply) (answer : Result A DeskFault) (f : DeskFault) → Err f ≡ as_reply tells answer → AllowsUnlessFailed s.failed P answer → (s.failed ≡ true → ⊥) → of_fault f ≡ OutOfMemory
unless-why s P tells (Ok x) f t a open_ = absurd cc
unless-why s P tells (Err fault.Closed) f t a open_ = absurd (open_ a)
unless-why s P tells (Err fault.Encode) f t a open_ = absurd a
unless-why s P tells (Err fault.OutOfMemory) f t a open_ = let same : f ≡ fault.OutOfMemory = cc in ap of_fault same

catalog-why : (s : State) (c : CatalogCall) (f : DeskFault) → Err f ≡ reply_of c → AllowsCatalog s.failed s.catalog c → (s.failed ≡ true → ⊥) → of_fault f ≡ OutOfMemory
catalog-why s (catalog.TypeOf oid answer) f t a open_ = unless-why s (λ (found : Option PgType). found ≡ type_kept s.catalog oid) reply.Type answer f t a open_
catalog-why s (catalog.SetType oid ty answer) f t a open_ = unless-why s (λ (x : Unit {0}). Unit {0}) (λ x. reply.Type (Some ty)) answer f t a open_
catalog-why s (catalog.ClearTypes answer) f t a open_ = unless-why s (λ (x : Unit {0}). Unit {0}) (λ x. reply.Cleared) answer f t a open_
catalog-why s (catalog.LookupOf which answer) f t a open_ = unless-why s (λ (found : Option Statement). found ≡ statement_kept s.catalog which) reply.Statement answer f t a open_
catalog-why s (catalog.SetLookup which statement answer) f t a open_ = unless-why s (λ (x : Unit {0}). Unit {0}) (λ x. reply.Statement (Some statement)) answer f t a open_

-- a question that it refused
question-why : (s : State) (q : DeskCall) (e : Event) (f : DeskFault) (es : List Event) → Told q e (Err f) → Allows s e → ended (after_all (after s e) es) ≡ false → of_fault f ≡ OutOfMemory
question-why s desk_call.NextStatement (NextStatement (Ok n)) f es t a open_ = absurd cc
question-why s desk_call.NextStatement (NextStatement (Err fault.Encode)) f es t a open_ = absurd cc
question-why s desk_call.NextStatement (NextStatement (Err fault.Closed)) f es t a open_ = absurd (not-ended s es open_ (failed-ends s a))
question-why s desk_call.NextStatement (NextStatement (Err fault.OutOfMemory)) f es t a open_ = let same : f ≡ fault.OutOfMemory = cc in ap of_fault same
question-why s desk_call.NextPortal (NextPortal (Ok n)) f es t a open_ = absurd cc
question-why s desk_call.NextPortal (NextPortal (Err fault.Encode)) f es t a open_ = absurd cc
question-why s desk_call.NextPortal (NextPortal (Err fault.Closed)) f es t a open_ = absurd (not-ended s es open_ (failed-ends s a))
question-why s desk_call.NextPortal (NextPortal (Err fault.OutOfMemory)) f es t a open_ = let same : f ≡ fault.OutOfMemory = cc in ap of_fault same
question-why s q (CatalogEvent c) f es t a open_ = catalog-why s c f t.1 a (λ failed. not-ended (after s (CatalogEvent c)) es open_ (failed-ends s failed))
question-why s q e f es t a open_ = absurd t

-- one that is told was granted
told-granted : (stamp : Stamp) (q : DeskCall) (e : Event) (r : Reply) → Told q e (Ok r) → AreGranted (booked_by e) × AreGranted (told_by stamp e) × AreGranted (added_by e)
told-granted stamp desk_call.NextStatement (NextStatement (Ok n)) r t = (tt, tt, tt)
told-granted stamp desk_call.NextStatement (NextStatement (Err fault.Encode)) r t = (tt, tt, tt)
told-granted stamp desk_call.NextStatement (NextStatement (Err fault.Closed)) r t = absurd cc
told-granted stamp desk_call.NextStatement (NextStatement (Err fault.OutOfMemory)) r t = absurd cc
told-granted stamp desk_call.NextPortal (NextPortal (Ok n)) r t = (tt, tt, tt)
told-granted stamp desk_call.NextPortal (NextPortal (Err fault.Encode)) r t = (tt, tt, tt)
told-granted stamp desk_call.NextPortal (NextPortal (Err fault.Closed)) r t = absurd cc
told-granted stamp desk_call.NextPortal (NextPortal (Err fault.OutOfMemory)) r t = absurd cc
told-granted stamp q (CatalogEvent c) r t = (tt, subst (λ (x : Result Reply DeskFault). AreGranted (told_as stamp (question_of c) x)) t.1 tt, tt)
told-granted stamp q e r t = absurd t

-- nothing was refused by this event and it is faithful still, or memory lacked
data Stays {T : Type 0} (stamp : Stamp) (e : Event) (d : Dialogue T) : Type 0 where
  Faithful : AreGranted (booked_by e) → AreGranted (told_by stamp e) → AreGranted (added_by e) → IsFaithful d → Stays stamp e d
  Lacks : LacksMemory d → Stays stamp e d

faithful : {T : Type 0} (d d' : Dialogue T) → d' ≡ d → IsFaithful d → IsFaithful d'
faithful {T} d d' is h = subst (λ (x : Dialogue T). IsFaithful x) (sym is) h

answers-so : {T : Type 0} (d' : Dialogue T) (x : Error) → d' ≡ Answer (Err x) → x ≡ OutOfMemory → LacksMemory d'
answers-so {T} d' x is same = subst (λ (y : Dialogue T). LacksMemory y) (sym is) (ap (λ (y : Error). let r : Result T Error = Err y in r) same)

goes-so : {T : Type 0} (refused : Error → Dialogue T) (d' : Dialogue T) (x : Error) → d' ≡ refused x → x ≡ OutOfMemory → LacksMemory (refused OutOfMemory) → LacksMemory d'
goes-so {T} refused d' x is same h = subst (λ (y : Dialogue T). LacksMemory y) (sym (is ∙ ap refused same)) h

step : {T : Type 0} (s : State) (stamp : Stamp) (d : Dialogue T) (id : ℕ) (e : Event) (d' : Dialogue T) (id' : ℕ) (es : List Event) → IsFaithful d → Allows s e → IsNotGone e → ended (after_all (after s e) es) ≡ false → Steps stamp d id e d' id' → Stays stamp e d'
step s stamp (Answer r) id e d' id' es h a not open_ st = absurd st
step s stamp (code.Ask c p d) id (Book given part copying (Ok new)) d' id' es h a not open_ st = Faithful tt tt tt (faithful d d' st.3 h)
step s stamp (code.Ask c p d) id (Book given part copying (Err f)) d' id' es h a not open_ st = Lacks (answers-so d' (of_fault f) st.3 (booking-why s given part copying f es a open_))
step s stamp (code.Ask c p d) id e d' id' es h a not open_ st = absurd st
step s stamp (code.Send p refused d) id (Book given part copying (Ok new)) d' id' es h a not open_ st = Faithful tt tt tt (faithful (code.Leave new d) d' st.3 h.1)
step s stamp (code.Send p refused d) id (Book given part copying (Err f)) d' id' es h a not open_ st = Lacks (goes-so refused d' (of_fault f) st.3 (booking-why s given part copying f es a open_) h.0)
step s stamp (code.Send p refused d) id e d' id' es h a not open_ st = absurd st
step s stamp (code.Leave sent d) id (HangUp which (Ok x)) d' id' es h a not open_ st = Faithful tt tt tt (faithful d d' st.1 h)
step s stamp (code.Leave sent d) id (HangUp which (Err f)) d' id' es h a not open_ st = Lacks (answers-so d' (of_fault f) st.1 (ap of_fault a))
step s stamp (code.Leave sent d) id e d' id' es h a not open_ st = absurd st
step s stamp (code.Read cleanup decides next) id (TakeEvent which (Ok (taking.Batch ms))) d' id' es h a not open_ st =
    Faithful tt tt tt (faithful (feed ms (code.Read cleanup decides next)) d' st.1 (faithful-fed ms (code.Read cleanup decides next) h))
step s stamp (code.Read cleanup decides next) id (TakeEvent which (Ok taking.Empty)) d' id' es h a not open_ st = Faithful tt tt tt (faithful (code.Read cleanup decides next) d' st.1 h)
step s stamp (code.Read cleanup decides next) id (TakeEvent which (Ok taking.Over)) d' id' es h a not open_ st = Faithful tt tt tt (faithful (Answer _) d' st.1 tt)
step s stamp (code.Read cleanup decides next) id (TakeEvent which (Ok taking.Gone)) d' id' es h a not open_ st = Faithful tt tt tt (faithful (code.HangUp (Answer _)) d' st.1 tt)
step s stamp (code.Read cleanup decides next) id (TakeEvent which (Err f)) d' id' es h a not open_ st = Lacks (answers-so d' (of_fault f) st.1 (ap of_fault a))
step s stamp (code.Read cleanup decides next) id e d' id' es h a not open_ st = absurd st
step s stamp (code.Put cleanup p d) id (PutEvent which part putting.Took) d' id' es h a not open_ st = Faithful tt tt tt (faithful d d' st.2 h)
step s stamp (code.Put cleanup p d) id (PutEvent which part (putting.Full back)) d' id' es h a not open_ st = Faithful tt tt tt (faithful (code.Put cleanup p d) d' st.2 h)
step s stamp (code.Put cleanup p d) id (PutEvent which part (putting.Gone back)) d' id' es h a not open_ st = absurd not
step s stamp (code.Put cleanup p d) id (PutEvent which part (putting.OutOfMemory back)) d' id' es h a not open_ st = Lacks (answers-so d' OutOfMemory st.2 refl)
step s stamp (code.Put cleanup p d) id e d' id' es h a not open_ st = absurd st
step s stamp (code.Finish p d) id (EndCopy which part putting.Took) d' id' es h a not open_ st = Faithful tt tt tt (faithful d d' st.2 h)
step s stamp (code.Finish p d) id (EndCopy which part (putting.Gone back)) d' id' es h a not open_ st = absurd not
step s stamp (code.Finish p d) id (EndCopy which part (putting.OutOfMemory back)) d' id' es h a not open_ st = Lacks (answers-so d' OutOfMemory st.2 refl)
step s stamp (code.Finish p d) id e d' id' es h a not open_ st = absurd st
step s stamp (code.Close p d) id (EndCopy which part putting.Took) d' id' es h a not open_ st = Faithful tt tt tt (faithful d d' st.2 h)
step s stamp (code.Close p d) id (EndCopy which part (putting.Gone back)) d' id' es h a not open_ st = absurd not
step s stamp (code.Close p d) id (EndCopy which part (putting.OutOfMemory back)) d' id' es h a not open_ st = Lacks (answers-so d' OutOfMemory st.2 refl)
step s stamp (code.Close p d) id e d' id' es h a not open_ st = absurd st
step s stamp (code.HangUp d) id (HangUp which (Ok x)) d' id' es h a not open_ st = Faithful tt tt tt (faithful d d' st.1 h)
step s stamp (code.HangUp d) id (HangUp which (Err f)) d' id' es h a not open_ st = Lacks (answers-so d' (of_fault f) st.1 (ap of_fault a))
step s stamp (code.HangUp d) id e d' id' es h a not open_ st = absurd st
step s stamp (code.Call q refused next) id e d' id' es h a not open_ (Ok r, told, is, same) = let g = told-granted stamp q e r told in Faithful g.0 g.1 g.2 (faithful (next r) d' is (h.1 r (told-fits q e r told)))
step s stamp (code.Call q refused next) id e d' id' es h a not open_ (Err f, told, is, same) = Lacks (goes-so refused d' (of_fault f) is (question-why s q e f es told a open_) h.0)
step s stamp (code.Hear next) id e d' id' es h a not open_ st = absurd st

lacks-step : {T : Type 0} (s : State) (stamp : Stamp) (d : Dialogue T) (id : ℕ) (e : Event) (d' : Dialogue T) (id' : ℕ) (es : List Event) → LacksMemory d → Allows s e → ended (after_all (after s e) es) ≡ false → Steps stamp d id e d' id' → LacksMemory d'
lacks-step s stamp (Answer r) id e d' id' es h a open_ st = absurd st
lacks-step {T} s stamp (code.Send p refused d) id (Book given part copying (Ok new)) d' id' es h a open_ st = subst (λ (x : Dialogue T). LacksMemory x) (sym st.3) h.1
lacks-step s stamp (code.Send p refused d) id (Book given part copying (Err f)) d' id' es h a open_ st = goes-so refused d' (of_fault f) st.3 (booking-why s given part copying f es a open_) h.0
lacks-step s stamp (code.Send p refused d) id e d' id' es h a open_ st = absurd st
lacks-step {T} s stamp (code.Leave sent d) id (HangUp which (Ok x)) d' id' es h a open_ st = subst (λ (x : Dialogue T). LacksMemory x) (sym st.1) h
lacks-step s stamp (code.Leave sent d) id (HangUp which (Err f)) d' id' es h a open_ st = answers-so d' (of_fault f) st.1 (ap of_fault a)
lacks-step s stamp (code.Leave sent d) id e d' id' es h a open_ st = absurd st
lacks-step {T} s stamp (code.HangUp d) id (HangUp which (Ok x)) d' id' es h a open_ st = subst (λ (x : Dialogue T). LacksMemory x) (sym st.1) h
lacks-step s stamp (code.HangUp d) id (HangUp which (Err f)) d' id' es h a open_ st = answers-so d' (of_fault f) st.1 (ap of_fault a)
lacks-step s stamp (code.HangUp d) id e d' id' es h a open_ st = absurd st
lacks-step s stamp (code.Ask c p d) id e d' id' es h a open_ st = absurd h
lacks-step s stamp (code.Read cleanup decides next) id e d' id' es h a open_ st = absurd h
lacks-step s stamp (code.Put cleanup p d) id e d' id' es h a open_ st = absurd h
lacks-step s stamp (code.Finish p d) id e d' id' es h a open_ st = absurd h
lacks-step {T} s stamp (code.Close p d) id (EndCopy which part putting.Took) d' id' es h a open_ st = subst (λ (x : Dialogue T). LacksMemory x) (sym st.2) h
lacks-step {T} s stamp (code.Close p d) id (EndCopy which part (putting.Gone back)) d' id' es h a open_ st = subst (λ (x : Dialogue T). LacksMemory x) (sym st.2) h
lacks-step s stamp (code.Close p d) id (EndCopy which part (putting.OutOfMemory back)) d' id' es h a open_ st = answers-so d' OutOfMemory st.2 refl
lacks-step s stamp (code.Close p d) id e d' id' es h a open_ st = absurd st
lacks-step s stamp (code.Call q refused next) id e d' id' es h a open_ st = absurd h
lacks-step s stamp (code.Hear next) id e d' id' es h a open_ st = absurd h

-- ---- a poll

lacks-walk : {T : Type 0} (s : State) (d : Dialogue T) (id : ℕ) (ds : List Deed) (q : Dialogue T) (end : ℕ) → LacksMemory d → Leads d id ds q end → IsLegal s (events_of ds) → ended (after_all s (events_of ds)) ≡ false → LacksMemory q
lacks-walk {T} s d id [] q end h l legal open_ = subst (λ (x : Dialogue T). LacksMemory x) (sym l.0) h
lacks-walk s d id (a ∷ ds) q end h (mid, n, st, l) legal open_ =
    lacks-walk (after s a.event) mid n ds q end (lacks-step s a.stamp d id a.event mid n (events_of ds) h legal.0 open_ st) l legal.1 open_

-- none of these supplies was refused
abbrev pub AllGranted : List Deed → Type 0
AllGranted ds = AreGranted (bookings_in ds) × AreGranted (answers_in ds) × AreGranted (additions_in ds)

faithful-walk : {T : Type 0} (s : State) (d : Dialogue T) (id : ℕ) (ds : List Deed) (q : Dialogue T) (end : ℕ) → IsFaithful d → NoneGone ds → Leads d id ds q end → IsLegal s (events_of ds) → ended (after_all s (events_of ds)) ≡ false →
    (AllGranted ds × IsFaithful q) ⊎ LacksMemory q
faithful-walk s d id [] q end h none l legal open_ = inl ((tt, tt, tt), faithful d q l.0 h)
faithful-walk s d id (a ∷ ds) q end h none (mid, n, st, l) legal open_ =
    by (step s a.stamp d id a.event mid n (events_of ds) h legal.0 none.0 open_ st) (λ f. faithful-walk (after s a.event) mid n ds q end f none.1 l legal.1 open_)
  where
    rest : AreGranted (booked_by a.event) → AreGranted (told_by a.stamp a.event) → AreGranted (added_by a.event) → (AllGranted ds × IsFaithful q) ⊎ LacksMemory q →
        (AllGranted (a ∷ ds) × IsFaithful q) ⊎ LacksMemory q
    rest b t p (inl ((bs, ts, ps), f)) = inl ((granted-joined (booked_by a.event) (bookings_in ds) b bs, granted-joined (told_by a.stamp a.event) (answers_in ds) t ts, granted-joined (added_by a.event) (additions_in ds) p ps), f)
    rest b t p (inr x) = inr x

    by : Stays a.stamp a.event mid → (IsFaithful mid → (AllGranted ds × IsFaithful q) ⊎ LacksMemory q) → (AllGranted (a ∷ ds) × IsFaithful q) ⊎ LacksMemory q
    by (Faithful b t p f) later = rest b t p (later f)
    by (Lacks x) later = inr (lacks-walk (after s a.event) mid n ds q end x l legal.1 open_)

-- what lacks memory doesn't read
lacks-not-read : {T : Type 0} (d : Dialogue T) → LacksMemory d → IsRead d → ⊥
lacks-not-read (code.Read cleanup decides next) h reads = h
lacks-not-read d h reads = reads

-- nor puts
lacks-not-put : {T : Type 0} (d : Dialogue T) → LacksMemory d → IsPut d → ⊥
lacks-not-put (code.Put cleanup p d) h puts = h
lacks-not-put d h puts = puts

-- A poll of a faithful command, in a legal list of an open hub, where nothing is gone: nothing was refused and it is faithful still, or it answered want
-- of memory.
pub granted-or-lacks : {T : Type 0} (s : State) (p : Place T) (ds : List Deed) (q : Place T) → IsFaithful p.dialogue → NoneGone ds → Leads p.dialogue p.reads ds q.dialogue q.reads → IsLegal s (events_of ds) →
    ended (after_all s (events_of ds)) ≡ false → PollEnds ds q → (AllGranted ds × IsFaithful q.dialogue) ⊎ (q.dialogue ≡ Answer (Err OutOfMemory))
granted-or-lacks {T} s p ds q h none l legal open_ ends = by (faithful-walk s p.dialogue p.reads ds q.dialogue q.reads h none l legal open_)
  where
    answered : PollEnds ds q → LacksMemory q.dialogue → q.dialogue ≡ Answer (Err OutOfMemory)
    answered (Gave r e) x = e ∙ ap (λ (y : Result T Error). Answer y) (subst (λ (y : Dialogue T). LacksMemory y) e x)
    answered (Pauses reads last) x = absurd (lacks-not-read q.dialogue x reads)
    answered (HoldsBack puts last) x = absurd (lacks-not-put q.dialogue x puts)

    by : (AllGranted ds × IsFaithful q.dialogue) ⊎ LacksMemory q.dialogue → (AllGranted ds × IsFaithful q.dialogue) ⊎ (q.dialogue ≡ Answer (Err OutOfMemory))
    by (inl g) = inl g
    by (inr x) = inr (answered ends x)
