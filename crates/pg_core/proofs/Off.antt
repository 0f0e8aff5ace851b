-- What a command does leaves the requests of others alone.
use Rattle.std.proofs.Common.{◌≡◌, ◌≢◌, inl, inr, ℕ, ◌<◌, ◌==◌, List, [], ◌∷◌, length, Bool, false, Result, Ok, Err, refl, sym, ap, subst, ◌∙◌, arith}
use Rattle.std.proofs.lemmas.Bool.Decides.{nat_tests}
use Rattle.std.proofs.lemmas.List.{length-append}
use Rattle.pg_spec.specs.declared.stamps.Stamp.{Stamp}
use Rattle.pg_desk.specs.declared.event.DeskFault.{DeskFault}
use Rattle.pg_desk.specs.declared.event.Put.TheVariants as putting
use Rattle.pg_desk.specs.declared.event.Take.TheVariants as taking
use Rattle.pg_desk.specs.declared.event.Event.{Event}
use Rattle.pg_desk.specs.declared.event.Event.TheVariants.{Book, Put as PutEvent, EndCopy, Take as TakeEvent, HangUp, NextStatement, NextPortal, Catalog as CatalogEvent}
use Rattle.pg_desk.specs.Asking.{IsAsking}
use Rattle.pg_desk.specs.History.{State, after, Allows, IsLegal}
use Rattle.pg_desk.proofs.Parts.{extended-length}
use Rattle.pg_types.specs.declared.error.Error.{Error}
use Rattle.pg_query.specs.Faults.{of_fault}
use Rattle.pg_query.specs.Dialogue as code
use Rattle.pg_query.specs.Dialogue.{Dialogue, Answer, feed, after_reply, Told, Steps}
use Rattle.pg_query.specs.Lives.{Deed, Leads}
use Rattle.pg_query.specs.declared.desk_call.DeskCall.{DeskCall}
use Rattle.pg_query.proofs.LeavingLaws.{told-fits}
use Rattle.pg_query.proofs.Questions.{told-asks}
use Rattle.pg_query.specs.declared.desk_call.Reply.{Reply}
use Rattle.pg_core.specs.Lists.{events_of, Spares, SparesAll}
use Rattle.pg_core.specs.Runs.{ReadsNothing}
use Rattle.pg_core.specs.Times.{Free, Open, stage_of, IsSaneSo, IsOff, IsNoHangUp, HangsUpNone}
use Rattle.pg_core.proofs.Gone.{asked-sane, sane-fed, sent-sane}

pub off-other : {T : Type 0} (k : ℕ) (d : Dialogue T) (id : ℕ) → IsSaneSo d → id ≢ k → IsOff k d id
off-other k (code.Answer r) id sane h = tt
off-other k (code.Ask c p d) id sane h = (stage_of c, sane.1.1)
off-other k (code.Send p refused d) id sane h = (sane, inr h)
off-other k (code.Leave sent d) id sane h = absurd sane.1
off-other k (code.Read cleanup decides next) id sane h = (sane, h)
off-other k (code.Put cleanup p d) id sane h = ((Open, sane.1.2), h)
off-other k (code.Finish p d) id sane h = ((Free, sane.1.1), h)
off-other k (code.Close p d) id sane h = ((Free, sane.1.2), h)
off-other k (code.HangUp d) id sane h = ((Free, sane.1.2), h)
off-other k (code.Call q refused next) id sane h = (sane, inr h)
off-other k (code.Hear next) id sane h = tt

pub off-none : {T : Type 0} (k : ℕ) (d : Dialogue T) (id : ℕ) → IsSaneSo d → ReadsNothing d → IsOff k d id
off-none k (code.Answer r) id sane h = tt
off-none k (code.Ask c p d) id sane h = (stage_of c, sane.1.1)
off-none k (code.Send p refused d) id sane h = (sane, inl h)
off-none k (code.Leave sent d) id sane h = absurd sane.1
off-none k (code.Read cleanup decides next) id sane h = absurd h
off-none k (code.Put cleanup p d) id sane h = absurd h
off-none k (code.Finish p d) id sane h = absurd h
off-none k (code.Close p d) id sane h = absurd h
off-none k (code.HangUp d) id sane h = absurd h
off-none k (code.Call q refused next) id sane h = (sane, inl h)
off-none k (code.Hear next) id sane h = tt

other-than : (which k : ℕ) → which ≢ k → (which == k) ≡ false
other-than which k h = grind (arith, nat_tests)

-- one event leaves request k alone, and leads to where it is off
record Off-on {T : Type 0} (k : ℕ) (s : State) (e : Event) (d' : Dialogue T) (id' : ℕ) : Type 0 where
  off : IsOff k d' id'
  spares : Spares (λ j. j == k) e
  hangs : IsNoHangUp k e
  booked : k < length (after s e).book

off-as : {T : Type 0} (k : ℕ) (s : State) (e : Event) (d d' : Dialogue T) (id id' : ℕ) → d' ≡ d → id' ≡ id → IsOff k d id → Spares (λ j. j == k) e → IsNoHangUp k e → k < length (after s e).book → Off-on k s e d' id'
off-as {T} k s e d d' id id' is same off spares hangs booked = record {
  off = subst (λ (x : Dialogue T). IsOff k x id') (sym is) (subst (λ (j : ℕ). IsOff k d j) (sym same) off);
  spares = spares;
  hangs = hangs;
  booked = booked;
}

more-booked : (k : ℕ) (s : State) (given : Stamp) (part : List ℕ) (copying : Bool) (new : ℕ) → k < length s.book → k < length (after s (Book given part copying (Ok new))).book
more-booked k s given part copying new lt = let e = length-append s.book (record { stamp = given; parts = part ∷ [] } ∷ []) in omega (arith, lt, e)

new-other : (k new : ℕ) (s : State) → new ≡ length s.book → k < length s.book → new ≢ k
new-other k new s is lt = λ same. (let e : new ≡ k = same in omega (arith, is, lt, e))

data Quiet (k : ℕ) (s : State) (e : Event) : Type 0 where
  Is : Spares (λ j. j == k) e → IsNoHangUp k e → (after s e).book ≡ s.book → Quiet k s e

quiet : (k : ℕ) (s : State) (e : Event) → IsAsking e → Quiet k s e
quiet k s (NextStatement (Ok n)) h = Is tt tt refl
quiet k s (NextStatement (Err f)) h = Is tt tt refl
quiet k s (NextPortal (Ok n)) h = Is tt tt refl
quiet k s (NextPortal (Err f)) h = Is tt tt refl
quiet k s (CatalogEvent call) h = Is tt tt refl
quiet k s e h = absurd h

call-off : {T : Type 0} (k : ℕ) (s : State) (q : DeskCall) (refused : Error → Dialogue T) (next : Reply → Dialogue T) (id : ℕ) (e : Event) (r : Result Reply DeskFault) (d' : Dialogue T) (id' : ℕ) → Told q e r → IsOff k (code.Call q refused next) id → k < length s.book → Quiet k s e → d' ≡ after_reply r refused next → id' ≡ id → Off-on k s e d' id'
call-off k s q refused next id e (Ok r) d' id' told (sane, inl h) lt (Is a b book) is same = off-as k s e (next r) d' id id' is same (off-none k (next r) id (sane.0, (asked-sane sane.0 q refused next sane.1).1 r (told-fits q e r told)) (h.1 r (told-fits q e r told))) a b (let n = ap length book in omega (arith, lt, n))
call-off k s q refused next id e (Ok r) d' id' told (sane, inr h) lt (Is a b book) is same = off-as k s e (next r) d' id id' is same (off-other k (next r) id (sane.0, (asked-sane sane.0 q refused next sane.1).1 r (told-fits q e r told)) h) a b (let n = ap length book in omega (arith, lt, n))
call-off k s q refused next id e (Err f) d' id' told (sane, inl h) lt (Is a b book) is same =
    off-as k s e (refused (of_fault f)) d' id id' is same (off-none k (refused (of_fault f)) id (sane.0, (asked-sane sane.0 q refused next sane.1).0 (of_fault f)) (h.0 (of_fault f))) a b (let n = ap length book in omega (arith, lt, n))
call-off k s q refused next id e (Err f) d' id' told (sane, inr h) lt (Is a b book) is same =
    off-as k s e (refused (of_fault f)) d' id id' is same (off-other k (refused (of_fault f)) id (sane.0, (asked-sane sane.0 q refused next sane.1).0 (of_fault f)) h) a b (let n = ap length book in omega (arith, lt, n))

one-off : {T : Type 0} (k : ℕ) (s : State) (stamp : Stamp) (d : Dialogue T) (id : ℕ) (e : Event) (d' : Dialogue T) (id' : ℕ) → IsOff k d id → k < length s.book → Allows s e → Steps stamp d id e d' id' → Off-on k s e d' id'
one-off k s stamp (code.Answer r) id e d' id' off lt a st = absurd st
one-off k s stamp (code.Ask c p d) id (Book given part copying (Ok new)) d' id' off lt a st =
    off-as k s (Book given part copying (Ok new)) d d' new id' st.3 st.4 (off-other k d new off (new-other k new s a.1 lt)) tt tt (more-booked k s given part copying new lt)
one-off k s stamp (code.Ask c p d) id (Book given part copying (Err f)) d' id' off lt a st = off-as k s (Book given part copying (Err f)) (Answer _) d' id id' st.3 st.4 tt tt tt lt
one-off k s stamp (code.Ask c p d) id e d' id' off lt a st = absurd st
one-off k s stamp (code.Send p refused d) id (Book given part copying (Ok new)) d' id' (sane, inl h) lt a st =
    off-as k s (Book given part copying (Ok new)) (code.Leave new d) d' id id' st.3 st.4 ((sane.0, (sent-sane sane.0 p refused d sane.1).1), new-other k new s a.1 lt, inl h.1) tt tt (more-booked k s given part copying new lt)
one-off k s stamp (code.Send p refused d) id (Book given part copying (Ok new)) d' id' (sane, inr h) lt a st =
    off-as k s (Book given part copying (Ok new)) (code.Leave new d) d' id id' st.3 st.4 ((sane.0, (sent-sane sane.0 p refused d sane.1).1), new-other k new s a.1 lt, inr h) tt tt (more-booked k s given part copying new lt)
one-off k s stamp (code.Send p refused d) id (Book given part copying (Err f)) d' id' (sane, inl h) lt a st =
    off-as k s (Book given part copying (Err f)) (refused (of_fault f)) d' id id' st.3 st.4 (off-none k (refused (of_fault f)) id (sane.0, (sent-sane sane.0 p refused d sane.1).0 (of_fault f)) (h.0 (of_fault f))) tt tt lt
one-off k s stamp (code.Send p refused d) id (Book given part copying (Err f)) d' id' (sane, inr h) lt a st =
    off-as k s (Book given part copying (Err f)) (refused (of_fault f)) d' id id' st.3 st.4 (off-other k (refused (of_fault f)) id (sane.0, (sent-sane sane.0 p refused d sane.1).0 (of_fault f)) h) tt tt lt
one-off k s stamp (code.Send p refused d) id e d' id' off lt a st = absurd st
one-off k s stamp (code.Leave sent d) id (HangUp which (Ok x)) d' id' (sane, apart, inl h) lt a st = off-as k s (HangUp which (Ok x)) d d' id id' st.1 st.2 (off-none k d id sane h) tt (λ same. apart (sym st.0 ∙ same)) lt
one-off k s stamp (code.Leave sent d) id (HangUp which (Ok x)) d' id' (sane, apart, inr h) lt a st = off-as k s (HangUp which (Ok x)) d d' id id' st.1 st.2 (off-other k d id sane h) tt (λ same. apart (sym st.0 ∙ same)) lt
one-off k s stamp (code.Leave sent d) id (HangUp which (Err f)) d' id' off lt a st = off-as k s (HangUp which (Err f)) (Answer _) d' id id' st.1 st.2 tt tt tt lt
one-off k s stamp (code.Leave sent d) id e d' id' off lt a st = absurd st
one-off k s stamp (code.Read cleanup decides next) id (TakeEvent which (Ok (taking.Batch ms))) d' id' (sane, h) lt a st =
    off-as k s (TakeEvent which (Ok (taking.Batch ms))) (feed ms (code.Read cleanup decides next)) d' id id' st.1 st.2
    (off-other k (feed ms (code.Read cleanup decides next)) id (let fed = sane-fed ms sane.0 (code.Read cleanup decides next) sane.1 in (fed.0, fed.2)) h) (other-than which k (λ same. h (sym st.0 ∙ same))) tt lt
one-off k s stamp (code.Read cleanup decides next) id (TakeEvent which (Ok taking.Empty)) d' id' off lt a st = off-as k s (TakeEvent which (Ok taking.Empty)) (code.Read cleanup decides next) d' id id' st.1 st.2 off tt tt lt
one-off k s stamp (code.Read cleanup decides next) id (TakeEvent which (Ok taking.Over)) d' id' off lt a st = off-as k s (TakeEvent which (Ok taking.Over)) (Answer _) d' id id' st.1 st.2 tt tt tt lt
one-off k s stamp (code.Read cleanup decides next) id (TakeEvent which (Ok taking.Gone)) d' id' off lt a st = off-as k s (TakeEvent which (Ok taking.Gone)) (code.HangUp (Answer _)) d' id id' st.1 st.2 ((Free, tt), off.1) tt tt lt
one-off k s stamp (code.Read cleanup decides next) id (TakeEvent which (Err f)) d' id' off lt a st = off-as k s (TakeEvent which (Err f)) (Answer _) d' id id' st.1 st.2 tt tt tt lt
one-off k s stamp (code.Read cleanup decides next) id e d' id' off lt a st = absurd st
one-off k s stamp (code.Put cleanup p d) id (PutEvent which part putting.Took) d' id' (sane, h) lt a st =
    off-as k s (PutEvent which part putting.Took) d d' id id' st.2 st.3 (off-other k d id sane h) tt (λ same. h (sym st.0 ∙ same)) (let e = extended-length which part s.book in omega (arith, lt, e))
one-off k s stamp (code.Put cleanup p d) id (PutEvent which part (putting.Full back)) d' id' off lt a st = off-as k s (PutEvent which part (putting.Full back)) (code.Put cleanup p d) d' id id' st.2 st.3 off tt tt lt
one-off k s stamp (code.Put cleanup p d) id (PutEvent which part (putting.Gone back)) d' id' off lt a st = off-as k s (PutEvent which part (putting.Gone back)) (code.HangUp (Answer _)) d' id id' st.2 st.3 ((Free, tt), off.1) tt tt lt
one-off k s stamp (code.Put cleanup p d) id (PutEvent which part (putting.OutOfMemory back)) d' id' off lt a st = off-as k s (PutEvent which part (putting.OutOfMemory back)) (Answer _) d' id id' st.2 st.3 tt tt tt lt
one-off k s stamp (code.Put cleanup p d) id e d' id' off lt a st = absurd st
one-off k s stamp (code.Finish p d) id (EndCopy which part putting.Took) d' id' (sane, h) lt a st =
    off-as k s (EndCopy which part putting.Took) d d' id id' st.2 st.3 (off-other k d id sane h) tt (λ same. h (sym st.0 ∙ same)) (let e = extended-length which part s.book in omega (arith, lt, e))
one-off k s stamp (code.Finish p d) id (EndCopy which part (putting.Gone back)) d' id' (sane, h) lt a st = off-as k s (EndCopy which part (putting.Gone back)) (code.HangUp (Answer _)) d' id id' st.2 st.3 ((Free, tt), h) tt tt lt
one-off k s stamp (code.Finish p d) id (EndCopy which part (putting.OutOfMemory back)) d' id' off lt a st = off-as k s (EndCopy which part (putting.OutOfMemory back)) (Answer _) d' id id' st.2 st.3 tt tt tt lt
one-off k s stamp (code.Finish p d) id e d' id' off lt a st = absurd st
one-off k s stamp (code.Close p d) id (EndCopy which part putting.Took) d' id' (sane, h) lt a st =
    off-as k s (EndCopy which part putting.Took) d d' id id' st.2 st.3 (off-other k d id sane h) tt (λ same. h (sym st.0 ∙ same)) (let e = extended-length which part s.book in omega (arith, lt, e))
one-off k s stamp (code.Close p d) id (EndCopy which part (putting.Gone back)) d' id' (sane, h) lt a st = off-as k s (EndCopy which part (putting.Gone back)) (d) d' id id' st.2 st.3 (off-other k d id sane h) tt tt lt
one-off k s stamp (code.Close p d) id (EndCopy which part (putting.OutOfMemory back)) d' id' off lt a st = off-as k s (EndCopy which part (putting.OutOfMemory back)) (Answer _) d' id id' st.2 st.3 tt tt tt lt
one-off k s stamp (code.Close p d) id e d' id' off lt a st = absurd st
one-off k s stamp (code.HangUp d) id (HangUp which (Ok x)) d' id' (sane, h) lt a st = off-as k s (HangUp which (Ok x)) d d' id id' st.1 st.2 (off-other k d id sane h) tt (λ same. h (sym st.0 ∙ same)) lt
one-off k s stamp (code.HangUp d) id (HangUp which (Err f)) d' id' off lt a st = off-as k s (HangUp which (Err f)) (Answer _) d' id id' st.1 st.2 tt tt tt lt
one-off k s stamp (code.HangUp d) id e d' id' off lt a st = absurd st
one-off k s stamp (code.Call q refused next) id e d' id' off lt a (r, told, is, same) = call-off k s q refused next id e r d' id' told off lt (quiet k s e (told-asks q e r told)) is same
one-off k s stamp (code.Hear next) id e d' id' off lt a st = absurd st

pub left-alone : {T : Type 0} (k : ℕ) (s : State) (d : Dialogue T) (id : ℕ) (ds : List Deed) (q : Dialogue T) (end : ℕ) → IsOff k d id → k < length s.book → IsLegal s (events_of ds) → Leads d id ds q end →
    SparesAll k ds × HangsUpNone k ds
left-alone k s d id [] q end off lt legal l = (tt, tt)
left-alone k s d id (a ∷ ds) q end off lt legal (mid, n, st, l) =
    let o = one-off k s a.stamp d id a.event mid n off lt legal.0 st in
    let h = left-alone k (after s a.event) mid n ds q end o.off o.booked legal.1 l in
    ((o.spares, h.0), (o.hangs, h.1))
