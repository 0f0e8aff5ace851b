-- A hub does what its pipeline does, where its book goes with it.
use Rattle.std.proofs.Common.{◌≡◌, ℕ, List, [], ◌∷◌, Bool, true, false, ◌||◌, Result, Ok, Err, refl, sym, ◌∙◌, ap, subst}
use Rattle.pg_spec.specs.declared.stamps.Stamp.{Stamp}
use Rattle.pg_spec.specs.RawMessages.{RawMessage}
use Rattle.pg_desk.specs.declared.event.Booking.{Booking}
use Rattle.pg_desk.specs.declared.event.DeskFault.{DeskFault}
use Rattle.pg_desk.specs.declared.event.DeskFault.TheVariants as fault
use Rattle.pg_desk.specs.declared.event.Deliver.{Deliver}
use Rattle.pg_desk.specs.declared.event.Deliver.TheVariants as delivering
use Rattle.pg_desk.specs.declared.event.Event.{Event}
use Rattle.pg_desk.specs.declared.event.Event.TheVariants as call
use Rattle.pg_desk.specs.declared.event.Out.{Out}
use Rattle.pg_desk.specs.declared.event.Out.TheVariants as out
use Rattle.pg_desk.specs.declared.event.Take.{Take}
use Rattle.pg_desk.specs.declared.event.Take.TheVariants as taking
use Rattle.pg_desk.specs.History.{State, after}
use Rattle.pg_hub.specs.Fits.{Fits, HubBecomes, PipelineBecomes}
use Rattle.pg_hub.specs.Standing.{Standing, InFlight, with_book}

-- by one event
pub over : (book book' : List Booking) (a b : InFlight) (h : Standing) (e : Event) → with_book book a ≡ h → PipelineBecomes a (e ∷ []) b →
    ((s : State) → book ≡ s.book → book' ≡ (after s e).book) → HubBecomes h (e ∷ []) (with_book book' b)
over book book' a b h e is p shown = subst (λ (x : Standing). HubBecomes x (e ∷ []) (with_book book' b)) is (record {
  stands = λ s f.
      let r = p.stands s (subst (λ (l : List Booking). Fits s (with_book l a)) f.book f) in
      (r.0, subst (λ (l : List Booking). Fits (after s e) (with_book l b)) (sym (shown s f.book)) r.1);
  touched = λ s f. p.touched s (subst (λ (l : List Booking). Fits s (with_book l a)) f.book f);
})

-- where neither changes
pub still : (book : List Booking) (q : InFlight) (h : Standing) (e : Event) → with_book book q ≡ h → PipelineBecomes q (e ∷ []) q → ((s : State) → book ≡ s.book → book ≡ (after s e).book) → HubBecomes h (e ∷ []) h
still book q h e is p shown = subst (λ (x : Standing). HubBecomes h (e ∷ []) x) is (over book book q q h e is p shown)

-- ---- the calls that leave the book

pub take-keeps : (s : State) (book : List Booking) (id : ℕ) (answer : Result Take DeskFault) → book ≡ s.book → book ≡ (after s (call.Take id answer)).book
take-keeps s book id (Ok (taking.Batch messages)) h = h
take-keeps s book id (Ok taking.Empty) h = h
take-keeps s book id (Ok taking.Over) h = h
take-keeps s book id (Ok taking.Gone) h = h
take-keeps s book id (Err e) h = h

pub hang-up-keeps : (s : State) (book : List Booking) (id : ℕ) (answer : Result (Unit {0}) DeskFault) → book ≡ s.book → book ≡ (after s (call.HangUp id answer)).book
hang-up-keeps s book id (Ok x) h = h
hang-up-keeps s book id (Err e) h = h

pub statement-keeps : (s : State) (book : List Booking) (answer : Result ℕ DeskFault) → book ≡ s.book → book ≡ (after s (call.NextStatement answer)).book
statement-keeps s book (Ok n) h = h
statement-keeps s book (Err e) h = h

pub portal-keeps : (s : State) (book : List Booking) (answer : Result ℕ DeskFault) → book ≡ s.book → book ≡ (after s (call.NextPortal answer)).book
portal-keeps s book (Ok n) h = h
portal-keeps s book (Err e) h = h

pub out-keeps : (s : State) (book : List Booking) (answer : Result Out DeskFault) → book ≡ s.book → book ≡ (after s (call.NextOut answer)).book
out-keeps s book (Ok (out.Part part)) h = h
out-keeps s book (Ok out.CopyWaits) h = h
out-keeps s book (Ok out.Nothing) h = h
out-keeps s book (Ok out.NoMore) h = h
out-keeps s book (Err e) h = h

pub deliver-keeps : (s : State) (book : List Booking) (batch : List RawMessage) (complete : Bool) (answer : Deliver) → book ≡ s.book → book ≡ (after s (call.Deliver batch complete answer)).book
deliver-keeps s book batch complete delivering.Taken h = h
deliver-keeps s book batch complete (delivering.Full back) h = h
deliver-keeps s book batch complete (delivering.NoRequest back) h = h
deliver-keeps s book batch complete (delivering.OutOfMemory back) h = h

pub close-keeps : (s : State) (book : List Booking) (answer : Result (Unit {0}) DeskFault) → book ≡ s.book → book ≡ (after s (call.CloseRequests answer)).book
close-keeps s book (Ok x) h = h
close-keeps s book (Err e) h = h

pub fail-keeps : (s : State) (book : List Booking) (answer : Result (Unit {0}) DeskFault) → book ≡ s.book → book ≡ (after s (call.Fail answer)).book
fail-keeps s book (Ok x) h = h
fail-keeps s book (Err e) h = h

-- ---- the calls that write to it

pub book-closed : (q : InFlight) (stamp : Stamp) (part : List ℕ) (copying : Bool) → (q.closed || q.failed) ≡ true → PipelineBecomes q (call.Book stamp part copying (Err fault.Closed) ∷ []) q
book-closed q stamp part copying is = record {
  stands = λ s f. ((ap (λ (b : Bool). b || s.failed) (sym f.closed) ∙ ap (λ (b : Bool). q.closed || b) (sym f.failed) ∙ is, tt, tt), f);
  touched = λ s f. refl;
}

pub book-unmade : (q : InFlight) (stamp : Stamp) (part : List ℕ) (copying : Bool) → (q.closed || q.failed) ≡ false → PipelineBecomes q (call.Book stamp part copying (Err fault.OutOfMemory) ∷ []) q
book-unmade q stamp part copying is = record {
  stands = λ s f. ((tt, ap (λ (b : Bool). b || s.failed) (sym f.closed) ∙ ap (λ (b : Bool). q.closed || b) (sym f.failed) ∙ is, tt), f);
  touched = λ s f. refl;
}
