-- The polls of a command: what it reads or books it lets go, or it still reads it.
use Rattle.std.proofs.Common.{◌≡◌, ℕ, ◌<◌, ◌≤◌, length, List, [], ◌∷◌, ◌++◌, Bool, true, false, Result, Ok, Err, refl, sym, ap, ◌∙◌, subst, arith, inl, inr, ◌⊎◌}
use Rattle.std.proofs.lemmas.Bool.{cases_lt}
use Rattle.std.specs.List.{list_any}
use Rattle.pg_spec.specs.RawMessages.{RawMessage, is_ready}
use Rattle.pg_spec.specs.declared.stamps.Stamp.{Stamp}
use Rattle.pg_desk.proofs.Parts.{extended-length}
use Rattle.pg_desk.proofs.Soundness.{AllCut}
use Rattle.pg_desk.specs.History.{State, after, after_all, take_answer, Allows, Needs, IsExact}
use Rattle.pg_desk.specs.declared.event.Booking.{Booking}
use Rattle.pg_desk.specs.Asking.{IsAsking}
use Rattle.pg_desk.specs.declared.event.DeskFault.{DeskFault}
use Rattle.pg_desk.specs.declared.event.Event.{Event}
use Rattle.pg_desk.specs.declared.event.Event.TheVariants as call
use Rattle.pg_desk.specs.declared.event.Put.TheVariants as putting
use Rattle.pg_desk.specs.declared.event.Take.TheVariants as taking
use Rattle.pg_types.specs.declared.error.Error.{Error}
use Rattle.pg_types.specs.declared.error.Error.TheVariants.{Closed, OutOfMemory}
use Rattle.pg_hub.specs.Fits.{moves}
use Rattle.pg_query.specs.Dialogue.{Dialogue, Answer, Ask, Send, Leave, Read, Put, Finish, Close, HangUp, Call, Hear, Steps, Walks, Told, after_reply, feed}
use Rattle.pg_query.proofs.LeavingLaws.{fed-all, told-fits}
use Rattle.pg_query.specs.Faults.{of_fault}
use Rattle.pg_query.specs.Leaving.{Holds, Nothing, Request, IsHeld, IsLetGo as IsFree, LetsGo, after_reading, request_behind}
use Rattle.pg_core.specs.Runs.{MayWait}
use Rattle.pg_query.specs.declared.desk_call.Cleanup.{Cleanup}
use Rattle.pg_query.specs.declared.desk_call.DeskCall.{DeskCall}
use Rattle.pg_query.proofs.Questions.{told-asks}
use Rattle.pg_query.specs.declared.desk_call.Reply.{Reply}
use Rattle.pg_session.proofs.Lists.{one-more}
use Rattle.pg_session.proofs.Takes.{all-cut, took-over}
use Rattle.pg_session.proofs.Readers.LetGo.{IsLetGo, hung-now, ready-ended, stays-let-go}

-- ---- what a command has to let go

-- request j was sent, and is hung up next
abbrev pub IsSent : {T : Type 0} → Dialogue T → ℕ → Type 0
IsSent (Leave sent d) j = j ≡ sent
IsSent _ j = ⊥

-- it has still to let go of request j
abbrev pub Owes : {T : Type 0} → Holds → Dialogue T → (reads : ℕ) → ℕ → Type 0
Owes holds d k j = (IsHeld holds × (j ≡ k)) ⊎ IsSent d j

-- each of these requests was let go, or it has still to let go of it
abbrev pub Covers : {T : Type 0} → (ℕ → Type 0) → State → Holds → Dialogue T → (reads : ℕ) → Type 0
Covers mine s holds d k = (j : ℕ) → mine j → j < length s.book → IsLetGo s j ⊎ Owes holds d k j

-- where it stands
pub record MayAnswer {T : Type 0} (mine : ℕ → Type 0) (s : State) (d : Dialogue T) (k : ℕ) : Type 0 where
  pub holds : Holds
  pub lets : LetsGo holds d
  pub covers : Covers mine s holds d k

-- ---- one event

-- what was let go stays so
stays-so : (s : State) (e : Event) (j : ℕ) → IsLetGo s j → IsLetGo (after s e) j
stays-so s e j h = (stays-let-go s (e ∷ [])).let_go j h

-- it goes on at a dialogue and a request
moved : {T : Type 0} (mine : ℕ → Type 0) (t : State) (d d' : Dialogue T) (k k' : ℕ) → d' ≡ d → k' ≡ k → MayAnswer mine t d k → MayAnswer mine t d' k'
moved {T} mine t d d' k k' is same h = subst (λ (x : Dialogue T). MayAnswer mine t x k') (sym is) (subst (λ (n : ℕ). MayAnswer mine t d n) (sym same) h)

-- nothing is owed where all is let go and nothing was sent
not-owed : {T : Type 0} (holds : Holds) (d : Dialogue T) (k j : ℕ) → IsFree holds → (IsSent d j → ⊥) → Owes holds d k j → ⊥
not-owed Nothing d k j free none (inl owed) = owed.0
not-owed Request d k j free none owed = free
not-owed Nothing d k j free none (inr sent) = none sent

-- a request of a book that grew by one
in-grown : {P : Type 0} (bs : List Booking) (b : Booking) (j : ℕ) → j < length (bs ++ b ∷ []) → (j < length bs → P) → (j ≡ length bs → P) → P
in-grown {P} bs b j lt before last = by (cases_lt j (length bs))
  where
    by : (j < length bs) ⊎ (length bs ≤ j) → P
    by (inl less) = before less
    by (inr past) = last (omega (arith, past, lt, one-more bs b))

ask-step : {T : Type 0} (mine : ℕ → Type 0) (stamp : Stamp) (s : State) (copying : Bool) (part : List ℕ) (d : Dialogue T) (k : ℕ) (e : Event) (d' : Dialogue T) (k' : ℕ) →
    Allows s e → MayAnswer mine s (Ask copying part d) k → Steps stamp (Ask copying part d) k e d' k' → MayAnswer mine (after s e) d' k'
ask-step {T} mine stamp s copying part d k (call.Book stamp' part' copying' (Ok new)) d' k' allows h st =
    moved mine (after s (call.Book stamp' part' copying' (Ok new))) d d' new k' st.3 st.4 (record {
      holds = Request;
      lets = h.lets.1;
      covers = λ j m lt. in-grown s.book (record { stamp = stamp'; parts = part' ∷ [] }) j lt
          (λ less. before j (h.covers j m less))
          (λ last. inr (inl (tt, last ∙ sym allows.1)));
    })
  where
    before : (j : ℕ) → IsLetGo s j ⊎ Owes h.holds (Ask copying part d) k j → IsLetGo (after s (call.Book stamp' part' copying' (Ok new))) j ⊎ Owes Request d new j
    before j (inl gone) = inl (stays-so s (call.Book stamp' part' copying' (Ok new)) j gone)
    before j (inr owed) = absurd (not-owed h.holds (Ask copying part d) k j h.lets.0 (λ none. none) owed)
ask-step {T} mine stamp s copying part d k (call.Book stamp' part' copying' (Err x)) d' k' allows h st =
    moved mine s (Answer (Err (of_fault x))) d' k k' st.3 st.4 (record { holds = h.holds; lets = h.lets.0; covers = h.covers })
ask-step mine stamp s copying part d k e d' k' allows h st = absurd st

send-step : {T : Type 0} (mine : ℕ → Type 0) (stamp : Stamp) (s : State) (part : List ℕ) (refused : Error → Dialogue T) (d : Dialogue T) (k : ℕ) (e : Event) (d' : Dialogue T) (k' : ℕ) →
    Allows s e → MayAnswer mine s (Send part refused d) k → Steps stamp (Send part refused d) k e d' k' → MayAnswer mine (after s e) d' k'
send-step {T} mine stamp s part refused d k (call.Book stamp' part' copying (Ok new)) d' k' allows h st =
    moved mine (after s (call.Book stamp' part' copying (Ok new))) (Leave new d) d' k k' st.3 st.4 (record {
      holds = h.holds;
      lets = h.lets.1;
      covers = λ j m lt. in-grown s.book (record { stamp = stamp'; parts = part' ∷ [] }) j lt
          (λ less. before j (h.covers j m less))
          (λ last. inr (inr (last ∙ sym allows.1)));
    })
  where
    before : (j : ℕ) → IsLetGo s j ⊎ Owes h.holds (Send part refused d) k j → IsLetGo (after s (call.Book stamp' part' copying (Ok new))) j ⊎ Owes h.holds (Leave new d) k j
    before j (inl gone) = inl (stays-so s (call.Book stamp' part' copying (Ok new)) j gone)
    before j (inr (inl owed)) = inr (inl owed)
    before j (inr (inr none)) = absurd none
send-step {T} mine stamp s part refused d k (call.Book stamp' part' copying (Err x)) d' k' allows h st =
    moved mine s (refused (of_fault x)) d' k k' st.3 st.4 (record { holds = h.holds; lets = h.lets.0 (of_fault x); covers = λ j m lt. before j (h.covers j m lt) })
  where
    before : (j : ℕ) → IsLetGo s j ⊎ Owes h.holds (Send part refused d) k j → IsLetGo s j ⊎ Owes h.holds (refused (of_fault x)) k j
    before j (inl gone) = inl gone
    before j (inr (inl owed)) = inr (inl owed)
    before j (inr (inr none)) = absurd none
send-step mine stamp s part refused d k e d' k' allows h st = absurd st

leave-step : {T : Type 0} (mine : ℕ → Type 0) (stamp : Stamp) (s : State) (sent : ℕ) (d : Dialogue T) (k : ℕ) (e : Event) (d' : Dialogue T) (k' : ℕ) →
    Needs s e → MayAnswer mine s (Leave sent d) k → Steps stamp (Leave sent d) k e d' k' → MayAnswer mine (after s e) d' k'
leave-step {T} mine stamp s sent d k (call.HangUp which (Ok x)) d' k' needs h st =
    moved mine (after s (call.HangUp which (Ok x))) d d' k k' st.1 st.2 (record { holds = h.holds; lets = h.lets; covers = λ j m lt. before j lt (h.covers j m lt) })
  where
    before : (j : ℕ) → j < length s.book → IsLetGo s j ⊎ Owes h.holds (Leave sent d) k j → IsLetGo (after s (call.HangUp which (Ok x))) j ⊎ Owes h.holds d k j
    before j lt (inl gone) = inl (stays-so s (call.HangUp which (Ok x)) j gone)
    before j lt (inr (inl owed)) = inr (inl owed)
    before j lt (inr (inr is)) = inl (inl (hung-now s which j (st.0 ∙ sym is) lt))
leave-step mine stamp s sent d k (call.HangUp which (Err x)) d' k' needs h st = absurd needs
leave-step mine stamp s sent d k e d' k' needs h st = absurd st

hang-step : {T : Type 0} (mine : ℕ → Type 0) (stamp : Stamp) (s : State) (d : Dialogue T) (k : ℕ) (e : Event) (d' : Dialogue T) (k' : ℕ) →
    Needs s e → MayAnswer mine s (HangUp d) k → Steps stamp (HangUp d) k e d' k' → MayAnswer mine (after s e) d' k'
hang-step {T} mine stamp s d k (call.HangUp which (Ok x)) d' k' needs h st =
    moved mine (after s (call.HangUp which (Ok x))) d d' k k' st.1 st.2 (record { holds = Nothing; lets = h.lets; covers = λ j m lt. inl (before j lt (h.covers j m lt)) })
  where
    before : (j : ℕ) → j < length s.book → IsLetGo s j ⊎ Owes h.holds (HangUp d) k j → IsLetGo (after s (call.HangUp which (Ok x))) j
    before j lt (inl gone) = stays-so s (call.HangUp which (Ok x)) j gone
    before j lt (inr (inl owed)) = inl (hung-now s which j (st.0 ∙ sym owed.1) lt)
    before j lt (inr (inr none)) = absurd none
hang-step mine stamp s d k (call.HangUp which (Err x)) d' k' needs h st = absurd needs
hang-step mine stamp s d k e d' k' needs h st = absurd st

read-step : {T : Type 0} (mine : ℕ → Type 0) (stamp : Stamp) (s : State) (cleanup : List Cleanup) (decides : List RawMessage → Bool) (next : List RawMessage → Dialogue T) (k : ℕ) (e : Event)
    (d' : Dialogue T) (k' : ℕ) → AllCut s.deliveries → Allows s e → Needs s e → MayAnswer mine s (Read cleanup decides next) k →
    Steps stamp (Read cleanup decides next) k e d' k' → MayAnswer mine (after s e) d' k'
read-step {T} mine stamp s cleanup decides next k (call.Take which (Ok (taking.Batch ms))) d' k' cut allows needs h st =
    moved mine (after s (call.Take which (Ok (taking.Batch ms)))) (feed ms (Read cleanup decides next)) d' k k' st.1 st.2 (record {
      holds = after_reading h.holds ms;
      lets = fed-all h.holds ms (Read cleanup decides next) h.lets;
      covers = λ j m lt. before j h.holds (list_any is_ready ms) refl (h.covers j m lt);
    })
  where
    before : (j : ℕ) (x : Holds) (b : Bool) → list_any is_ready ms ≡ b → IsLetGo s j ⊎ Owes x (Read cleanup decides next) k j →
        IsLetGo (after s (call.Take which (Ok (taking.Batch ms)))) j ⊎ Owes (after_reading x ms) (feed ms (Read cleanup decides next)) k j
    before j x b e (inl gone) = inl (stays-so s (call.Take which (Ok (taking.Batch ms))) j gone)
    before j Nothing b e (inr (inl owed)) = absurd owed.0
    before j Request true e (inr (inl owed)) =
        let took : taking.Batch ms ≡ take_answer s j = allows ∙ ap (take_answer s) (st.0 ∙ sym owed.1) in
        inl (stays-so s (call.Take which (Ok (taking.Batch ms))) j (inr (ready-ended s j ms cut took e)))
    before j Request false e (inr (inl owed)) = inr (inl (subst (λ (b : Bool). IsHeld (request_behind b)) (sym e) tt, owed.1))
    before j x b e (inr (inr none)) = absurd none
read-step {T} mine stamp s cleanup decides next k (call.Take which (Ok taking.Empty)) d' k' cut allows needs h st =
    moved mine s (Read cleanup decides next) d' k k' st.1 st.2 h
read-step {T} mine stamp s cleanup decides next k (call.Take which (Ok taking.Over)) d' k' cut allows needs h st =
    moved mine s (Answer (Err Closed)) d' k k' st.1 st.2 (record { holds = Nothing; lets = tt; covers = λ j m lt. inl (before j (h.covers j m lt)) })
  where
    before : (j : ℕ) → IsLetGo s j ⊎ Owes h.holds (Read cleanup decides next) k j → IsLetGo s j
    before j (inl gone) = gone
    before j (inr (inl owed)) =
        let took : taking.Over ≡ take_answer s j = allows ∙ ap (take_answer s) (st.0 ∙ sym owed.1) in
        inr (took-over s j took).ended
    before j (inr (inr none)) = absurd none
read-step {T} mine stamp s cleanup decides next k (call.Take which (Ok taking.Gone)) d' k' cut allows needs h st =
    moved mine s (HangUp (Answer (Err Closed))) d' k k' st.1 st.2 (record { holds = h.holds; lets = tt; covers = λ j m lt. before j (h.covers j m lt) })
  where
    before : (j : ℕ) → IsLetGo s j ⊎ Owes h.holds (Read cleanup decides next) k j → IsLetGo s j ⊎ Owes {T = T} h.holds (HangUp (Answer (Err Closed))) k j
    before j (inl gone) = inl gone
    before j (inr (inl owed)) = inr (inl owed)
    before j (inr (inr none)) = absurd none
read-step mine stamp s cleanup decides next k (call.Take which (Err x)) d' k' cut allows needs h st = absurd needs
read-step mine stamp s cleanup decides next k e d' k' cut allows needs h st = absurd st

-- a question moves no request
asks-none : (s : State) (e : Event) → IsAsking e → (after s e).book ≡ s.book
asks-none s (call.NextStatement (Ok n)) h = refl
asks-none s (call.NextStatement (Err x)) h = refl
asks-none s (call.NextPortal (Ok n)) h = refl
asks-none s (call.NextPortal (Err x)) h = refl
asks-none s (call.Catalog c) h = refl
asks-none s e h = absurd h

lets-reply : {T : Type 0} (holds : Holds) (q : DeskCall) (refused : Error → Dialogue T) (next : Reply → Dialogue T) (e : Event) (r : Result Reply DeskFault) → Told q e r → LetsGo holds (Call q refused next) →
    LetsGo holds (after_reply r refused next)
lets-reply holds q refused next e (Ok r) told h = h.1 r (told-fits q e r told)
lets-reply holds q refused next e (Err x) told h = h.0 (of_fault x)

call-step : {T : Type 0} (mine : ℕ → Type 0) (stamp : Stamp) (s : State) (q : DeskCall) (refused : Error → Dialogue T) (next : Reply → Dialogue T) (k : ℕ) (e : Event) (d' : Dialogue T) (k' : ℕ) →
    MayAnswer mine s (Call q refused next) k → Steps stamp (Call q refused next) k e d' k' → MayAnswer mine (after s e) d' k'
call-step {T} mine stamp s q refused next k e d' k' h (r, told, is, same) =
    moved mine (after s e) (after_reply r refused next) d' k k' is same (record {
      holds = h.holds;
      lets = lets-reply h.holds q refused next e r told h.lets;
      covers = λ j m lt.
          let less : j < length s.book = subst (λ (bs : List Booking). j < length bs) (asks-none s e (told-asks q e r told)) lt in
          before j (h.covers j m less);
    })
  where
    before : (j : ℕ) → IsLetGo s j ⊎ Owes h.holds (Call q refused next) k j → IsLetGo (after s e) j ⊎ Owes h.holds (after_reply r refused next) k j
    before j (inl gone) = inl (stays-so s e j gone)
    before j (inr (inl owed)) = inr (inl owed)
    before j (inr (inr none)) = absurd none

-- parts of a copy add no request
same-long : {T : Type 0} (mine : ℕ → Type 0) (s t : State) (d d' : Dialogue T) (k : ℕ) (h : MayAnswer mine s d k) → length t.book ≡ length s.book → ((j : ℕ) → IsLetGo s j → IsLetGo t j) →
    LetsGo h.holds d' → ((j : ℕ) → IsSent d j → ⊥) → MayAnswer mine t d' k
same-long {T} mine s t d d' k h long stays lets none = record {
  holds = h.holds;
  lets = lets;
  covers = λ j m lt. before j (h.covers j m (omega (arith, lt, long)));
}
  where
    before : (j : ℕ) → IsLetGo s j ⊎ Owes h.holds d k j → IsLetGo t j ⊎ Owes h.holds d' k j
    before j (inl gone) = inl (stays j gone)
    before j (inr (inl owed)) = inr (inl owed)
    before j (inr (inr sent)) = absurd (none j sent)

-- it goes on, or answers that memory lacks
pub data Leads {T : Type 0} (mine : ℕ → Type 0) (s : State) (d : Dialogue T) (k : ℕ) : Type 0 where
  GoesOn : MayAnswer mine s d k → Leads mine s d k
  Lacks : d ≡ Answer (Err OutOfMemory) → Leads mine s d k

put-step : {T : Type 0} (mine : ℕ → Type 0) (stamp : Stamp) (s : State) (cleanup : List Cleanup) (part : List ℕ) (d : Dialogue T) (k : ℕ) (e : Event) (d' : Dialogue T) (k' : ℕ) →
    MayAnswer mine s (Put cleanup part d) k → Steps stamp (Put cleanup part d) k e d' k' → Leads mine (after s e) d' k'
put-step {T} mine stamp s cleanup part d k (call.Put which part' putting.Took) d' k' h st =
    let t = after s (call.Put which part' putting.Took) in
    GoesOn (moved mine t d d' k k' st.2 st.3 (same-long mine s t (Put cleanup part d) d k h (extended-length which part' s.book) (stays-so s (call.Put which part' putting.Took)) h.lets (λ j none. none)))
put-step {T} mine stamp s cleanup part d k (call.Put which part' (putting.Full back)) d' k' h st = GoesOn (moved mine s (Put cleanup part d) d' k k' st.2 st.3 h)
put-step {T} mine stamp s cleanup part d k (call.Put which part' (putting.Gone back)) d' k' h st =
    GoesOn (moved mine s (HangUp (Answer (Err Closed))) d' k k' st.2 st.3 (same-long mine s s (Put cleanup part d) (HangUp (Answer (Err Closed))) k h refl (λ j gone. gone) tt (λ j none. none)))
put-step mine stamp s cleanup part d k (call.Put which part' (putting.OutOfMemory back)) d' k' h st = Lacks st.2
put-step mine stamp s cleanup part d k e d' k' h st = absurd st

finish-step : {T : Type 0} (mine : ℕ → Type 0) (stamp : Stamp) (s : State) (part : List ℕ) (d : Dialogue T) (k : ℕ) (e : Event) (d' : Dialogue T) (k' : ℕ) →
    MayAnswer mine s (Finish part d) k → Steps stamp (Finish part d) k e d' k' → Leads mine (after s e) d' k'
finish-step {T} mine stamp s part d k (call.EndCopy which part' putting.Took) d' k' h st =
    let t = after s (call.EndCopy which part' putting.Took) in
    GoesOn (moved mine t d d' k k' st.2 st.3 (same-long mine s t (Finish part d) d k h (extended-length which part' s.book) (stays-so s (call.EndCopy which part' putting.Took)) h.lets (λ j none. none)))
finish-step {T} mine stamp s part d k (call.EndCopy which part' (putting.Gone back)) d' k' h st =
    GoesOn (moved mine s (HangUp (Answer (Err Closed))) d' k k' st.2 st.3 (same-long mine s s (Finish part d) (HangUp (Answer (Err Closed))) k h refl (λ j gone. gone) tt (λ j none. none)))
finish-step mine stamp s part d k (call.EndCopy which part' (putting.OutOfMemory back)) d' k' h st = Lacks st.2
finish-step mine stamp s part d k e d' k' h st = absurd st

close-step : {T : Type 0} (mine : ℕ → Type 0) (stamp : Stamp) (s : State) (part : List ℕ) (d : Dialogue T) (k : ℕ) (e : Event) (d' : Dialogue T) (k' : ℕ) →
    MayAnswer mine s (Close part d) k → Steps stamp (Close part d) k e d' k' → Leads mine (after s e) d' k'
close-step {T} mine stamp s part d k (call.EndCopy which part' putting.Took) d' k' h st =
    let t = after s (call.EndCopy which part' putting.Took) in
    GoesOn (moved mine t d d' k k' st.2 st.3 (same-long mine s t (Close part d) d k h (extended-length which part' s.book) (stays-so s (call.EndCopy which part' putting.Took)) h.lets (λ j none. none)))
close-step {T} mine stamp s part d k (call.EndCopy which part' (putting.Gone back)) d' k' h st =
    GoesOn (moved mine s d d' k k' st.2 st.3 (same-long mine s s (Close part d) d k h refl (λ j gone. gone) h.lets (λ j none. none)))
close-step mine stamp s part d k (call.EndCopy which part' (putting.OutOfMemory back)) d' k' h st = Lacks st.2
close-step mine stamp s part d k e d' k' h st = absurd st

step : {T : Type 0} (mine : ℕ → Type 0) (stamp : Stamp) (s : State) (d : Dialogue T) (k : ℕ) (e : Event) (d' : Dialogue T) (k' : ℕ) → AllCut s.deliveries → Allows s e → Needs s e →
    MayAnswer mine s d k → Steps stamp d k e d' k' → Leads mine (after s e) d' k'
step mine stamp s (Answer r) k e d' k' cut allows needs h st = absurd st
step mine stamp s (Ask copying part d) k e d' k' cut allows needs h st = GoesOn (ask-step mine stamp s copying part d k e d' k' allows h st)
step mine stamp s (Send part refused d) k e d' k' cut allows needs h st = GoesOn (send-step mine stamp s part refused d k e d' k' allows h st)
step mine stamp s (Put cleanup part d) k e d' k' cut allows needs h st = put-step mine stamp s cleanup part d k e d' k' h st
step mine stamp s (Finish part d) k e d' k' cut allows needs h st = finish-step mine stamp s part d k e d' k' h st
step mine stamp s (Close part d) k e d' k' cut allows needs h st = close-step mine stamp s part d k e d' k' h st
step mine stamp s (Leave id d) k e d' k' cut allows needs h st = GoesOn (leave-step mine stamp s id d k e d' k' needs h st)
step mine stamp s (Read cleanup decides next) k e d' k' cut allows needs h st = GoesOn (read-step mine stamp s cleanup decides next k e d' k' cut allows needs h st)
step mine stamp s (HangUp d) k e d' k' cut allows needs h st = GoesOn (hang-step mine stamp s d k e d' k' needs h st)
step mine stamp s (Call q refused next) k e d' k' cut allows needs h st = GoesOn (call-step mine stamp s q refused next k e d' k' h st)
step mine stamp s (Hear next) k e d' k' cut allows needs h st = absurd st

-- ---- a poll

answered-stays : {T : Type 0} (stamp : Stamp) (r : Result T Error) (d : Dialogue T) (k : ℕ) (es : List Event) (d' : Dialogue T) (k' : ℕ) → d ≡ Answer r → Walks stamp d k es d' k' → d' ≡ Answer r
answered-stays {T} stamp r d k es d' k' is w = by es (subst (λ (x : Dialogue T). Walks stamp x k es d' k') is w)
  where
    by : (es : List Event) → Walks stamp (Answer r) k es d' k' → d' ≡ Answer r
    by [] v = v.0
    by (e ∷ es) v = absurd v.2

pub walk-lets : {T : Type 0} (mine : ℕ → Type 0) (stamp : Stamp) (s : State) (d : Dialogue T) (k : ℕ) (es : List Event) (d' : Dialogue T) (k' : ℕ) → AllCut s.deliveries → IsExact s es →
    MayAnswer mine s d k → Walks stamp d k es d' k' → Leads mine (after_all s es) d' k'
walk-lets mine stamp s d k [] d' k' cut exact h w = GoesOn (moved mine s d d' k k' w.0 w.1 h)
walk-lets mine stamp s d k (e ∷ es) d' k' cut exact h (mid, n, st, w) =
    by (step mine stamp s d k e mid n cut exact.0 exact.1 h st)
    (λ on. walk-lets mine stamp (after s e) mid n es d' k' (all-cut s (e ∷ []) (exact.0, exact.1, tt) cut) exact.2 on w)
  where
    by : Leads mine (after s e) mid n → (MayAnswer mine (after s e) mid n → Leads mine (after_all (after s e) es) d' k') → Leads mine (after_all (after s e) es) d' k'
    by (GoesOn on) f = f on
    by (Lacks is) f = Lacks (answered-stays stamp (Err OutOfMemory) mid n es d' k' is w)

-- where it answers, it has let go of all
pub answers-free : {T : Type 0} (mine : ℕ → Type 0) (t : State) (d : Dialogue T) (k : ℕ) (r : Result T Error) → d ≡ Answer r → (r ≡ Err OutOfMemory → ⊥) → Leads mine t d k →
    (j : ℕ) → mine j → j < length t.book → IsLetGo t j
answers-free {T} mine t d k r is memory (Lacks lacks) j m lt = let same : Answer r ≡ Answer (Err OutOfMemory) = sym is ∙ lacks in absurd (memory cc)
answers-free {T} mine t d k r is memory (GoesOn h) j m lt = by (subst (λ (x : Dialogue T). MayAnswer mine t x k) is h)
  where
    by : MayAnswer mine t (Answer r) k → IsLetGo t j
    by g = from (g.covers j m lt)
      where
        from : IsLetGo t j ⊎ Owes g.holds (Answer r) k j → IsLetGo t j
        from (inl gone) = gone
        from (inr owed) = absurd (not-owed g.holds (Answer r) k j g.lets (λ none. none) owed)

no-wait : {T : Type 0} (r : Result T Error) → MayWait (Answer r) → ⊥
no-wait r (inl reads) = reads
no-wait r (inr puts) = puts

-- where it waits, it goes on
pub waits-on : {T : Type 0} (mine : ℕ → Type 0) (t : State) (d : Dialogue T) (k : ℕ) → MayWait d → Leads mine t d k → MayAnswer mine t d k
waits-on mine t d k waits (GoesOn h) = h
waits-on {T} mine t d k waits (Lacks lacks) = absurd (no-wait {T = T} (Err OutOfMemory) (subst (λ (x : Dialogue T). MayWait x) lacks waits))

-- where it waits, nothing was sent that isn't hung up
pub waits-sent : {T : Type 0} (d : Dialogue T) (j : ℕ) → MayWait d → IsSent d j → ⊥
waits-sent (Leave id d) j (inl reads) sent = reads
waits-sent (Leave id d) j (inr puts) sent = puts
waits-sent (Read cleanup decides next) j waits sent = sent
waits-sent (Answer r) j waits sent = sent
waits-sent (Ask copying part d) j waits sent = sent
waits-sent (Send part refused d) j waits sent = sent
waits-sent (Put cleanup part d) j waits sent = sent
waits-sent (Finish part d) j waits sent = sent
waits-sent (Close part d) j waits sent = sent
waits-sent (HangUp d) j waits sent = sent
waits-sent (Call q refused next) j waits sent = sent
waits-sent (Hear next) j waits sent = sent

-- ---- a poll in which nothing moves

answered-waits : {T : Type 0} (stamp : Stamp) (r : Result T Error) (d : Dialogue T) (k : ℕ) (es : List Event) (d' : Dialogue T) (k' : ℕ) → d ≡ Answer r → MayWait d' → Walks stamp d k es d' k' → ⊥
answered-waits {T} stamp r d k es d' k' is waits w = by es (subst (λ (x : Dialogue T). Walks stamp x k es d' k') is w)
  where
    by : (es : List Event) → Walks stamp (Answer r) k es d' k' → ⊥
    by [] v = no-wait r (subst (λ (x : Dialogue T). MayWait x) v.0 waits)
    by (e ∷ es) v = v.2

hung-waits : {T : Type 0} (stamp : Stamp) (r : Result T Error) (d : Dialogue T) (k : ℕ) (es : List Event) (d' : Dialogue T) (k' : ℕ) → d ≡ HangUp (Answer r) → MayWait d' → Walks stamp d k es d' k' → ⊥
hung-waits {T} stamp r d k es d' k' is waits w = by es (subst (λ (x : Dialogue T). Walks stamp x k es d' k') is w)
  where
    none : MayWait {T = T} (HangUp (Answer r)) → ⊥
    none (inl reads) = reads
    none (inr puts) = puts

    by : (es : List Event) → Walks stamp (HangUp (Answer r)) k es d' k' → ⊥
    by [] v = none (subst (λ (x : Dialogue T). MayWait x) v.0 waits)
    by (call.HangUp which (Ok x) ∷ es) (mid, n, st, v) = answered-waits stamp r mid n es d' k' st.1 waits v
    by (call.HangUp which (Err x) ∷ es) (mid, n, st, v) = answered-waits stamp (Err (of_fault x)) mid n es d' k' st.1 waits v
    by (e ∷ es) v = v.2

-- a command that waits on, and of which nothing moved, left all as it was
pub walk-still : {T : Type 0} (stamp : Stamp) (s : State) (d : Dialogue T) (k : ℕ) (es : List Event) (d' : Dialogue T) (k' : ℕ) → IsExact s es → MayWait d → MayWait d' → moves s es ≡ false →
    Walks stamp d k es d' k' → after_all s es ≡ s
walk-still stamp s d k [] d' k' exact waits later none w = refl
walk-still {T} stamp s (Read cleanup decides next) k (e ∷ es) d' k' exact waits later none (mid, n, st, w) =
    by e exact none st (λ x on still. walk-still stamp s mid n es d' k' x on later still w)
  where
    by : (e : Event) → IsExact s (e ∷ es) → moves s (e ∷ es) ≡ false → Steps stamp (Read cleanup decides next) k e mid n →
        (IsExact s es → MayWait mid → moves s es ≡ false → after_all s es ≡ s) → after_all s (e ∷ es) ≡ s
    by (call.Take which (Ok (taking.Batch ms))) exact none st f = absurd cc
    by (call.Take which (Ok taking.Empty)) exact none st f = f exact.2 (subst (λ (x : Dialogue T). MayWait x) (sym st.1) (inl tt)) none
    by (call.Take which (Ok taking.Over)) exact none st f = absurd (answered-waits stamp (Err Closed) mid n es d' k' st.1 later w)
    by (call.Take which (Ok taking.Gone)) exact none st f = absurd (hung-waits stamp (Err Closed) mid n es d' k' st.1 later w)
    by (call.Take which (Err x)) exact none st f = absurd exact.1
    by e exact none st f = absurd st
walk-still {T} stamp s (Put cleanup part d) k (e ∷ es) d' k' exact waits later none (mid, n, st, w) =
    by e exact none st (λ x on still. walk-still stamp s mid n es d' k' x on later still w)
  where
    by : (e : Event) → IsExact s (e ∷ es) → moves s (e ∷ es) ≡ false → Steps stamp (Put cleanup part d) k e mid n →
        (IsExact s es → MayWait mid → moves s es ≡ false → after_all s es ≡ s) → after_all s (e ∷ es) ≡ s
    by (call.Put which part' putting.Took) exact none st f = absurd cc
    by (call.Put which part' (putting.Full back)) exact none st f = f exact.2 (subst (λ (x : Dialogue T). MayWait x) (sym st.2) (inr tt)) none
    by (call.Put which part' (putting.Gone back)) exact none st f = absurd (hung-waits stamp (Err Closed) mid n es d' k' st.2 later w)
    by (call.Put which part' (putting.OutOfMemory back)) exact none st f = absurd (answered-waits stamp (Err OutOfMemory) mid n es d' k' st.2 later w)
    by e exact none st f = absurd st
walk-still stamp s _ k (e ∷ es) d' k' exact (inl reads) later none w = absurd reads
walk-still stamp s _ k (e ∷ es) d' k' exact (inr puts) later none w = absurd puts
