-- What a command asks of its desk and what it answers, as a tree, and how events lead along it.
use Rattle.std.specs.Prelude.{◌≡◌, ℕ, List, [], ◌∷◌, Bool, true, false, if◌then◌else◌, Some, Result, Ok, Err}
use Rattle.pg_spec.specs.RawMessages.{RawMessage}
use Rattle.pg_spec.specs.declared.stamps.Stamp.{Stamp}
use Rattle.pg_desk.specs.declared.event.DeskFault.{DeskFault}
use Rattle.pg_desk.specs.declared.event.DeskFault.TheVariants as fault
use Rattle.pg_desk.specs.declared.event.Put.TheVariants as putting
use Rattle.pg_desk.specs.declared.event.Take.TheVariants as taking
use Rattle.pg_desk.specs.declared.event.Event.{Event}
use Rattle.pg_desk.specs.declared.event.Event.TheVariants as call
use Rattle.pg_desk.specs.declared.event.CatalogCall.{CatalogCall}
use Rattle.pg_desk.specs.declared.event.CatalogCall.TheVariants as catalog
use Rattle.pg_types.specs.declared.error.Error.{Error}
use Rattle.pg_types.specs.declared.error.Error.TheVariants.{Closed, OutOfMemory}
use Rattle.pg_query.specs.declared.desk_call.DeskCall.{DeskCall}
use Rattle.pg_query.specs.declared.desk_call.DeskCall.TheVariants as desk_call
use Rattle.pg_query.specs.declared.desk_call.Reply.{Reply}
use Rattle.pg_query.specs.declared.desk_call.Reply.TheVariants as reply
use Rattle.pg_query.specs.declared.desk_call.Cleanup.{Cleanup}
use Rattle.pg_query.specs.declared.desk_call.Cleanup.TheVariants.{Release, Close as CloseFirst, Post}
use Rattle.pg_query.specs.Faults.{of_fault}

-- A command from one moment on. It ends in its answer.
pub data Dialogue (T : Type 0) : Type 0 where
  Answer : Result T Error → Dialogue T
  -- books a request, a copy or not, whose messages are read from now on
  Ask : Bool → List ℕ → Dialogue T → Dialogue T
  -- books a request that is hung up at once. Where the desk refuses it, it goes on by that error
  Send : List ℕ → (Error → Dialogue T) → Dialogue T → Dialogue T
  -- hangs up a request that was sent
  Leave : ℕ → Dialogue T → Dialogue T
  -- reads messages of the request up to the first by which they decide, and goes on with those read
  Read : List Cleanup → (List RawMessage → Bool) → (List RawMessage → Dialogue T) → Dialogue T
  -- puts a part to the copy that is read, once the desk has room for it
  Put : List Cleanup → List ℕ → Dialogue T → Dialogue T
  -- ends the copy that is read by its last part, and goes on with its reply
  Finish : List ℕ → Dialogue T → Dialogue T
  -- ends the copy that is read by this part if it hasn't ended; what is left of its reply isn't read
  Close : List ℕ → Dialogue T → Dialogue T
  -- hangs up the request that is read
  HangUp : Dialogue T → Dialogue T
  -- asks the desk something, and goes on with what it is told. Where the desk refuses that, it goes on by the error
  Call : DeskCall → (Error → Dialogue T) → (Reply → Dialogue T) → Dialogue T
  -- stands between a query and its reply; no command writes it
  Hear : (Reply → Dialogue T) → Dialogue T

-- The dialogue after one more message came that is not read yet. A request that is hung up, or makes place for another, has none.
abbrev pub feed_one : {T : Type 0} → RawMessage → Dialogue T → Dialogue T
feed_one m (Answer r) = Answer r
feed_one m (Ask copying part d) = Ask copying part d
feed_one m (Send part refused d) = Send part (λ e. feed_one m (refused e)) (feed_one m d)
feed_one m (Leave id d) = Leave id (feed_one m d)
feed_one m (Read cleanup decides next) =
    if decides (m ∷ []) then next (m ∷ []) else Read cleanup (λ ms. decides (m ∷ ms)) (λ ms. next (m ∷ ms))
feed_one m (Put cleanup part d) = Put cleanup part (feed_one m d)
feed_one m (Finish part d) = Finish part (feed_one m d)
feed_one m (Close part d) = Close part (feed_one m d)
feed_one m (HangUp d) = HangUp d
feed_one m (Call q refused next) = Call q (λ e. feed_one m (refused e)) (λ r. feed_one m (next r))
feed_one m (Hear next) = Hear (λ r. feed_one m (next r))

-- the same of several messages, in order
abbrev pub feed : {T : Type 0} → List RawMessage → Dialogue T → Dialogue T
feed [] d = d
feed (m ∷ ms) d = feed ms (feed_one m d)

-- which question a call on the catalog is
abbrev pub question_of : CatalogCall → DeskCall
question_of (catalog.TypeOf oid answer) = desk_call.TypeOf oid
question_of (catalog.SetType oid ty answer) = desk_call.SetType oid ty
question_of (catalog.ClearTypes answer) = desk_call.ClearTypes
question_of (catalog.LookupOf which answer) = desk_call.LookupOf which
question_of (catalog.SetLookup which s answer) = desk_call.SetLookup which s

-- an answer of the desk as a reply
abbrev pub as_reply : {A : Type 0} → (A → Reply) → Result A DeskFault → Result Reply DeskFault
as_reply tells (Ok x) = Ok (tells x)
as_reply tells (Err e) = Err e

-- what it tells: what was to be kept is handed back
abbrev pub reply_of : CatalogCall → Result Reply DeskFault
reply_of (catalog.TypeOf oid answer) = as_reply reply.Type answer
reply_of (catalog.SetType oid ty answer) = as_reply (λ x. reply.Type (Some ty)) answer
reply_of (catalog.ClearTypes answer) = as_reply (λ x. reply.Cleared) answer
reply_of (catalog.LookupOf which answer) = as_reply reply.Statement answer
reply_of (catalog.SetLookup which s answer) = as_reply (λ x. reply.Statement (Some s)) answer

-- what a query is told by an event
abbrev pub Told : DeskCall → Event → Result Reply DeskFault → Type 0
Told desk_call.NextStatement (call.NextStatement (Ok n)) r = r ≡ Ok (reply.Number n)
Told desk_call.NextStatement (call.NextStatement (Err fault.Encode)) r = r ≡ Ok reply.Spent
Told desk_call.NextStatement (call.NextStatement (Err e)) r = r ≡ Err e
Told desk_call.NextPortal (call.NextPortal (Ok n)) r = r ≡ Ok (reply.Number n)
Told desk_call.NextPortal (call.NextPortal (Err fault.Encode)) r = r ≡ Ok reply.Spent
Told desk_call.NextPortal (call.NextPortal (Err e)) r = r ≡ Err e
Told q (call.Catalog c) r = (q ≡ question_of c) × (r ≡ reply_of c)
Told _ _ r = ⊥

-- a reply of this kind may be told where that is asked
abbrev pub fits : DeskCall → Reply → Bool
fits desk_call.NextStatement (reply.Number n) = true
fits desk_call.NextStatement reply.Spent = true
fits desk_call.NextPortal (reply.Number n) = true
fits desk_call.NextPortal reply.Spent = true
fits (desk_call.TypeOf oid) (reply.Type found) = true
fits (desk_call.SetType oid ty) (reply.Type (Some kept)) = true
fits desk_call.ClearTypes reply.Cleared = true
fits (desk_call.LookupOf which) (reply.Statement found) = true
fits (desk_call.SetLookup which s) (reply.Statement (Some kept)) = true
fits _ _ = false

-- where a reply leads, and where a refusal does
abbrev pub after_reply : {T : Type 0} → Result Reply DeskFault → (Error → Dialogue T) → (Reply → Dialogue T) → Dialogue T
after_reply (Ok r) refused next = next r
after_reply (Err e) refused next = refused (of_fault e)

-- By this event a dialogue that reads request `id` goes on as another, which reads `id'`. A reply that is over was read to its
-- end; a request that is gone wasn't, and is hung up. Where a desk has no room for a part, it is put again.
abbrev pub Steps : {T : Type 0} → Stamp → Dialogue T → ℕ → Event → Dialogue T → ℕ → Type 0
Steps stamp (Ask copying part d) id (call.Book stamp' part' copying' (Ok new)) d' id' =
    (stamp' ≡ stamp) × (part' ≡ part) × (copying' ≡ copying) × (d' ≡ d) × (id' ≡ new)
Steps stamp (Ask copying part d) id (call.Book stamp' part' copying' (Err e)) d' id' =
    (stamp' ≡ stamp) × (part' ≡ part) × (copying' ≡ copying) × (d' ≡ Answer (Err (of_fault e))) × (id' ≡ id)
Steps stamp (Send part refused d) id (call.Book stamp' part' copying (Ok new)) d' id' =
    (stamp' ≡ stamp) × (part' ≡ part) × (copying ≡ false) × (d' ≡ Leave new d) × (id' ≡ id)
Steps stamp (Send part refused d) id (call.Book stamp' part' copying (Err e)) d' id' =
    (stamp' ≡ stamp) × (part' ≡ part) × (copying ≡ false) × (d' ≡ refused (of_fault e)) × (id' ≡ id)
Steps stamp (Leave sent d) id (call.HangUp which (Ok x)) d' id' = (which ≡ sent) × (d' ≡ d) × (id' ≡ id)
Steps stamp (Leave sent d) id (call.HangUp which (Err e)) d' id' = (which ≡ sent) × (d' ≡ Answer (Err (of_fault e))) × (id' ≡ id)
Steps stamp (Read cleanup decides next) id (call.Take which (Ok (taking.Batch ms))) d' id' =
    (which ≡ id) × (d' ≡ feed ms (Read cleanup decides next)) × (id' ≡ id)
Steps stamp (Read cleanup decides next) id (call.Take which (Ok taking.Empty)) d' id' = (which ≡ id) × (d' ≡ Read cleanup decides next) × (id' ≡ id)
Steps stamp (Read cleanup decides next) id (call.Take which (Ok taking.Over)) d' id' = (which ≡ id) × (d' ≡ Answer (Err Closed)) × (id' ≡ id)
Steps stamp (Read cleanup decides next) id (call.Take which (Ok taking.Gone)) d' id' = (which ≡ id) × (d' ≡ HangUp (Answer (Err Closed))) × (id' ≡ id)
Steps stamp (Read cleanup decides next) id (call.Take which (Err e)) d' id' = (which ≡ id) × (d' ≡ Answer (Err (of_fault e))) × (id' ≡ id)
Steps stamp (Put cleanup part d) id (call.Put which part' putting.Took) d' id' = (which ≡ id) × (part' ≡ part) × (d' ≡ d) × (id' ≡ id)
Steps stamp (Put cleanup part d) id (call.Put which part' (putting.Full back)) d' id' = (which ≡ id) × (part' ≡ part) × (d' ≡ Put cleanup part d) × (id' ≡ id)
Steps stamp (Put cleanup part d) id (call.Put which part' (putting.Gone back)) d' id' = (which ≡ id) × (part' ≡ part) × (d' ≡ HangUp (Answer (Err Closed))) × (id' ≡ id)
Steps stamp (Put cleanup part d) id (call.Put which part' (putting.OutOfMemory back)) d' id' = (which ≡ id) × (part' ≡ part) × (d' ≡ Answer (Err OutOfMemory)) × (id' ≡ id)
Steps stamp (Finish part d) id (call.EndCopy which part' putting.Took) d' id' = (which ≡ id) × (part' ≡ part) × (d' ≡ d) × (id' ≡ id)
Steps stamp (Finish part d) id (call.EndCopy which part' (putting.Gone back)) d' id' = (which ≡ id) × (part' ≡ part) × (d' ≡ HangUp (Answer (Err Closed))) × (id' ≡ id)
Steps stamp (Finish part d) id (call.EndCopy which part' (putting.OutOfMemory back)) d' id' = (which ≡ id) × (part' ≡ part) × (d' ≡ Answer (Err OutOfMemory)) × (id' ≡ id)
Steps stamp (Close part d) id (call.EndCopy which part' putting.Took) d' id' = (which ≡ id) × (part' ≡ part) × (d' ≡ d) × (id' ≡ id)
Steps stamp (Close part d) id (call.EndCopy which part' (putting.Gone back)) d' id' = (which ≡ id) × (part' ≡ part) × (d' ≡ d) × (id' ≡ id)
Steps stamp (Close part d) id (call.EndCopy which part' (putting.OutOfMemory back)) d' id' = (which ≡ id) × (part' ≡ part) × (d' ≡ Answer (Err OutOfMemory)) × (id' ≡ id)
Steps stamp (HangUp d) id (call.HangUp which (Ok x)) d' id' = (which ≡ id) × (d' ≡ d) × (id' ≡ id)
Steps stamp (HangUp d) id (call.HangUp which (Err e)) d' id' = (which ≡ id) × (d' ≡ Answer (Err (of_fault e))) × (id' ≡ id)
Steps stamp (Call q refused next) id e d' id' = (r : Result Reply DeskFault) × Told q e r × (d' ≡ after_reply r refused next) × (id' ≡ id)
Steps stamp _ id _ d' id' = ⊥

-- a whole list of events
abbrev pub Walks : {T : Type 0} → Stamp → Dialogue T → ℕ → List Event → Dialogue T → ℕ → Type 0
Walks stamp d id [] d' id' = (d' ≡ d) × (id' ≡ id)
Walks {T} stamp d id (e ∷ es) d' id' = (mid : Dialogue T) × (n : ℕ) × Steps stamp d id e mid n × Walks stamp mid n es d' id'

-- what a command does where it is given up, as a dialogue of its own
abbrev pub cleaning : List Cleanup → Dialogue (Unit {0})
cleaning [] = Answer (Ok tt)
cleaning (CloseFirst part ∷ cs) = Close part (cleaning cs)
cleaning (Release ∷ cs) = HangUp (cleaning cs)
cleaning (Post part ∷ cs) = Send part (λ e. Answer (Err e)) (cleaning cs)
