-- What a command's own events say: what it booked, which parts it added, what it was told, and what it took of each request.
use Rattle.std.specs.Prelude.{◌≡◌, ℕ, ◌==◌, List, [], ◌∷◌, ◌++◌, Bool, if◌then◌else◌, Result, Ok, Err}
use Rattle.pg_query.specs.Requests.{IsRefused}
use Rattle.pg_spec.specs.RawMessages.{RawMessage}
use Rattle.pg_desk.specs.History.{IsFrontOf}
use Rattle.pg_spec.specs.declared.stamps.Stamp.{Stamp}
use Rattle.pg_desk.specs.declared.event.DeskFault.{DeskFault}
use Rattle.pg_desk.specs.declared.event.DeskFault.TheVariants as fault
use Rattle.pg_desk.specs.declared.event.Put.TheVariants as putting
use Rattle.pg_desk.specs.declared.event.Take.TheVariants as taking
use Rattle.pg_desk.specs.declared.event.Event.{Event}
use Rattle.pg_desk.specs.declared.event.Event.TheVariants as call
use Rattle.pg_types.specs.declared.error.Error.{Error}
use Rattle.pg_types.specs.declared.error.Error.TheVariants.{Closed, OutOfMemory}
use Rattle.pg_query.specs.Faults.{of_fault}
use Rattle.pg_query.specs.Dialogue.{Dialogue, Answer, question_of, reply_of}
use Rattle.pg_query.specs.Lives.{Deed}
use Rattle.pg_query.specs.declared.desk_call.DeskCall.{DeskCall}
use Rattle.pg_query.specs.declared.desk_call.DeskCall.TheVariants as desk_call
use Rattle.pg_query.specs.declared.desk_call.Reply.{Reply}
use Rattle.pg_query.specs.declared.desk_call.Reply.TheVariants as reply
use Rattle.pg_spec.specs.Courses.{Asked, Request}

-- what became of a booking that an event tells of: the request, or why there is none
abbrev pub booked_by : Event → List (Result Request Error)
booked_by (call.Book stamp part copying (Ok new)) = Ok (record { number = new; booking = record { stamp = stamp; parts = part ∷ [] } }) ∷ []
booked_by (call.Book stamp part copying (Err f)) = Err (of_fault f) ∷ []
booked_by _ = []

-- all of them, in order
abbrev pub bookings_in : List Deed → List (Result Request Error)
bookings_in [] = []
bookings_in (a ∷ ds) = booked_by a.event ++ bookings_in ds

-- a part that was added to a copy
pub record Addition : Type 0 where
  pub request : ℕ
  pub part : List ℕ

-- What became of a part that an event tells of: it was added, or why it wasn't. One for which there is no room yet is put again.
abbrev pub added_by : Event → List (Result Addition Error)
added_by (call.Put id part putting.Took) = Ok (record { request = id; part = part }) ∷ []
added_by (call.Put id part (putting.Gone back)) = Err Closed ∷ []
added_by (call.Put id part (putting.OutOfMemory back)) = Err OutOfMemory ∷ []
added_by (call.EndCopy id part putting.Took) = Ok (record { request = id; part = part }) ∷ []
added_by (call.EndCopy id part (putting.Gone back)) = Err Closed ∷ []
added_by (call.EndCopy id part (putting.OutOfMemory back)) = Err OutOfMemory ∷ []
added_by _ = []

-- all of them, in order
abbrev pub additions_in : List Deed → List (Result Addition Error)
additions_in [] = []
additions_in (a ∷ ds) = added_by a.event ++ additions_in ds

-- a question that was told this, or why it wasn't
abbrev pub told_as : Stamp → DeskCall → Result Reply DeskFault → List (Result (Asked DeskCall Reply) Error)
told_as stamp q (Ok r) = Ok (record { stamp = stamp; question = q; reply = r }) ∷ []
told_as stamp q (Err f) = Err (of_fault f) ∷ []

-- what a desk tells by an event, or why it doesn't
abbrev pub told_by : Stamp → Event → List (Result (Asked DeskCall Reply) Error)
told_by stamp (call.NextStatement (Ok n)) = Ok (record { stamp = stamp; question = desk_call.NextStatement; reply = reply.Number n }) ∷ []
told_by stamp (call.NextStatement (Err fault.Encode)) = Ok (record { stamp = stamp; question = desk_call.NextStatement; reply = reply.Spent }) ∷ []
told_by stamp (call.NextStatement (Err f)) = Err (of_fault f) ∷ []
told_by stamp (call.NextPortal (Ok n)) = Ok (record { stamp = stamp; question = desk_call.NextPortal; reply = reply.Number n }) ∷ []
told_by stamp (call.NextPortal (Err fault.Encode)) = Ok (record { stamp = stamp; question = desk_call.NextPortal; reply = reply.Spent }) ∷ []
told_by stamp (call.NextPortal (Err f)) = Err (of_fault f) ∷ []
told_by stamp (call.Catalog c) = told_as stamp (question_of c) (reply_of c)
told_by stamp _ = []

-- what it tells by all of them, in order
abbrev pub answers_in : List Deed → List (Result (Asked DeskCall Reply) Error)
answers_in [] = []
answers_in (a ∷ ds) = told_by a.stamp a.event ++ answers_in ds

-- those that weren't refused
abbrev pub granted : {A : Type 0} → List (Result A Error) → List A
granted [] = []
granted (Ok x ∷ xs) = x ∷ granted xs
granted (Err e ∷ xs) = granted xs

-- none was refused
abbrev pub AreGranted : {A : Type 0} → List (Result A Error) → Type 0
AreGranted [] = Unit {0}
AreGranted (Ok x ∷ xs) = AreGranted xs
AreGranted (Err e ∷ xs) = ⊥

-- the requests that they booked, in order, each by its first part
abbrev pub requests_in : List Deed → List Request
requests_in ds = granted (bookings_in ds)

-- the parts that they added, in order
abbrev pub added_in : List Deed → List Addition
added_in ds = granted (additions_in ds)

-- what an event adds in front of the parts that are added behind it, up to the next copy that is opened
abbrev pub parts_with : Event → List (List ℕ) → List (List ℕ)
parts_with (call.Book stamp part copying (Ok new)) parts = if copying then [] else parts
parts_with (call.Put id part putting.Took) parts = part ∷ parts
parts_with (call.EndCopy id part putting.Took) parts = part ∷ parts
parts_with _ parts = parts

-- the parts that they added before they opened the next copy
abbrev pub parts_of : List Deed → List (List ℕ)
parts_of [] = []
parts_of (a ∷ ds) = parts_with a.event (parts_of ds)

-- what an event books, where these parts are added behind it
abbrev pub whole_with : Event → List (List ℕ) → List Request → List Request
whole_with (call.Book stamp part copying (Ok new)) parts rs = record { number = new; booking = record { stamp = stamp; parts = part ∷ (if copying then parts else []) } } ∷ rs
whole_with _ parts rs = rs

-- The requests that they booked, in order, with all their parts: a part goes to the copy that was opened last.
abbrev pub whole_in : List Deed → List Request
whole_in [] = []
whole_in (a ∷ ds) = whole_with a.event (parts_of ds) (whole_in ds)

-- whether a request that an event books is a copy
abbrev pub copied_by : Event → List Bool
copied_by (call.Book stamp part copying (Ok new)) = copying ∷ []
copied_by _ = []

-- of each of the requests that they booked, in order
abbrev pub copies_in : List Deed → List Bool
copies_in [] = []
copies_in (a ∷ ds) = copied_by a.event ++ copies_in ds

-- what they asked and were told, in order
abbrev pub asked_in : List Deed → List (Asked DeskCall Reply)
asked_in ds = granted (answers_in ds)

-- what an event takes of a request
abbrev pub taken_from : (request : ℕ) → Event → List RawMessage
taken_from k (call.Take which (Ok (taking.Batch ms))) = if which == k then ms else []
taken_from k _ = []

-- what was taken of a request, behind these events
abbrev pub got_after : (got : ℕ → List RawMessage) → List Deed → ℕ → List RawMessage
got_after got [] k = got k
got_after got (a ∷ ds) k = got_after (λ j. got j ++ taken_from j a.event) ds k

-- A take gives what comes next of that request. A request that is booked is new: nothing was taken of it.
abbrev pub ServedBy : (came got : ℕ → List RawMessage) → Event → Type 0
ServedBy came got (call.Take which (Ok (taking.Batch ms))) = IsFrontOf (got which ++ ms) (came which)
ServedBy came got (call.Book stamp part copying (Ok new)) = got new ≡ []
ServedBy came got _ = Unit {0}

-- Each take gives what comes next of its request, where `came` is what came of each and `got` what was taken before.
abbrev pub Serves : (came got : ℕ → List RawMessage) → List Deed → Type 0
Serves came got [] = Unit {0}
Serves came got (a ∷ ds) = ServedBy came got a.event × Serves came (λ j. got j ++ taken_from j a.event) ds

-- A take or a hanging up was refused, and that is the answer.
pub record EndsRefused {T : Type 0} (ds : List Deed) (q : Dialogue T) : Type 0 where
  pub answer : Result T Error
  pub is : q ≡ Answer answer
  pub refused : IsRefused ds answer

-- a request that is booked is new
abbrev pub NewBy : (got : ℕ → List RawMessage) → Event → Type 0
NewBy got (call.Book stamp part copying (Ok new)) = got new ≡ []
NewBy got _ = Unit {0}

-- of no request that is booked was anything taken before
abbrev pub IsNew : (got : ℕ → List RawMessage) → List Deed → Type 0
IsNew got [] = Unit {0}
IsNew got (a ∷ ds) = NewBy got a.event × IsNew (λ j. got j ++ taken_from j a.event) ds
